-- What is read of a channel that tells its files, and what was asked of it.
use Rattle.std.proofs.Common.{inl, inr, ◌≡◌, ◌⊎◌, ◌+◌, ◌<◌, ◌≤◌, ℕ, Bool, true, false, List, [], ◌∷◌, ◌++◌, Option, Some, None, refl, sym, ap, subst, ◌∙◌, arith, append_assoc, length, take}
use Rattle.std.proofs.lemmas.Bool.{leb-false, leb-true, lt-leb, true≢false}
use Rattle.std.proofs.lemmas.List.{append-nil, drop_more, length-take-le, map-append, take-append-drop, take_all, take_more}
use Rattle.std.specs.Prelude.{All, Err, IfSome, Ok, OnOk, Result, drop, is_none, map, nat_le, slice_index_or, if◌then◌else◌, option_map, option_and_then}
use Rattle.std.specs.Option.{option_to_list}
use Rattle.std.specs.Result.{is_err}
use Rattle.std.specs.FinMap as tree
use Rattle.std.proofs.lemmas.List.Elements.{All-append, All-cons, All-nil}
use Rattle.conda_base.specs.Reads.{Gives, Read, ◌>>=◌}
use Rattle.conda_path.specs.declared.values.Kind.{Kind}
use Rattle.conda_path.specs.declared.values.Kind.TheVariants.{File, Exec, Soft}
use Rattle.conda_path.specs.declared.values.Node.{Node}
use Rattle.conda_device.specs.Channels as device
use Rattle.conda_device.specs.Channels.{Files, asked_too, first_bytes}
use Rattle.conda_device.specs.Fault.{BeforeOrAsked}
use Rattle.conda_repodata.specs.Reading.{repodata_read}
use Rattle.conda_repodata.specs.declared.error.RepodataField.{RepodataField}
use Rattle.conda_repodata.specs.declared.repodata.Repodata.{Repodata}
use Rattle.conda_sources.specs.Asked.{AsksOnlyForRepodata, IsRepodata}
use Rattle.conda_sources.specs.Channels.{AreFound, Found, IsTold, bytes_as, found_in, linux_64, noarch, printed_path, repodata_path, text_in}
use Rattle.conda_sources.specs.Reading.{behind_read, channel_read, channels_read, of_text, part_read, parts_read, repodata_limit, text_fault_of, unless_missing}
use Rattle.conda_sources.specs.declared.error.SourceErr.{SourceErr}
use Rattle.conda_sources.specs.declared.error.SourceErr.TheVariants.{BadRepodata, LongRepodata}

-- ---- the first bytes of a text

first_of_kind : (max : ℕ) (kind : Kind) (bytes : List ℕ) → device.bytes_as max kind bytes ≡ option_map (take max) (bytes_as kind bytes)
first_of_kind max File bytes = refl
first_of_kind max Exec bytes = refl
first_of_kind max Soft target = refl

first_of_node : (max : ℕ) (found : Option Node)
    → option_and_then (device.bytes_of max) found ≡ option_map (take max) (option_and_then (λ node. bytes_as node.kind node.bytes) found)
first_of_node max None = refl
first_of_node max (Some node) = first_of_kind max node.kind node.bytes

first_text : (max : ℕ) (all : Files) (subdir : List ℕ) → first_bytes max all (repodata_path subdir) ≡ option_map (take max) (text_in all subdir)
first_text max all subdir = first_of_node max (tree.get all (repodata_path subdir))

pub told_text : (max : ℕ) (files : Option Files) (subdir path : List ℕ) (read : Option (List ℕ)) → path ≡ repodata_path subdir
    → IfSome files (λ all. read ≡ first_bytes max all path) → IfSome files (λ all. read ≡ option_map (take max) (text_in all subdir))
told_text max None subdir path read same is = tt
told_text max (Some all) subdir path read same is = is ∙ ap (first_bytes max all) same ∙ first_text max all subdir

-- ---- a text that is read up to one byte behind its limit

if_false : {A : Type 0} (b : Bool) (x y : A) → b ≡ false → (if b then x else y) ≡ y
if_false true x y same = absurd (true≢false same)
if_false false x y same = refl

-- it is short, and all of it is read, or it is seen to be too long
long_or_same : (n : ℕ) (text : List ℕ)
    → (take (n + 1) text ≡ text) ⊎ ((nat_le (length text) n ≡ false) × (nat_le (length (take (n + 1) text)) n ≡ false))
long_or_same n text = by (nat_le (length text) n) refl
  where
    by : (b : Bool) → nat_le (length text) n ≡ b
        → (take (n + 1) text ≡ text) ⊎ ((nat_le (length text) n ≡ false) × (nat_le (length (take (n + 1) text)) n ≡ false))
    by true short = let le : length text ≤ n = leb-true (length text) n short in inl (take_all (n + 1) text (omega (arith, le)))
    by false long =
        let gt : n < length text = leb-false (length text) n long in
        let cut : length (take (n + 1) text) ≡ n + 1 = length-take-le (n + 1) text (omega (arith, gt)) in
        inr (long, ap (λ k. nat_le k n) cut ∙ lt-leb (n + 1) n (omega arith))

part_cut : (channel subdir : List ℕ) (text : Option (List ℕ))
    → part_read channel subdir (option_map (take (repodata_limit + 1)) text) ≡ part_read channel subdir text
part_cut channel subdir None = refl
part_cut channel subdir (Some text) = by (long_or_same repodata_limit text)
  where
    by : (take (repodata_limit + 1) text ≡ text)
        ⊎ ((nat_le (length text) repodata_limit ≡ false) × (nat_le (length (take (repodata_limit + 1) text)) repodata_limit ≡ false))
        → part_read channel subdir (Some (take (repodata_limit + 1) text)) ≡ part_read channel subdir (Some text)
    by (inl same) = ap (λ t. part_read channel subdir (Some t)) same
    by (inr long) =
        if_false (nat_le (length (take (repodata_limit + 1) text)) repodata_limit) _ _ long.1
        ∙ sym (if_false (nat_le (length text) repodata_limit) _ _ long.0)

-- ---- a subdir

-- what the subdir has, where that is told
abbrev pub HasText : Option Files → List ℕ → Option (List ℕ) → Type 0
HasText files subdir text = IfSome files (λ all. text ≡ text_in all subdir)

-- what is answered of such a text
abbrev pub ReadsPart : Option Files → List ℕ → List ℕ → Result (Option Repodata) SourceErr → Type 0
ReadsPart files channel subdir result =
    (text : Option (List ℕ)) × HasText files subdir text × Gives text_fault_of result (part_read channel subdir text)

some_text : (files : Option Files) (subdir : List ℕ) → (text : Option (List ℕ)) × HasText files subdir text
some_text None subdir = (None, tt)
some_text (Some all) subdir = (text_in all subdir, refl)

read_told : (files : Option Files) (channel subdir : List ℕ) (read : Option (List ℕ))
    → IfSome files (λ all. read ≡ option_map (take (repodata_limit + 1)) (text_in all subdir))
    → (text : Option (List ℕ)) × HasText files subdir text × (part_read channel subdir read ≡ part_read channel subdir text)
read_told None channel subdir read is = (read, tt, refl)
read_told (Some all) channel subdir read is =
    (text_in all subdir, refl, ap (part_read channel subdir) is ∙ part_cut channel subdir (text_in all subdir))

-- what is answered of the bytes that were read
pub part_answered : (files : Option Files) (channel subdir : List ℕ) (read : Option (List ℕ)) (result : Result (Option Repodata) SourceErr)
    → IfSome files (λ all. read ≡ option_map (take (repodata_limit + 1)) (text_in all subdir))
    → Gives text_fault_of result (part_read channel subdir read) → ReadsPart files channel subdir result
part_answered files channel subdir read result is gives =
    let text = read_told files channel subdir read is in
    (text.0, text.1, subst (Gives text_fault_of result) text.2 gives)

-- an error that names no text may always come
pub free : {A : Type 0} (error : SourceErr) (read : Read A SourceErr) → text_fault_of error ≡ None → Gives text_fault_of (Err error) read
free error read none = subst (λ f. IfSome f (λ fault. read ≡ Err fault)) (sym none) tt

pub part_unread : (files : Option Files) (channel subdir : List ℕ) (error : SourceErr) → text_fault_of error ≡ None
    → ReadsPart files channel subdir (Err error)
part_unread files channel subdir error none =
    let text = some_text files subdir in (text.0, text.1, free error (part_read channel subdir text.0) none)

-- ---- a channel

abbrev found_of : List ℕ → Option (List ℕ) → Option (List ℕ) → Found
found_of channel first second = record { channel = channel; linux_64 = first; noarch = second }

-- what is answered of what was found of a channel
abbrev pub ReadsChannel : Option Files → List ℕ → Result (List Repodata) SourceErr → Type 0
ReadsChannel files channel result =
    (found : Found) × (found.channel ≡ channel) × IfSome files (λ all. found ≡ found_in channel all)
    × Gives text_fault_of result (channel_read found)

told_found : (files : Option Files) (channel : List ℕ) (first second : Option (List ℕ)) → HasText files linux_64 first
    → HasText files noarch second → IfSome files (λ all. found_of channel first second ≡ found_in channel all)
told_found None channel first second f s = tt
told_found (Some all) channel first second f s =
    ap (λ x. found_of channel x second) f ∙ ap (found_of channel (text_in all linux_64)) s

ok_err : {A : Type 0} (x : A) (fault : SourceErr) → (let r : Read A SourceErr = Ok x in r) ≡ Err fault → ⊥
ok_err x fault e = cc

err_ok : {A : Type 0} (x : A) (fault : SourceErr) → (let r : Read A SourceErr = Err fault in r) ≡ Ok x → ⊥
err_ok x fault e = cc

ok_same : {A : Type 0} (x y : A) → (let r : Read A SourceErr = Ok x in r) ≡ Ok y → x ≡ y
ok_same x y e = cc

abbrev both : Option Repodata → Option Repodata → List Repodata
both one two = option_to_list one ++ option_to_list two

linux_fails : (channel : List ℕ) (first second : Option (List ℕ)) (fault : SourceErr) → part_read channel linux_64 first ≡ Err fault
    → channel_read (found_of channel first second) ≡ Err fault
linux_fails channel None second fault e = absurd (ok_err None fault e)
linux_fails channel (Some text) second fault e =
    ap (λ r. r >>= (λ one. part_read channel noarch second >>= (λ two. Ok (both one two)))) e

parts_fail : (channel : List ℕ) (first second : Option (List ℕ)) (one : Option Repodata) (fault : SourceErr)
    → part_read channel linux_64 first ≡ Ok one → part_read channel noarch second ≡ Err fault
    → parts_read (found_of channel first second) ≡ Err fault
parts_fail channel first second one fault e f =
    ap (λ r. r >>= (λ one. part_read channel noarch second >>= (λ two. Ok (both one two)))) e
    ∙ ap (λ r. r >>= (λ two. Ok (both one two))) f

noarch_fails : (channel : List ℕ) (first second : Option (List ℕ)) (one : Option Repodata) (fault : SourceErr)
    → part_read channel linux_64 first ≡ Ok one → part_read channel noarch second ≡ Err fault
    → channel_read (found_of channel first second) ≡ Err fault
noarch_fails channel first None one fault e f = absurd (ok_err None fault f)
noarch_fails channel None (Some text) one fault e f = parts_fail channel None (Some text) one fault e f
noarch_fails channel (Some first) (Some text) one fault e f = parts_fail channel (Some first) (Some text) one fault e f

parts_same : (channel : List ℕ) (first second : Option (List ℕ)) (one two : Option Repodata)
    → part_read channel linux_64 first ≡ Ok one → part_read channel noarch second ≡ Ok two
    → parts_read (found_of channel first second) ≡ Ok (both one two)
parts_same channel first second one two e f =
    ap (λ r. r >>= (λ one. part_read channel noarch second >>= (λ two. Ok (both one two)))) e
    ∙ ap (λ r. r >>= (λ two. Ok (both one two))) f

-- a subdir has a part exactly where it has a text
text_there : (path : List ℕ) (read : Read Repodata RepodataField) (one : Option Repodata) → of_text path read ≡ Ok one → is_none one ≡ false
text_there path (Ok part) one e = ap is_none (sym (ok_same (Some part) one e))
text_there path (Err field) one e = absurd (err_ok one (BadRepodata path field) e)

part_there : (channel subdir text : List ℕ) (one : Option Repodata) → part_read channel subdir (Some text) ≡ Ok one → is_none one ≡ false
part_there channel subdir text one = by (nat_le (length text) repodata_limit)
  where
    path : List ℕ
    path = printed_path channel subdir

    by : (b : Bool) → (if b then of_text path (repodata_read text channel subdir) else Err (LongRepodata path)) ≡ Ok one → is_none one ≡ false
    by true e = text_there path (repodata_read text channel subdir) one e
    by false e = absurd (err_ok one (LongRepodata path) e)

same_there : (channel subdir : List ℕ) (text : Option (List ℕ)) (one : Option Repodata) → part_read channel subdir text ≡ Ok one
    → is_none text ≡ is_none one
same_there channel subdir None one e = ap is_none (ok_same None one e)
same_there channel subdir (Some text) one e = sym (part_there channel subdir text one e)

unless_same : {A B : Type 0} (channel : List ℕ) (a b : Option A) (c d : Option B) (parts : Read (List Repodata) SourceErr)
    → is_none a ≡ is_none c → is_none b ≡ is_none d → unless_missing channel a b parts ≡ unless_missing channel c d parts
unless_same channel None None None None parts e f = refl
unless_same channel None None None (Some d) parts e f = absurd (true≢false f)
unless_same channel None None (Some c) d parts e f = absurd (true≢false e)
unless_same channel None (Some b) None None parts e f = absurd (true≢false (sym f))
unless_same channel None (Some b) None (Some d) parts e f = refl
unless_same channel None (Some b) (Some c) d parts e f = absurd (true≢false e)
unless_same channel (Some a) b None d parts e f = absurd (true≢false (sym e))
unless_same channel (Some a) b (Some c) d parts e f = refl

both_read : (channel : List ℕ) (first second : Option (List ℕ)) (one two : Option Repodata)
    → part_read channel linux_64 first ≡ Ok one → part_read channel noarch second ≡ Ok two
    → unless_missing channel one two (Ok (both one two)) ≡ channel_read (found_of channel first second)
both_read channel first second one two e f =
    sym (unless_same channel first second one two (Ok (both one two)) (same_there channel linux_64 first one e) (same_there channel noarch second two f))
    ∙ ap (unless_missing channel first second) (sym (parts_same channel first second one two e f))

pub linux_unread : (files : Option Files) (channel : List ℕ) (error : SourceErr) → ReadsPart files channel linux_64 (Err error)
    → ReadsChannel files channel (Err error)
linux_unread files channel error (first, has, gives) =
    let second = some_text files noarch in
    (found_of channel first second.0, refl, told_found files channel first second.0 has second.1, by (text_fault_of error) gives)
  where
    by : (fault : Option SourceErr) → IfSome fault (λ fault. part_read channel linux_64 first ≡ Err fault)
        → IfSome fault (λ fault. channel_read (found_of channel first (some_text files noarch).0) ≡ Err fault)
    by None is = tt
    by (Some fault) is = linux_fails channel first (some_text files noarch).0 fault is

behind_same : (channel : List ℕ) (first second : Option (List ℕ)) (one : Option Repodata) → part_read channel linux_64 first ≡ Ok one
    → behind_read channel one second ≡ channel_read (found_of channel first second)
behind_same channel first second one is_first = by (part_read channel noarch second) refl
  where
    by : (read : Read (Option Repodata) SourceErr) → part_read channel noarch second ≡ read
        → behind_read channel one second ≡ channel_read (found_of channel first second)
    by (Ok two) is = ap (λ r. r >>= (λ two. unless_missing channel one two (Ok (both one two)))) is ∙ both_read channel first second one two is_first is
    by (Err fault) is =
        ap (λ r. r >>= (λ two. unless_missing channel one two (Ok (both one two)))) is ∙ sym (noarch_fails channel first second one fault is_first is)

-- what is answered of both subdirs, behind the part of `linux-64`
abbrev pub ReadsBehind : Option Files → List ℕ → Option Repodata → Result (List Repodata) SourceErr → Type 0
ReadsBehind files channel one result =
    (text : Option (List ℕ)) × HasText files noarch text × Gives text_fault_of result (behind_read channel one text)

pub channel_answered : (files : Option Files) (channel : List ℕ) (one : Option Repodata) (result : Result (List Repodata) SourceErr)
    → ReadsPart files channel linux_64 (Ok one) → ReadsBehind files channel one result → ReadsChannel files channel result
channel_answered files channel one result (first, has, is_first) (second, has_second, gives) = (
  found_of channel first second,
  refl,
  told_found files channel first second has has_second,
  subst (Gives text_fault_of result) (behind_same channel first second one is_first) gives,
)

pub behind_unread : (files : Option Files) (channel : List ℕ) (one : Option Repodata) (error : SourceErr)
    → ReadsPart files channel noarch (Err error) → ReadsBehind files channel one (Err error)
behind_unread files channel one error (text, has, gives) = (text, has, by (text_fault_of error) gives)
  where
    by : (fault : Option SourceErr) → IfSome fault (λ fault. part_read channel noarch text ≡ Err fault)
        → IfSome fault (λ fault. behind_read channel one text ≡ Err fault)
    by None is = tt
    by (Some fault) is = ap (λ r. r >>= (λ two. unless_missing channel one two (Ok (both one two)))) is

pub behind_answered : (files : Option Files) (channel : List ℕ) (one two : Option Repodata) (result : Result (List Repodata) SourceErr)
    → ReadsPart files channel noarch (Ok two) → Gives text_fault_of result (unless_missing channel one two (Ok (both one two)))
    → ReadsBehind files channel one result
behind_answered files channel one two result (text, has, is) gives =
    (text, has, subst (Gives text_fault_of result) (sym (ap (λ r. r >>= (λ two. unless_missing channel one two (Ok (both one two)))) is)) gives)

-- ---- what is asked for

pub asks_once : (before now : Option (List (List ℕ))) (path : List ℕ) → IsRepodata path → BeforeOrAsked before (asked_too before path) now
    → AsksOnlyForRepodata before now
asks_once None now path is asked = tt
asks_once (Some all) now path is (inl same) = ([], same ∙ ap Some (sym (append-nil all)), All-nil IsRepodata)
asks_once (Some all) now path is (inr more) = (path ∷ [], more, All-cons IsRepodata path [] is (All-nil IsRepodata))

asks_both : (before between now : Option (List (List ℕ))) → AsksOnlyForRepodata before between → AsksOnlyForRepodata between now
    → AsksOnlyForRepodata before now
asks_both None between now first behind = tt
asks_both (Some all) between now (first, is, are) behind = by (subst (λ b. AsksOnlyForRepodata b now) is behind)
  where
    by : AsksOnlyForRepodata (Some (all ++ first)) now → AsksOnlyForRepodata (Some all) now
    by (more, e, others) = (first ++ more, e ∙ ap Some (append_assoc all first more), All-append IsRepodata first more are others)

pub asks_twice : (before between now : Option (List (List ℕ))) → BeforeOrAsked before (asked_too before (repodata_path linux_64)) between
    → BeforeOrAsked between (asked_too between (repodata_path noarch)) now → AsksOnlyForRepodata before now
asks_twice before between now first behind =
    asks_both before between now (asks_once before between (repodata_path linux_64) (inl refl) first)
    (asks_once between now (repodata_path noarch) (inr refl) behind)

-- ---- channels

-- for each name something is found that is what the channel has, where it tells its files
pub some_found : (files : List ℕ → Option Files) (name : List ℕ) → (found : Found) × (found.channel ≡ name) × IsTold files found
some_found files name = by (files name) refl
  where
    by : (told : Option Files) → files name ≡ told → (found : Found) × (found.channel ≡ name) × IsTold files found
    by None is = (found_of name None None, refl, subst (λ t. IfSome t (λ all. found_of name None None ≡ found_in name all)) (sym is) tt)
    by (Some files_told) is =
        (found_in name files_told, refl, subst (λ t. IfSome t (λ all. found_in name files_told ≡ found_in name all)) (sym is) refl)

pub unread : (files : List ℕ → Option Files) (name : List ℕ) (error : SourceErr) → text_fault_of error ≡ None
    → (found : Found) × (found.channel ≡ name) × IsTold files found × Gives text_fault_of (let r : Result (List Repodata) SourceErr = Err error in r) (channel_read found)
unread files name error none =
    let found = some_found files name in (found.0, found.1, found.2, free error (channel_read found.0) none)

-- in front of others
pub found_too : (files : List ℕ → Option Files) (name : List ℕ) (names : List (List ℕ)) (one : Found) (found : List Found)
    → one.channel ≡ name → IsTold files one → AreFound files names found → AreFound files (name ∷ names) (one ∷ found)
found_too files name names one found same told are = record {
  named = ap (λ c. c ∷ map (λ (f : Found). f.channel) found) same ∙ ap (λ ns. name ∷ ns) are.named;
  told = All-cons (IsTold files) one found told are.told;
}

pub all_found : (files : List ℕ → Option Files) (names : List (List ℕ)) → (found : List Found) × AreFound files names found
all_found files [] = ([], record { named = refl; told = All-nil (IsTold files) })
all_found files (name ∷ names) =
    let one = some_found files name in
    let others = all_found files names in
    (one.0 ∷ others.0, found_too files name names one.0 others.0 one.1 one.2 others.1)

-- what was found of so many channels, and the parts that it is read as
abbrev pub IsReadSoFar : (List ℕ → Option Files) → List (List ℕ) → List Repodata → Type 0
IsReadSoFar files names parts = (found : List Found) × AreFound files names found × (channels_read found ≡ Ok parts)

-- what is answered of channels
abbrev pub ReadsChannels : (List ℕ → Option Files) → List (List ℕ) → Result (List Repodata) SourceErr → Type 0
ReadsChannels files names result = (found : List Found) × AreFound files names found × Gives text_fault_of result (channels_read found)

-- what is read behind parts
abbrev onto : List Repodata → Read (List Repodata) SourceErr → Read (List Repodata) SourceErr
onto parts read = read >>= (λ more. Ok (parts ++ more))

onto_none : (read : Read (List Repodata) SourceErr) → read ≡ onto [] read
onto_none (Ok more) = refl
onto_none (Err fault) = refl

onto_both : (first rest : List Repodata) (read : Read (List Repodata) SourceErr) → onto first (onto rest read) ≡ onto (first ++ rest) read
onto_both first rest (Ok more) = ap Ok (sym (append_assoc first rest more))
onto_both first rest (Err fault) = refl

module _ (x : Found) (xs ys : List Found) (parts : List Repodata)
    (behind : (rest : List Repodata) → channels_read xs ≡ Ok rest → channels_read (xs ++ ys) ≡ onto rest (channels_read ys)) where
  read_one_more : channels_read (x ∷ xs) ≡ Ok parts → (one : Read (List Repodata) SourceErr) → channel_read x ≡ one
      → (others : Read (List Repodata) SourceErr) → channels_read xs ≡ others → channels_read (x ∷ (xs ++ ys)) ≡ onto parts (channels_read ys)
  read_one_more is (Ok first) e (Ok rest) f =
      let whole : (let r : Read (List Repodata) SourceErr = Ok (first ++ rest) in r) ≡ Ok parts =
      sym (ap (λ r. r >>= (λ a. channels_read xs >>= (λ b. Ok (a ++ b)))) e ∙ ap (onto first) f) ∙ is in
      ap (λ r. r >>= (λ a. channels_read (xs ++ ys) >>= (λ b. Ok (a ++ b)))) e
      ∙ ap (onto first) (behind rest f)
      ∙ onto_both first rest (channels_read ys)
      ∙ ap (λ p. onto p (channels_read ys)) (ok_same (first ++ rest) parts whole)
  read_one_more is (Ok first) e (Err fault) f =
      absurd (err_ok parts fault (sym (ap (λ r. r >>= (λ a. channels_read xs >>= (λ b. Ok (a ++ b)))) e ∙ ap (onto first) f) ∙ is))
  read_one_more is (Err fault) e others f =
      absurd (err_ok parts fault (sym (ap (λ r. r >>= (λ a. channels_read xs >>= (λ b. Ok (a ++ b)))) e) ∙ is))

read_behind_found : (xs : List Found) (parts : List Repodata) → channels_read xs ≡ Ok parts → (ys : List Found)
    → channels_read (xs ++ ys) ≡ onto parts (channels_read ys)
read_behind_found [] parts is ys = onto_none (channels_read ys) ∙ ap (λ p. onto p (channels_read ys)) (ok_same [] parts is)
read_behind_found (x ∷ xs) parts is ys =
    read_one_more x xs ys parts (λ rest f. read_behind_found xs rest f ys) is (channel_read x) refl (channels_read xs) refl

found_behind : (files : List ℕ → Option Files) (names more : List (List ℕ)) (xs ys : List Found) → AreFound files names xs
    → AreFound files more ys → AreFound files (names ++ more) (xs ++ ys)
found_behind files names more xs ys f g = record {
  named = map-append (λ (f : Found). f.channel) xs ys ∙ ap (λ n. n ++ map (λ (f : Found). f.channel) ys) f.named ∙ ap (λ n. names ++ n) g.named;
  told = All-append (IsTold files) xs ys f.told g.told;
}

-- what is answered of a channel of this name
abbrev pub ReadsOne : (List ℕ → Option Files) → List ℕ → Result (List Repodata) SourceErr → Type 0
ReadsOne files name result = (found : Found) × (found.channel ≡ name) × IsTold files found × Gives text_fault_of result (channel_read found)

-- the next channel is read
pub channels_more : (files : List ℕ → Option Files) (names : List (List ℕ)) (name : List ℕ) (parts more : List Repodata) → IsReadSoFar files names parts
    → (found : Found) × (found.channel ≡ name) × IsTold files found × (channel_read found ≡ Ok more) → IsReadSoFar files (names ++ name ∷ []) (parts ++ more)
channels_more files names name parts more (found, are, is) (one, same, told, read) = (
  found ++ one ∷ [],
  found_behind files names (name ∷ []) found (one ∷ []) are (found_too files name [] one [] same told (record { named = refl; told = All-nil (IsTold files) })),
  read_behind_found found parts is (one ∷ [])
      ∙ ap (λ r. onto parts (r >>= (λ a. Ok (a ++ [])))) read
      ∙ ap (λ m. Ok (parts ++ m)) (append-nil more),
)

-- the next channel is refused, and so are all from it on
pub channels_stop : (files : List ℕ → Option Files) (names : List (List ℕ)) (name : List ℕ) (behind : List (List ℕ)) (parts : List Repodata) (error : SourceErr)
    → IsReadSoFar files names parts
    → (found : Found) × (found.channel ≡ name) × IsTold files found × Gives text_fault_of (let r : Result (List Repodata) SourceErr = Err error in r) (channel_read found)
    → ReadsChannels files (names ++ name ∷ behind) (Err error)
channels_stop files names name behind parts error (found, are, is) (one, same, told, gives) =
    let rest = all_found files behind in (
      found ++ one ∷ rest.0,
      found_behind files names (name ∷ behind) found (one ∷ rest.0) are (found_too files name behind one rest.0 same told rest.1),
      by rest.0 (text_fault_of error) gives,
    )
  where
    by : (rest : List Found) (fault : Option SourceErr) → IfSome fault (λ fault. channel_read one ≡ Err fault)
        → IfSome fault (λ fault. channels_read (found ++ one ∷ rest) ≡ Err fault)
    by rest None h = tt
    by rest (Some fault) h =
        read_behind_found found parts is (one ∷ rest)
        ∙ ap (λ r. onto parts (r >>= (λ a. channels_read rest >>= (λ b. Ok (a ++ b))))) h

-- there was no memory
pub channels_starved : (files : List ℕ → Option Files) (names : List (List ℕ)) (error : SourceErr) → text_fault_of error ≡ None
    → ReadsChannels files names (Err error)
channels_starved files names error none =
    let found = all_found files names in (found.0, found.1, free error (channels_read found.0) none)

pub none_read : (files : List ℕ → Option Files) → IsReadSoFar files [] []
none_read files = ([], record { named = refl; told = All-nil (IsTold files) }, refl)

-- names round one of them
pub names_round : (names : List (List ℕ)) (at : ℕ) (name : List ℕ) → at < length names → name ≡ slice_index_or names at name
    → take at names ++ name ∷ drop (at + 1) names ≡ names
names_round names at name below is =
    ap (λ rest. take at names ++ rest) (ap (λ n. n ∷ drop (at + 1) names) is ∙ sym (drop_more names at name below)) ∙ take-append-drop at names

pub names_more : (names : List (List ℕ)) (at : ℕ) (name : List ℕ) → at < length names → name ≡ slice_index_or names at name
    → take at names ++ name ∷ [] ≡ take (at + 1) names
names_more names at name below is = ap (λ n. take at names ++ n ∷ []) is ∙ sym (take_more names at name below)

-- what holds of a call that went well
pub went_well : {A E : Type 0} (result : Result A E) (P : Type 0) → OnOk result P → false ≡ is_err result → P
went_well (Ok x) P holds well = holds
went_well (Err error) P holds well = absurd (true≢false (sym well))
