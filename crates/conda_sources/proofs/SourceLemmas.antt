-- What is read of channels names packages plainly, and there is always something that was found of them.
use Rattle.std.proofs.Common.{◌≡◌, ◌∙◌, ℕ, Bool, true, false, cond, List, [], ◌∷◌, length, ap, refl, subst, sym}
use Rattle.std.specs.Prelude.{All, IfOk, IfSome, IsErrAnd, map, nat_le, Ok, Err, Option, None, Result, Some}
use Rattle.std.proofs.lemmas.List.Elements.{All-append, All-cons, All-head, All-nil, All-tail}
use Rattle.std.specs.Option.{option_to_list}
use Rattle.conda_base.specs.Reads.{Read, ◌>>=◌}
use Rattle.conda_device.specs.Channels.{Files}
use Rattle.conda_record.specs.declared.pkg_record.PkgRecord.{PkgRecord}
use Rattle.conda_repodata.specs.Reading.{repodata_read}
use Rattle.conda_repodata.specs.declared.error.RepodataField.{RepodataField}
use Rattle.conda_repodata.specs.declared.repodata.Repodata.{Repodata}
use Rattle.conda_index.specs.Pools.{NamesPlainly, given}
use Rattle.conda_index.specs.declared.virtuals.Virtual.{Virtual}
use Rattle.conda_sources.specs.Channels.{AreFound, Found, IsTold, found_in, linux_64, noarch, printed_path}
use Rattle.conda_sources.specs.Reading.{channel_read, channels_read, of_text, part_read, parts_read, repodata_limit, unless_missing}
use Rattle.conda_sources.specs.Sources.{IsSourced}
use Rattle.conda_sources.specs.declared.error.SourceErr.{SourceErr}
use Rattle.conda_sources.specs.declared.error.SourceErr.TheVariants as errors
use Rattle.conda_sources.proofs.PlainLemmas.{Laws, text_plain}

-- ---- plain records

-- no entry of a part's records names packages by a star
abbrev IsPlainPart : Repodata → Type 0
IsPlainPart part = All NamesPlainly part.recs

abbrev ArePlain : List Repodata → Type 0
ArePlain parts = All IsPlainPart parts

abbrev IsPlainSubdir : Option Repodata → Type 0
IsPlainSubdir part = ArePlain (option_to_list part)

given_plain : (parts : List Repodata) → ArePlain parts → All NamesPlainly (given parts)
given_plain [] h = All-nil NamesPlainly
given_plain (part ∷ parts) h =
    All-append NamesPlainly part.recs (given parts) (All-head IsPlainPart part parts h)
    (given_plain parts (All-tail IsPlainPart part parts h))

-- what is read next is of a kind, where what was read is of one
next_is : {A B Fault : Type 0} (P : A → Type 0) (Q : B → Type 0) (read : Read A Fault) (next : A → Read B Fault) → IfOk read P
    → ((x : A) → P x → IfOk (next x) Q) → IfOk (read >>= next) Q
next_is P Q (Ok x) next h k = k x h
next_is P Q (Err fault) next h k = tt

unless_missing_is : (P : List Repodata → Type 0) (channel : List ℕ) (linux other : Option (List ℕ)) (parts : Read (List Repodata) SourceErr)
    → IfOk parts P → IfOk (unless_missing channel linux other parts) P
unless_missing_is P channel None None parts h = tt
unless_missing_is P channel None (Some text) parts h = h
unless_missing_is P channel (Some text) other parts h = h

module _ (laws : Laws) where
  of_text_plain : (path text channel subdir : List ℕ) (read : Read Repodata RepodataField) → repodata_read text channel subdir ≡ read
      → IfOk (of_text path read) IsPlainSubdir
  of_text_plain path text channel subdir (Ok part) e =
      All-cons IsPlainPart part [] (text_plain laws text channel subdir part e) (All-nil IsPlainPart)
  of_text_plain path text channel subdir (Err field) e = tt

  subdir_plain : (channel subdir : List ℕ) (text : Option (List ℕ)) → IfOk (part_read channel subdir text) IsPlainSubdir
  subdir_plain channel subdir None = All-nil IsPlainPart
  subdir_plain channel subdir (Some text) = by (nat_le (length text) repodata_limit)
    where
      by : (b : Bool) → IfOk (cond b (of_text (printed_path channel subdir) (repodata_read text channel subdir))
          (Err (errors.LongRepodata (printed_path channel subdir)))) IsPlainSubdir
      by true = of_text_plain (printed_path channel subdir) text channel subdir (repodata_read text channel subdir) refl
      by false = tt

  parts_plain : (found : Found) → IfOk (parts_read found) ArePlain
  parts_plain found =
      next_is IsPlainSubdir ArePlain (part_read found.channel linux_64 found.linux_64) _
      (subdir_plain found.channel linux_64 found.linux_64)
      (λ first f. next_is IsPlainSubdir ArePlain (part_read found.channel noarch found.noarch) _
      (subdir_plain found.channel noarch found.noarch)
      (λ second s. All-append IsPlainPart (option_to_list first) (option_to_list second) f s))

  channel_plain : (found : Found) → IfOk (channel_read found) ArePlain
  channel_plain found =
      unless_missing_is ArePlain found.channel found.linux_64 found.noarch (parts_read found) (parts_plain found)

  channels_plain : (found : List Found) → IfOk (channels_read found) ArePlain
  channels_plain [] = All-nil IsPlainPart
  channels_plain (found ∷ others) =
      next_is ArePlain ArePlain (channel_read found) _ (channel_plain found)
      (λ first f. next_is ArePlain ArePlain (channels_read others) _ (channels_plain others)
      (λ behind b. All-append IsPlainPart first behind f b))

  pub read_plain : (found : List Found) (parts : List Repodata) → channels_read found ≡ Ok parts → All NamesPlainly (given parts)
  read_plain found parts h = given_plain parts (subst (λ read. IfOk read ArePlain) h (channels_plain found))

-- ---- what was found

abbrev found_of : List ℕ → Option Files → Found
found_of name None = record { channel = name; linux_64 = None; noarch = None }
found_of name (Some all) = found_in name all

name_of : (name : List ℕ) (told : Option Files) → (found_of name told).channel ≡ name
name_of name None = refl
name_of name (Some all) = refl

is_told : (files : List ℕ → Option Files) (name : List ℕ) (told : Option Files) → files name ≡ told → IsTold files (found_of name told)
is_told files name None e = subst (λ o. IfSome o (λ all. found_of name None ≡ found_in name all)) (sym e) tt
is_told files name (Some some) e = subst (λ o. IfSome o (λ all. found_in name some ≡ found_in name all)) (sym e) refl

-- something was found of whatever channels
pub any_found : (files : List ℕ → Option Files) (names : List (List ℕ)) → (found : List Found) × AreFound files names found
any_found files [] = ([], record { named = refl; told = All-nil (IsTold files) })
any_found files (name ∷ names) =
    let others = any_found files names in
    let one = found_of name (files name) in (
      one ∷ others.0,
      record {
        named =
            ap (λ n. n ∷ map (λ (f : Found). f.channel) others.0) (name_of name (files name))
            ∙ ap (λ ns. name ∷ ns) others.1.named;
        told = All-cons (IsTold files) one others.0 (is_told files name (files name) refl) others.1.told;
      },
    )

-- want of memory may come whatever was found
pub no_memory : (files : List ℕ → Option Files) (names : List (List ℕ)) (virtuals : List Virtual) (result : Result (List PkgRecord) SourceErr)
    → IsErrAnd result (λ e. e ≡ errors.Memory)
    → (found : List Found) × AreFound files names found × IsSourced virtuals found result
no_memory files names virtuals (Ok index) h = absurd h
no_memory files names virtuals (Err e) h =
    let some = any_found files names in
    (some.0, some.1, subst (λ (error : SourceErr). IsSourced virtuals some.0 (Err error)) (sym h) tt)
