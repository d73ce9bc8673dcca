-- What is read is a text of the grammar, with the parts that are read.
use Rattle.std.proofs.Common.{◌≡◌, ◌≢◌, ℕ, subst, suc, zero, true≢false, ◌+◌, ◌-◌, Bool, true, false, cond, not, length, List, [], ◌∷◌, ◌++◌, map, take, drop, refl, sym, ap, ◌∙◌, arith, append_assoc, Option, Some, None, Ok, Err}
use Rattle.std.proofs.lemmas.Bool.{eq-eqb, eqb-true, not-true}
use Rattle.std.proofs.lemmas.Bool.Decides.{nat_tests}
use Rattle.std.proofs.lemmas.List.{take-append-drop}
use Rattle.std.specs.Cmp.{first_so, second_so}
use Rattle.std.specs.Char.{to_ascii_lowercase}
use Rattle.std.specs.Cmp.Lexicographic.{bytes_decides, pointwise}
use Rattle.std.specs.List.{list_any, onto_first, position_or_len, before_first}
use Rattle.std.specs.Option.{option_map, option_and_then}
use Rattle.std.specs.Prelude.{codes, is_some, nat_eq, nat_lt, ◌==◌, ◌&&◌, ◌||◌}
use Rattle.conda_base.specs.Reads.{◌>>=◌}
use Rattle.conda_base.specs.Signs.{close_bracket, colon, comma, equals, open_bracket, slash, space}
use Rattle.conda_base.specs.Texts.{IsFreeOf, begins_with, cut_first, cut_last, ends_with, in_front, is_byte}
use Rattle.conda_base.specs.Numbers.{digits_below}
use Rattle.conda_clause.specs.declared.error.SpecWhy.{SpecWhy}
use Rattle.conda_clause.specs.declared.error.SpecWhy.TheVariants.{Build, Channel, Key, Name, Words}
use Rattle.conda_clause.specs.Clause.{clause_fault}
use Rattle.conda_clause.specs.Faults.{place_of}
use Rattle.conda_clause.specs.Kept.{is_joint, kept}
use Rattle.conda_spec.specs.declared.given.Given.{Given}
use Rattle.conda_spec.specs.declared.given.ItemKey.{ItemKey}
use Rattle.conda_spec.specs.declared.given.ItemKey.TheVariants as keys
use Rattle.conda_spec.specs.Cuts.{cut_colons, without_last}
use Rattle.conda_spec.specs.Grammar.{BeginsClause, Follows, IsEqualClause, IsFront, IsItem, IsItems, IsNamed, IsPlainVersion, IsSpecText, IsValue, IsWords, IsClauseOf, ends_here}
use Rattle.conda_spec.specs.Grammar.BeginsClause.{behind_one, behind_two, compares}
use Rattle.conda_spec.specs.Grammar.Follows.{end, equal, equal_build, signs, spaced, spaced_equal, starts, starts_build}
use Rattle.conda_spec.specs.Grammar.IsFront.{alone as front_alone, in_channel, in_subdir}
use Rattle.conda_spec.specs.Grammar.IsItem.{build as item_build, build_number as item_number, channel as item_channel, subdir as item_subdir, version as item_version}
use Rattle.conda_spec.specs.Grammar.IsItems.{last as items_last, more as items_more}
use Rattle.conda_spec.specs.Grammar.IsNamed.{named}
use Rattle.conda_spec.specs.Grammar.IsSpecText.{bracketed, plain}
use Rattle.conda_spec.specs.Grammar.IsValue.{bare, quoted as in_quotes}
use Rattle.conda_spec.specs.Grammar.IsWords.{alone, with_build}
use Rattle.conda_spec.specs.Parts.{bars_bare, bars_build, bars_channel, ends_name, Front, is_comparison, is_quote, is_sign, is_sign_or_equals, IsFreeWord, NoneOf, nothing, Parts}
use Rattle.conda_spec.specs.Reading.{SpecRead, VersionAndBuild, before_equals, ends_item, quote_behind, brackets_of, build_at, build_word, channel_at, channel_cut, channel_read, clause_at, clause_value, equal_at, equals_cut, equals_read, followed_read, front_cut, front_read, has_key, is_equal_word, is_free, item_cut, item_key, item_read, items_of, items_read, joined_cut, joined_read, key_of, last_word, lead_of, name_read, number_or, spec_parts, put, quoted, spaced_cut, spaced_read, spec_cut, spec_read, value_of, version_of, wanted_read, with_wanted, words_cut, two_words_read, without_quote}
use Rattle.conda_spec.proofs.LowerLaws.{Laws}
use Rattle.conda_spec.proofs.ItemLemmas.{comma_of}
use Rattle.conda_spec.proofs.PartLemmas.{equal_in, front_right, items_right, parts_are}
use Rattle.conda_spec.proofs.SeamLemmas.{last_off}
use Rattle.conda_spec.proofs.ValueLemmas.{free_is, unless_ok}

-- ---- steps of a reading that succeeds

bind_ok : {A B : Type 0} (r : SpecRead A) (next : A → SpecRead B) (y : B) → (r >>= next) ≡ Ok y → (x : A) × (r ≡ Ok x) × (next x ≡ Ok y)
bind_ok (Ok x) next y h = (x, refl, h)
bind_ok (Err e) next y h = absurd (cc)

ok_same : {A : Type 0} (x y : A) → ◌≡◌ {A = SpecRead A} (Ok x) (Ok y) → x ≡ y
ok_same x y h = cc

-- a test that passes, else there is a fault
passed : {A : Type 0} (b : Bool) (read : SpecRead A) (fault : ℕ × SpecWhy) (y : A) → cond b read (Err fault) ≡ Ok y
    → (b ≡ true) × (read ≡ Ok y)
passed true read fault y h = (refl, h)
passed false read fault y h = absurd (cc)

-- a test that must fail
failed : {A : Type 0} (b : Bool) (read : SpecRead A) (fault : ℕ × SpecWhy) (y : A) → cond b (Err fault) read ≡ Ok y
    → (b ≡ false) × (read ≡ Ok y)
failed true read fault y h = absurd (cc)
failed false read fault y h = (refl, h)

-- ---- channels, builds and version clauses

free_only : (bars : ℕ → Bool) (fault : ℕ × SpecWhy) (text x : List ℕ) → cond (is_free bars text) (Ok text) (Err fault) ≡ Ok x
    → (text ≡ x) × IsFreeWord bars x
free_only bars fault [] x h = absurd (cc)
free_only bars fault (b ∷ rest) x h =
    let p = passed (is_free bars (b ∷ rest)) (Ok (b ∷ rest)) fault x h in
    let same : b ∷ rest ≡ x = ok_same (b ∷ rest) x p.1 in (
      same,
      subst (IsFreeWord bars) same
          (free_is bars (b ∷ rest) (omega arith)
          (not-true (list_any bars (b ∷ rest)) (second_so (nat_lt 0 (length (b ∷ rest))) (not (list_any bars (b ∷ rest))) p.0))),
    )

-- a version clause that is read is written by the text
clause_only : (l : Laws) (place : ℕ → ℕ) (start added : ℕ) (text clause : List ℕ) → clause_at place start added text ≡ Ok clause
    → IsClauseOf text clause
unfolding clause_at
clause_only l place start added text clause h =
    let placed : Option (ℕ × SpecWhy) → Option (ℕ × SpecWhy) = option_map (λ fault. (place (start + (fault.0 - added)), fault.1)) in
    let low : List ℕ = map to_ascii_lowercase text in
    let found = unless_ok (placed (clause_fault low)) low clause h in
    let good : clause_fault low ≡ None =
    map_none (λ (fault : ℕ × SpecWhy). (place (start + (fault.0 - added)), fault.1)) (clause_fault low) found.0 in
    (sym found.1, l.clause clause (sym (ap clause_fault found.1) ∙ good))
  where
    map_none : {A B : Type 0} (f : A → B) (o : Option A) → option_map f o ≡ None → o ≡ None
    map_none f None e = refl
    map_none f (Some x) e = absurd (cc)

build_only : (at : ℕ) (text build : List ℕ) → build_at at text ≡ Ok build → (text ≡ build) × IsFreeWord bars_build build
unfolding build_at
build_only at text build h = free_only bars_build (at, Build) text build h

channel_only : (at : ℕ) (text channel : List ℕ) → channel_at at text ≡ Ok channel → (text ≡ channel) × IsFreeWord bars_channel channel
unfolding channel_at
channel_only at text channel h = free_only bars_channel (at, Channel) text channel h

-- ---- words

-- a build that is the last word
word_only : (place : ℕ → ℕ) (start : ℕ) (text build : List ℕ) → build_word place start text ≡ Ok build
    → (text ≡ build) × IsFreeWord bars_build build
unfolding build_word
word_only place start text build h = by (cut_first space text) h
  where
    by : (cut : Option (List ℕ × List ℕ)) → last_word start place text cut ≡ Ok build → (text ≡ build) × IsFreeWord bars_build build
    by None e = build_only (place start) text build e
    by (Some cut) e = let found = bind_ok (build_at (place start) cut.0) _ build e in absurd (cc)

-- the first word
word_of : List ℕ → Option (List ℕ × List ℕ) → List ℕ
word_of text None = text
word_of text (Some cut) = cut.0

-- the text is cut at its first space
CutAtSpace : List ℕ → Option (List ℕ × List ℕ) → Type 0
CutAtSpace text None = IsFreeOf space text
CutAtSpace text (Some cut) = (text ≡ cut.0 ++ space ∷ cut.1) × IsFreeOf space cut.0

cut_is : (l : Laws) (text : List ℕ) → CutAtSpace text (cut_first space text)
unfolding CutAtSpace
cut_is l text = by (cut_first space text) refl
  where
    by : (cut : Option (List ℕ × List ℕ)) → cut_first space text ≡ cut → CutAtSpace text cut
    by None e = (l.no_first space text).0 e
    by (Some cut) e = (l.first space text cut.0 cut.1).0 e

words_only : (l : Laws) (place : ℕ → ℕ) (text : List ℕ) (cut : Option (List ℕ × List ℕ)) (r : VersionAndBuild) → CutAtSpace text cut
    → words_cut place text cut ≡ Ok r → IsWords (word_of text cut) text r.0 r.1
unfolding CutAtSpace word_of
words_only l place text None r at h =
    let found = bind_ok (clause_at place 0 0 text) _ r h in
    let good = clause_only l place 0 0 text found.0 found.1 in
    subst (λ (w : VersionAndBuild). IsWords text text w.0 w.1) (ok_same (Some found.0, None) r found.2) (alone text found.0 good)
words_only l place text (Some cut) r at h =
    let found = bind_ok (clause_at place 0 0 cut.0) _ r h in
    let good = clause_only l place 0 0 cut.0 found.0 found.1 in
    let next = bind_ok (build_word place (length cut.0 + 1) cut.1) _ r found.2 in
    let free = word_only place (length cut.0 + 1) cut.1 next.0 next.1 in
    let whole : cut.0 ++ space ∷ next.0 ≡ text = sym (at.0 ∙ ap (λ b. cut.0 ++ space ∷ b) free.0) in
    subst (λ (w : VersionAndBuild). IsWords cut.0 text w.0 w.1) (ok_same (Some found.0, Some next.0) r next.2)
    (subst (λ t. IsWords cut.0 t (Some found.0) (Some next.0)) whole (with_build cut.0 found.0 next.0 good free.1))

-- ---- behind a space

-- the word isn't `=v`
pub IsOtherWord : List ℕ → Type 0
IsOtherWord word = (v : List ℕ) → NoneOf is_sign_or_equals v → word ≢ equals ∷ v

pub none_any : (p : ℕ → Bool) (xs : List ℕ) → NoneOf p xs → list_any p xs ≡ false
none_any p [] h = refl
none_any p (x ∷ xs) h = rw (h.0) (none_any p xs h.1)

pub any_none : (p : ℕ → Bool) (xs : List ℕ) → list_any p xs ≡ false → NoneOf p xs
any_none p [] h = tt
any_none p (x ∷ xs) h = by (p x) refl h (any_none p xs)
  where
    by : (k : Bool) → p x ≡ k → (k || list_any p xs) ≡ false → (list_any p xs ≡ false → NoneOf p xs) → (p x ≡ false) × NoneOf p xs
    by true e g more = absurd (true≢false g)
    by false e g more = (e, more g)

other_word : (word : List ℕ) → is_equal_word word ≡ false → IsOtherWord word
unfolding IsOtherWord
other_word word h v free e =
    let yes : is_equal_word word ≡ true = ap is_equal_word e ∙ rw (none_any is_sign_or_equals v free) refl in
    true≢false (sym yes ∙ h)

-- a word `=v`
pub equal_word : (word : List ℕ) → is_equal_word word ≡ true → (word ≡ equals ∷ drop 1 word) × NoneOf is_sign_or_equals (drop 1 word)
equal_word [] h = absurd (true≢false (sym h))
equal_word (b ∷ bs) h = by (b == equals) refl (list_any is_sign_or_equals bs) refl h
  where
    by : (k : Bool) → (b == equals) ≡ k → (m : Bool) → list_any is_sign_or_equals bs ≡ m → (k && not m) ≡ true
        → (b ∷ bs ≡ equals ∷ bs) × NoneOf is_sign_or_equals bs
    by true e false f g = (ap (λ c. c ∷ bs) (eqb-true b equals e), any_none is_sign_or_equals bs f)
    by true e true f g = absurd (true≢false (sym g))
    by false e m f g = absurd (true≢false (sym g))

-- "equal to V"
equal_only : (l : Laws) (place : ℕ → ℕ) (start : ℕ) (v clause : List ℕ) → equal_at place start v ≡ Ok clause → IsEqualClause v clause
unfolding equal_at
equal_only l place start v clause h = equal_in v clause (by (ends_with 42 v) h)
  where
    by : (k : Bool) → cond k (clause_at place start 0 v) (clause_at place start 2 (codes "==" ++ v)) ≡ Ok clause
        → IsClauseOf (cond k v (codes "==" ++ v)) clause
    by true e = clause_only l place start 0 v clause e
    by false e = clause_only l place start 2 (codes "==" ++ v) clause e

less_free : (b : ℕ) (bs : List ℕ) → IsFreeOf space (b ∷ bs) → IsFreeOf space bs
less_free b bs h = h.1

pub spaced_only : (place : ℕ → ℕ) (text : List ℕ) (r : VersionAndBuild) → Laws → spaced_read place text ≡ Ok r → Follows true text r.0 r.1
unfolding spaced_read two_words_read CutAtSpace word_of IsOtherWord
spaced_only place text r l h = by (cut_first space text) refl h (cut_is l text)
  where
    by : (cut : Option (List ℕ × List ℕ)) → cut_first space text ≡ cut → spaced_cut place text cut ≡ Ok r → CutAtSpace text cut
        → Follows true text r.0 r.1
    by None e g at =
        let read : words_cut place text None ≡ Ok r = sym (ap (words_cut place text) e) ∙ g in
        let all : IsWords text text r.0 r.1 = words_only l place text None r at read in
        alone_follows all (alone_is (words_only l place text None r at read) read)
      where
        alone_is : IsWords text text r.0 r.1 → words_cut place text None ≡ Ok r → r.1 ≡ None
        alone_is w q =
            let found = bind_ok (clause_at place 0 0 text) _ r q in
            sym (ap (λ (w : VersionAndBuild). w.1) (ok_same (Some found.0, None) r found.2))

        alone_follows : IsWords text text r.0 r.1 → r.1 ≡ None → Follows true text r.0 r.1
        alone_follows w none = spaced text text r.0 r.1 w (λ some. absurd (true≢false (sym (sym (ap is_some none) ∙ some))))
    by (Some cut) e g at = by_word (is_equal_word cut.0) refl g
      where
        by_word : (k : Bool) → is_equal_word cut.0 ≡ k
            → cond k (equal_at place 1 (drop 1 cut.0) >>= λ clause. build_word place (length cut.0 + 1) cut.1 >>= λ build. Ok
            (Some clause, Some build)) (two_words_read place text) ≡ Ok r
            → Follows true text r.0 r.1
        by_word true f q =
            let found = bind_ok (equal_at place 1 (drop 1 cut.0)) _ r q in
            let next = bind_ok (build_word place (length cut.0 + 1) cut.1) _ r found.2 in
            let free = word_only place (length cut.0 + 1) cut.1 next.0 next.1 in
            let word = equal_word cut.0 f in
            let v : List ℕ = drop 1 cut.0 in
            let spaces : IsFreeOf space v = less_free equals v (subst (IsFreeOf space) word.0 at.1) in
            let whole : (equals ∷ v) ++ space ∷ next.0 ≡ text =
            sym (at.0 ∙ ap (λ w. w ++ space ∷ cut.1) word.0 ∙ ap (λ b. (equals ∷ v) ++ space ∷ b) free.0) in
            subst (λ (w : VersionAndBuild). Follows true text w.0 w.1) (ok_same (Some found.0, Some next.0) r next.2)
            (subst (λ t. Follows true t (Some found.0) (Some next.0)) whole
            (spaced_equal v found.0 next.0 (word.1, spaces) (equal_only l place 1 v found.0 found.1) free.1))
        by_word false f q =
            let read : words_cut place text (Some cut) ≡ Ok r = sym (ap (words_cut place text) e) ∙ q in
            spaced cut.0 text r.0 r.1 (words_only l place text (Some cut) r at read) (λ _. other_word cut.0 f)

-- ---- directly behind the name

plain_all : (v : List ℕ) → IsFreeOf equals v → NoneOf is_sign v → NoneOf is_sign_or_equals v
plain_all [] h k = tt
plain_all (b ∷ bs) h k = (rw (h.0) (k.0), plain_all bs h.1 k.1)

pub front_free : (p : ℕ → Bool) (xs ys : List ℕ) → NoneOf p (xs ++ ys) → NoneOf p xs
front_free p [] ys h = tt
front_free p (x ∷ xs) ys h = (h.0, front_free p xs ys h.1)

-- a text is cut at its first `=`
CutAtEquals : List ℕ → Option (List ℕ × List ℕ) → Type 0
CutAtEquals text None = IsFreeOf equals text
CutAtEquals text (Some cut) = (text ≡ cut.0 ++ equals ∷ cut.1) × IsFreeOf equals cut.0

equals_is : (l : Laws) (text : List ℕ) → CutAtEquals text (cut_first equals text)
unfolding CutAtEquals
equals_is l text = by (cut_first equals text) refl
  where
    by : (cut : Option (List ℕ × List ℕ)) → cut_first equals text ≡ cut → CutAtEquals text cut
    by None e = (l.no_first equals text).0 e
    by (Some cut) e = (l.first equals text cut.0 cut.1).0 e

one_only : (l : Laws) (place : ℕ → ℕ) (tail : List ℕ) (cut : Option (List ℕ × List ℕ)) (r : VersionAndBuild)
    → joined_cut place (equals ∷ tail) 1 cut ≡ Ok r → CutAtEquals tail cut
    → NoneOf is_sign (before_equals cut tail) → IsFreeOf space tail → Follows false (equals ∷ tail) r.0 r.1
unfolding CutAtEquals
one_only l place tail None r h at free spaces =
    let found = bind_ok (clause_at place 0 0 (equals ∷ tail)) _ r h in
    subst (λ (w : VersionAndBuild). Follows false (equals ∷ tail) w.0 w.1) (ok_same (Some found.0, None) r found.2)
    (starts tail found.0 (plain_all tail at free, spaces) (clause_only l place 0 0 (equals ∷ tail) found.0 found.1))
one_only l place tail (Some cut) r h at free spaces =
    let found = bind_ok (equal_at place 1 cut.0) _ r h in
    let next = bind_ok (build_at (place (1 + length cut.0 + 1)) cut.1) _ r found.2 in
    let build = build_only (place (1 + length cut.0 + 1)) cut.1 next.0 next.1 in
    let plain : IsPlainVersion cut.0 =
    (plain_all cut.0 at.1 free, front_free (is_byte space) cut.0 (equals ∷ cut.1) (subst (IsFreeOf space) at.0 spaces)) in
    let same : cut.0 ++ equals ∷ next.0 ≡ tail = sym (at.0 ∙ ap (λ b. cut.0 ++ equals ∷ b) build.0) in
    subst (λ (w : VersionAndBuild). Follows false (equals ∷ tail) w.0 w.1) (ok_same (Some found.0, Some next.0) r next.2)
    (subst (λ t. Follows false (equals ∷ t) (Some found.0) (Some next.0)) same
    (starts_build cut.0 found.0 next.0 plain (equal_only l place 1 cut.0 found.0 found.1) build.1))

two_only : (l : Laws) (place : ℕ → ℕ) (tail : List ℕ) (cut : Option (List ℕ × List ℕ)) (r : VersionAndBuild)
    → joined_cut place (equals ∷ equals ∷ tail) 2 cut ≡ Ok r → CutAtEquals tail cut
    → NoneOf is_sign (before_equals cut tail) → IsFreeOf space tail → Follows false (equals ∷ equals ∷ tail) r.0 r.1
unfolding CutAtEquals
two_only l place tail None r h at free spaces =
    let found = bind_ok (clause_at place 0 0 (equals ∷ equals ∷ tail)) _ r h in
    subst (λ (w : VersionAndBuild). Follows false (equals ∷ equals ∷ tail) w.0 w.1) (ok_same (Some found.0, None) r found.2)
    (equal tail found.0 (plain_all tail at free, spaces) (clause_only l place 0 0 (equals ∷ equals ∷ tail) found.0 found.1))
two_only l place tail (Some cut) r h at free spaces =
    let found = bind_ok (clause_at place 0 0 (codes "==" ++ cut.0)) _ r h in
    let next = bind_ok (build_at (place (2 + length cut.0 + 1)) cut.1) _ r found.2 in
    let build = build_only (place (2 + length cut.0 + 1)) cut.1 next.0 next.1 in
    let plain : IsPlainVersion cut.0 =
    (plain_all cut.0 at.1 free, front_free (is_byte space) cut.0 (equals ∷ cut.1) (subst (IsFreeOf space) at.0 spaces)) in
    let same : cut.0 ++ equals ∷ next.0 ≡ tail = sym (at.0 ∙ ap (λ b. cut.0 ++ equals ∷ b) build.0) in
    subst (λ (w : VersionAndBuild). Follows false (equals ∷ equals ∷ tail) w.0 w.1) (ok_same (Some found.0, Some next.0) r next.2)
    (subst (λ t. Follows false (equals ∷ equals ∷ t) (Some found.0) (Some next.0)) same
    (equal_build cut.0 found.0 next.0 plain (clause_only l place 0 0 (codes "==" ++ cut.0) found.0 found.1) build.1))

-- a text that begins with `=`, once or twice
data Lead : List ℕ → Type 0 where
  once : (tail : List ℕ) → begins_with equals tail ≡ false → Lead (equals ∷ tail)
  twice : (tail : List ℕ) → Lead (equals ∷ equals ∷ tail)

lead_is : (word : List ℕ) → begins_with equals word ≡ true → Lead word
lead_is [] h = absurd (true≢false (sym h))
lead_is (b ∷ bs) h = subst (λ c. Lead (c ∷ bs)) (sym (eqb-true b equals h)) (by bs (begins_with equals bs) refl)
  where
    by : (bs : List ℕ) (k : Bool) → begins_with equals bs ≡ k → Lead (equals ∷ bs)
    by bs false e = once bs e
    by [] true e = absurd (true≢false (sym e))
    by (c ∷ cs) true e = subst (λ d. Lead (equals ∷ d ∷ cs)) (sym (eqb-true c equals e)) (twice cs)

joined_only : (l : Laws) (place : ℕ → ℕ) (word : List ℕ) (r : VersionAndBuild) → Lead word → joined_read place word ≡ Ok r
    → NoneOf is_sign (version_of word) → IsFreeOf space word → Follows false word r.0 r.1
unfolding joined_read
joined_only l place word r (once tail other) h free spaces =
    let lead : lead_of (equals ∷ tail) ≡ 1 = ap (λ k. cond k 2 1) other in
    one_only l place tail (cut_first equals tail) r
    (sym (ap (λ n. joined_cut place (equals ∷ tail) n (cut_first equals (drop n (equals ∷ tail)))) lead) ∙ h)
    (equals_is l tail)
    (subst (λ n. NoneOf is_sign (before_equals (cut_first equals (drop n (equals ∷ tail))) (drop n (equals ∷ tail)))) lead free)
    spaces.1
joined_only l place word r (twice tail) h free spaces = two_only l place tail (cut_first equals tail) r h (equals_is l tail) free spaces.1.1

-- a sign stands in the text before any `=`
record SignBefore (text : List ℕ) : Type 0 where
  v : List ℕ
  sign : ℕ
  rest : List ℕ
  whole : text ≡ v ++ sign ∷ rest
  free : IsFreeOf equals v
  is : is_sign sign ≡ true

some_sign : (text : List ℕ) → list_any is_sign text ≡ true → IsFreeOf equals text → SignBefore text
some_sign [] h free = absurd (true≢false (sym h))
some_sign (b ∷ bs) h free = by (is_sign b) refl h (λ g. some_sign bs g free.1)
  where
    by : (k : Bool) → is_sign b ≡ k → (k || list_any is_sign bs) ≡ true → (list_any is_sign bs ≡ true → SignBefore bs) → SignBefore (b ∷ bs)
    by true e g next = record { v = []; sign = b; rest = bs; whole = refl; free = tt; is = e }
    by false e g next =
        let found = next g in
        record {
          v = b ∷ found.v;
          sign = found.sign;
          rest = found.rest;
          whole = ap (λ t. b ∷ t) found.whole;
          free = (free.0, found.free);
          is = found.is;
        }

sign_before : (text : List ℕ) (cut : Option (List ℕ × List ℕ)) → CutAtEquals text cut → list_any is_sign (before_equals cut text) ≡ true
    → SignBefore text
unfolding CutAtEquals
sign_before text None at h = some_sign text h at
sign_before text (Some cut) at h =
    let found = some_sign cut.0 h at.1 in
    record {
      v = found.v;
      sign = found.sign;
      rest = found.rest ++ equals ∷ cut.1;
      whole = at.0 ∙ ap (λ t. t ++ equals ∷ cut.1) found.whole ∙ append_assoc found.v (found.sign ∷ found.rest) (equals ∷ cut.1);
      free = found.free;
      is = found.is;
    }

begins_clause : (l : Laws) (word : List ℕ) → Lead word → list_any is_sign (version_of word) ≡ true → BeginsClause word
begins_clause l word (once tail other) h =
    let lead : lead_of (equals ∷ tail) ≡ 1 = ap (λ k. cond k 2 1) other in
    let found = sign_before tail (cut_first equals tail) (equals_is l tail)
    (subst (λ n. list_any is_sign (before_equals (cut_first equals (drop n (equals ∷ tail))) (drop n (equals ∷ tail))) ≡ true) lead h) in
    subst (λ t. BeginsClause (equals ∷ t)) (sym found.whole) (behind_one found.v found.sign found.rest found.free found.is)
begins_clause l word (twice tail) h =
    let found = sign_before tail (cut_first equals tail) (equals_is l tail) h in
    subst (λ t. BeginsClause (equals ∷ equals ∷ t)) (sym found.whole) (behind_two found.v found.sign found.rest found.free found.is)

-- the first word begins as the text does
word_begins : (b : ℕ) (bs : List ℕ) (cut : Option (List ℕ × List ℕ)) → (b == space) ≡ false → CutAtSpace (b ∷ bs) cut
    → (rest : List ℕ) × (word_of (b ∷ bs) cut ≡ b ∷ rest)
unfolding CutAtSpace word_of
word_begins b bs None other at = (bs, refl)
word_begins b bs (Some cut) other at = by cut.0 (at.0)
  where
    by : (word : List ℕ) → b ∷ bs ≡ word ++ space ∷ cut.1 → (rest : List ℕ) × (word ≡ b ∷ rest)
    by [] e = let same : b ≡ space = cc in absurd (true≢false (sym (eq-eqb b space same) ∙ other))
    by (c ∷ cs) e = let same : b ≡ c = cc in (cs, ap (λ d. d ∷ cs) (sym same))

equals_only : (l : Laws) (place : ℕ → ℕ) (bs : List ℕ) (r : VersionAndBuild) → equals_read place (equals ∷ bs) ≡ Ok r
    → Follows false (equals ∷ bs) r.0 r.1
unfolding equals_read two_words_read CutAtSpace word_of
equals_only l place bs r h = by (cut_first space text) refl h (cut_is l text)
  where
    text : List ℕ
    text = equals ∷ bs

    words_follow : (cut : Option (List ℕ × List ℕ)) → cut_first space text ≡ cut → CutAtSpace text cut → Lead (word_of text cut)
        → list_any is_sign (version_of (word_of text cut)) ≡ true
        → two_words_read place text ≡ Ok r → Follows false text r.0 r.1
    words_follow cut e at lead sign q =
        signs (word_of text cut) text r.0 r.1 (words_only l place text cut r at (sym (ap (words_cut place text) e) ∙ q))
        (begins_clause l (word_of text cut) lead sign)

    by : (cut : Option (List ℕ × List ℕ)) → cut_first space text ≡ cut → equals_cut place text cut ≡ Ok r → CutAtSpace text cut
        → Follows false text r.0 r.1
    by None e g at = by_sign (list_any is_sign (version_of text)) refl g
      where
        by_sign : (k : Bool) → list_any is_sign (version_of text) ≡ k → cond k (two_words_read place text) (joined_read place text) ≡ Ok r
            → Follows false text r.0 r.1
        by_sign true f q = words_follow None e at (lead_is text refl) f q
        by_sign false f q = joined_only l place text r (lead_is text refl) q (any_none is_sign (version_of text) f) at
    by (Some cut) e g at = by_sign (list_any is_sign (version_of cut.0)) refl g
      where
        by_sign : (k : Bool) → list_any is_sign (version_of cut.0) ≡ k
            → cond k (two_words_read place text) (joined_read place cut.0 >>= λ wanted. Err (place (length cut.0 + 1), Words)) ≡ Ok r
            → Follows false text r.0 r.1
        by_sign true f q =
            let first = word_begins equals bs (Some cut) refl at in
            words_follow (Some cut) e at (lead_is cut.0 (ap (begins_with equals) first.1)) f q
        by_sign false f q = let found = bind_ok (joined_read place cut.0) _ r q in absurd (cc)

pub wanted_only : (l : Laws) (place : ℕ → ℕ) (apart : Bool) (text : List ℕ) (r : VersionAndBuild) → wanted_read place apart text ≡ Ok r
    → Follows apart text r.0 r.1
unfolding wanted_read two_words_read
wanted_only l place apart [] r h = subst (λ (w : VersionAndBuild). Follows apart [] w.0 w.1) (ok_same (None, None) r h) (end apart)
wanted_only l place apart (b ∷ bs) r h = by apart (failed (is_joint b) _ _ r h).1
  where
    text : List ℕ
    text = b ∷ bs

    by_comparison : (b == equals) ≡ false → cond (is_comparison b) (two_words_read place text) (Err (place 0, Words)) ≡ Ok r
        → Follows false text r.0 r.1
    by_comparison other q =
        let p = passed (is_comparison b) (two_words_read place text) (place 0, Words) r q in
        let bare : (b == space) ≡ false = comparison_bare b p.0 in
        let first = word_begins b bs (cut_first space text) bare (cut_is l text) in
        signs (word_of text (cut_first space text)) text r.0 r.1 (words_only l place text (cut_first space text) r (cut_is l text) p.1)
        (subst BeginsClause (sym first.1) (compares b first.0 p.0))
      where
        comparison_bare : (b : ℕ) → is_comparison b ≡ true → (b == space) ≡ false
        comparison_bare b h = grind (arith, nat_tests)

    by_equals : (k : Bool) → (b == equals) ≡ k
        → cond k (equals_read place text) (cond (is_comparison b) (two_words_read place text) (Err (place 0, Words))) ≡ Ok r
        → Follows false text r.0 r.1
    by_equals true e q =
        let same : b ≡ equals = eqb-true b equals e in
        subst (λ c. Follows false (c ∷ bs) r.0 r.1) (sym same)
        (equals_only l place bs r (sym (ap (λ c. equals_read place (c ∷ bs)) same) ∙ q))
    by_equals false e q = by_comparison e q

    by : (k : Bool) → cond k (spaced_read place text)
        (cond (b == equals) (equals_read place text) (cond (is_comparison b) (two_words_read place text) (Err (place 0, Words)))) ≡ Ok r
        → Follows k text r.0 r.1
    by true q = spaced_only place text r l q
    by false q = by_equals (b == equals) refl q

-- ---- the name and the channel

followed_only : (l : Laws) (at : ℕ) (text : List ℕ) (r : VersionAndBuild) → followed_read at text ≡ Ok r
    → Follows (begins_with space text) (kept text) r.0 r.1
unfolding followed_read
followed_only l at text r h = wanted_only l (λ i. at + place_of text i) (begins_with space text) (kept text) r h

-- the characters before the first that ends a name, and what follows them
record Run (text : List ℕ) (written rest : List ℕ) : Type 0 where
  free : NoneOf ends_name written
  ends : ends_here rest ≡ true

run_is : (text : List ℕ) → Run text (before_first ends_name text) (drop (position_or_len ends_name text) text)
run_is [] = record { free = tt; ends = refl }
run_is (b ∷ bs) = by (ends_name b) refl (run_is bs)
  where
    Runs : ℕ → Type 0
    Runs n = Run (b ∷ bs) (take n (b ∷ bs)) (drop n (b ∷ bs))

    by : (k : Bool) → ends_name b ≡ k → Run bs (before_first ends_name bs) (drop (position_or_len ends_name bs) bs)
        → Runs (position_or_len ends_name (b ∷ bs))
    by true e more =
        let n : position_or_len ends_name (b ∷ bs) ≡ 0 = rw e refl in
        subst Runs (sym n) (record { free = tt; ends = e })
    by false e more =
        let n : position_or_len ends_name (b ∷ bs) ≡ suc (position_or_len ends_name bs) = rw e (omega arith) in
        subst Runs (sym n) (record { free = (e, more.free); ends = more.ends })

some_run : (text : List ℕ) → (position_or_len ends_name text == 0) ≡ false → before_first ends_name text ≢ []
some_run [] h e = absurd (true≢false h)
some_run (b ∷ bs) h e = by (position_or_len ends_name (b ∷ bs)) h e
  where
    by : (n : ℕ) → (n == 0) ≡ false → take n (b ∷ bs) ≡ [] → ⊥
    by zero g q = true≢false g
    by (suc n) g q = absurd (cc)

named_only : (l : Laws) (given : Given) (at : ℕ) (text : List ℕ) (found : Front) → name_read given at text ≡ Ok found
    → (name : List ℕ) × (r : VersionAndBuild) × ((name, with_wanted given r) ≡ found) × IsNamed text name r.0 r.1
unfolding name_read
named_only l given at text found h =
    let n : ℕ = position_or_len ends_name text in
    let fault : ℕ × SpecWhy = (at, Name) in
    let t = failed (n == 0) _ fault found h in
    let next = bind_ok (followed_read (at + n) (drop n text)) _ found t.1 in
    let run = run_is text in
    let is : IsNamed (take n text ++ drop n text) (map to_ascii_lowercase (take n text)) next.0.0 next.0.1 =
    named (take n text) (drop n text) next.0.0 next.0.1 (some_run text t.0) run.free run.ends
    (followed_only l (at + n) (drop n text) next.0 next.1)
    in
    let given_front : Front = (map to_ascii_lowercase (take n text), with_wanted given next.0) in (
      map to_ascii_lowercase (take n text),
      next.0,
      ok_same given_front found next.2,
      subst (λ t. IsNamed t (map to_ascii_lowercase (take n text)) next.0.0 next.0.1) (take-append-drop n text) is,
    )

-- the text is cut at its first `/`
CutAtSlash : List ℕ → Option (List ℕ × List ℕ) → Type 0
CutAtSlash text None = Unit {0}
CutAtSlash text (Some cut) = text ≡ cut.0 ++ slash ∷ cut.1

slash_is : (l : Laws) (text : List ℕ) → CutAtSlash text (cut_first slash text)
unfolding CutAtSlash
slash_is l text = by (cut_first slash text) refl
  where
    by : (cut : Option (List ℕ × List ℕ)) → cut_first slash text ≡ cut → CutAtSlash text cut
    by None e = tt
    by (Some cut) e = ((l.first slash text cut.0 cut.1).0 e).0

colons_some : (text : List ℕ) (cut : List ℕ × List ℕ) → cut_colons text ≡ Some cut → text ≡ cut.0 ++ (codes "::" ++ cut.1)
colons_some [] cut h = absurd (cc)
colons_some (b ∷ bs) cut h = by (b == colon && begins_with colon bs) refl h (λ c. colons_some bs c)
  where
    begins : (bs : List ℕ) → begins_with colon bs ≡ true → bs ≡ colon ∷ drop 1 bs
    begins [] e = absurd (true≢false (sym e))
    begins (c ∷ cs) e = ap (λ d. d ∷ cs) (eqb-true c colon e)

    map_front : (o : Option (List ℕ × List ℕ)) → option_map (in_front b) o ≡ Some cut
        → ((c : List ℕ × List ℕ) → o ≡ Some c → bs ≡ c.0 ++ (codes "::" ++ c.1)) → b ∷ bs ≡ cut.0 ++ (codes "::" ++ cut.1)
    map_front None e more = absurd (cc)
    map_front (Some c) e more =
        let same : in_front b c ≡ cut = cc in
        ap (λ t. b ∷ t) (more c refl) ∙ ap (λ (q : List ℕ × List ℕ). q.0 ++ (codes "::" ++ q.1)) same

    by : (k : Bool) → (b == colon && begins_with colon bs) ≡ k
        → cond k (Some ([], drop 1 bs)) (option_map (in_front b) (cut_colons bs)) ≡ Some cut
        → ((c : List ℕ × List ℕ) → cut_colons bs ≡ Some c → bs ≡ c.0 ++ (codes "::" ++ c.1)) → b ∷ bs ≡ cut.0 ++ (codes "::" ++ cut.1)
    by true e g more =
        let here : b ≡ colon = eqb-true b colon (first_so (b == colon) (begins_with colon bs) e) in
        let next : bs ≡ colon ∷ drop 1 bs = begins bs (second_so (b == colon) (begins_with colon bs) e) in
        let behind : List ℕ × List ℕ = ([], drop 1 bs) in
        let same : behind ≡ cut = cc in
        ap (λ c. c ∷ bs) here ∙ ap (λ t. colon ∷ t) next ∙ ap (λ (q : List ℕ × List ℕ). q.0 ++ (codes "::" ++ q.1)) same
    by false e g more = map_front (cut_colons bs) g more

colons_none : (text : List ℕ) → cut_colons text ≡ None → (before rest : List ℕ) → text ≢ before ++ (codes "::" ++ rest)
colons_none text h [] rest e =
    let here : cut_colons text ≡ Some ([], rest) = ap cut_colons e in
    absurd (cc)
colons_none [] h (c ∷ cs) rest e = absurd (cc)
colons_none (b ∷ bs) h (c ∷ cs) rest e = by (b == colon && begins_with colon bs) h (λ g. colons_none bs g cs rest)
  where
    map_none : (o : Option (List ℕ × List ℕ)) → option_map (in_front b) o ≡ None → o ≡ None
    map_none None g = refl
    map_none (Some x) g = absurd (cc)

    by : (k : Bool) → cond k (Some ([], drop 1 bs)) (option_map (in_front b) (cut_colons bs)) ≡ None
        → (cut_colons bs ≡ None → bs ≢ cs ++ (codes "::" ++ rest)) → ⊥
    by true g more = absurd (cc)
    by false g more = more (map_none (cut_colons bs) g) cc

front_only : (l : Laws) (text : List ℕ) (found : Front) → front_read text ≡ Ok found → IsFront text found
unfolding front_read channel_read CutAtSlash
front_only l text found h = by (cut_colons text) refl h
  where
    in_channels : (before rest : List ℕ) (given : Given) (cut : Option (List ℕ × List ℕ)) → CutAtSlash before cut
        → channel_cut before cut ≡ Ok given → text ≡ before ++ (codes "::" ++ rest)
        → name_read given (length before + 2) rest ≡ Ok found → IsFront text found
    in_channels before rest given None at g e q =
        let read = bind_ok (channel_at 0 before) _ given g in
        let is = channel_only 0 before read.0 read.1 in
        let n = named_only l given (length before + 2) rest found q in
        let one : Given = record nothing { channel = Some read.0 } in
        let same : (n.0, with_wanted one n.1) ≡ found = ap (λ (g : Given). (n.0, with_wanted g n.1)) (ok_same one given read.2) ∙ n.2 in
        subst (IsFront text) same
        (subst (λ t. IsFront t (n.0, with_wanted one n.1)) (sym (e ∙ ap (λ t. t ++ (codes "::" ++ rest)) is.0))
        (in_channel read.0 rest n.0 n.1.0 n.1.1 is.1 n.3))
    in_channels before rest given (Some cut) at g e q =
        let read = bind_ok (channel_at 0 cut.0) _ given g in
        let next = bind_ok (channel_at 0 cut.1) _ given read.2 in
        let is = channel_only 0 cut.0 read.0 read.1 in
        let its = channel_only 0 cut.1 next.0 next.1 in
        let n = named_only l given (length before + 2) rest found q in
        let both : Given = record nothing { channel = Some read.0; subdir = Some next.0 } in
        let same : (n.0, with_wanted both n.1) ≡ found = ap (λ (g : Given). (n.0, with_wanted g n.1)) (ok_same both given next.2) ∙ n.2 in
        let parts : before ≡ read.0 ++ slash ∷ next.0 = at ∙ ap (λ c. c ++ slash ∷ cut.1) is.0 ∙ ap (λ s. read.0 ++ slash ∷ s) its.0 in
        subst (IsFront text) same
        (subst (λ t. IsFront t (n.0, with_wanted both n.1)) (sym (e ∙ ap (λ t. t ++ (codes "::" ++ rest)) parts))
        (in_subdir read.0 next.0 rest n.0 n.1.0 n.1.1 is.1 its.1 n.3))

    by : (cut : Option (List ℕ × List ℕ)) → cut_colons text ≡ cut → front_cut text cut ≡ Ok found → IsFront text found
    by None e g =
        let n = named_only l nothing 0 text found g in
        subst (IsFront text) n.2 (front_alone text n.0 n.1.0 n.1.1 (colons_none text e) n.3)
    by (Some cut) e g =
        let read = bind_ok (channel_read cut.0) _ found g in
        in_channels cut.0 cut.1 read.0 (cut_first slash cut.0) (slash_is l cut.0) read.1 (colons_some text cut e) read.2

-- ---- the brackets

pub last_some : (mark : ℕ) (text front : List ℕ) → without_last mark text ≡ Some front → text ≡ front ++ mark ∷ []
last_some mark [] front h = absurd (cc)
last_some mark (b ∷ []) front h = by (b == mark) refl h
  where
    by : (k : Bool) → (b == mark) ≡ k → cond k (Some []) None ≡ Some front → b ∷ [] ≡ front ++ mark ∷ []
    by true e g = let none : [] ≡ front = cc in ap (λ c. c ∷ []) (eqb-true b mark e) ∙ ap (λ t. t ++ mark ∷ []) none
    by false e g = absurd (cc)
last_some mark (b ∷ c ∷ cs) front h = by (without_last mark (c ∷ cs)) h (λ t. last_some mark (c ∷ cs) t)
  where
    by : (o : Option (List ℕ)) → option_map (λ front. b ∷ front) o ≡ Some front → ((t : List ℕ) → o ≡ Some t → c ∷ cs ≡ t ++ mark ∷ [])
        → b ∷ c ∷ cs ≡ front ++ mark ∷ []
    by None g more = absurd (cc)
    by (Some t) g more = let same : b ∷ t ≡ front = cc in ap (λ q. b ∷ q) (more t refl) ∙ ap (λ q. q ++ mark ∷ []) same

any_free : (c : ℕ) (text : List ℕ) → list_any (is_byte c) text ≡ false → IsFreeOf c text
any_free c text h = any_none (is_byte c) text h

value_same : (text : List ℕ) (place v : ℕ × List ℕ) → Some place ≡ Some v → IsValue text place.1 → IsValue text v.1
value_same text place v e h = let same : place ≡ v = cc in subst (λ (q : ℕ × List ℕ). IsValue text q.1) same h

quoted_only : (at b : ℕ) (text front : List ℕ) (v : ℕ × List ℕ) (held : Bool) → is_quote b ≡ true → text ≡ front ++ b ∷ []
    → list_any (is_byte b) front ≡ held
    → option_map (λ t. (at + 1, t)) (cond held None (Some front)) ≡ Some v → IsValue (b ∷ text) v.1
quoted_only at b text front v true q e f g = absurd (cc)
quoted_only at b text front v false q e f g =
    value_same (b ∷ text) (at + 1, front) v g (subst (λ w. IsValue (b ∷ w) front) (sym e) (in_quotes b front q (any_free b front f)))

value_only : (at : ℕ) (text : List ℕ) (v : ℕ × List ℕ) → value_of at text ≡ Some v → IsValue text v.1
value_only at [] v h = value_same [] (at, []) v h (bare [] tt)
value_only at (b ∷ bs) v h = by (is_quote b) refl h
  where
    text : List ℕ
    text = b ∷ bs

    by_end : (o : Option (List ℕ)) → without_last b bs ≡ o → is_quote b ≡ true
        → option_map (λ t. (at + 1, t)) (option_and_then (without_quote b) o) ≡ Some v → IsValue text v.1
    by_end None e q g = absurd (cc)
    by_end (Some t) e q g = quoted_only at b bs t v (list_any (is_byte b) t) q (last_some b bs t e) refl g

    by_bars : (k : Bool) → list_any bars_bare text ≡ k → cond k None (Some (at, text)) ≡ Some v → IsValue text v.1
    by_bars true e g = absurd (cc)
    by_bars false e g = value_same text (at, text) v g (bare text (any_none bars_bare text e))

    by : (k : Bool) → is_quote b ≡ k
        → cond k (option_map (λ t. (at + 1, t)) (quoted b bs)) (cond (list_any bars_bare text) None (Some (at, text))) ≡ Some v
        → IsValue text v.1
    by true e g = by_end (without_last b bs) refl e g
    by false e g = by_bars (list_any bars_bare text) refl g

key_text : ItemKey → List ℕ
key_text keys.Version = codes "version"
key_text keys.Build = codes "build"
key_text keys.BuildNumber = codes "build_number"
key_text keys.Channel = codes "channel"
key_text keys.Subdir = codes "subdir"

some_key : (a b : ItemKey) → Some a ≡ Some b → a ≡ b
some_key a b h = cc

key_only : (text : List ℕ) (key : ItemKey) → key_of text ≡ Some key → text ≡ key_text key
unfolding key_text
key_only text key h = first (pointwise nat_eq text (codes "version")) refl h
  where
    is : (word : List ℕ) (own : ItemKey) → pointwise nat_eq text word ≡ true → word ≡ key_text own → Some own ≡ Some key
        → text ≡ key_text key
    is word own e w g = (bytes_decides text word).0 e ∙ w ∙ ap key_text (some_key own key g)

    fifth : (k : Bool) → pointwise nat_eq text (codes "subdir") ≡ k → cond k (Some keys.Subdir) None ≡ Some key → text ≡ key_text key
    fifth true e g = is (codes "subdir") keys.Subdir e refl g
    fifth false e g = absurd (cc)

    fourth : (k : Bool) → pointwise nat_eq text (codes "channel") ≡ k
        → cond k (Some keys.Channel) (cond (pointwise nat_eq text (codes "subdir")) (Some keys.Subdir) None) ≡ Some key
        → text ≡ key_text key
    fourth true e g = is (codes "channel") keys.Channel e refl g
    fourth false e g = fifth (pointwise nat_eq text (codes "subdir")) refl g

    third : (k : Bool) → pointwise nat_eq text (codes "build_number") ≡ k
        → cond k (Some keys.BuildNumber)
        (cond (pointwise nat_eq text (codes "channel")) (Some keys.Channel)
        (cond (pointwise nat_eq text (codes "subdir")) (Some keys.Subdir) None)) ≡ Some key → text ≡ key_text key
    third true e g = is (codes "build_number") keys.BuildNumber e refl g
    third false e g = fourth (pointwise nat_eq text (codes "channel")) refl g

    second : (k : Bool) → pointwise nat_eq text (codes "build") ≡ k
        → cond k (Some keys.Build)
        (cond (pointwise nat_eq text (codes "build_number")) (Some keys.BuildNumber)
        (cond (pointwise nat_eq text (codes "channel")) (Some keys.Channel)
        (cond (pointwise nat_eq text (codes "subdir")) (Some keys.Subdir) None))) ≡ Some key
        → text ≡ key_text key
    second true e g = is (codes "build") keys.Build e refl g
    second false e g = third (pointwise nat_eq text (codes "build_number")) refl g

    first : (k : Bool) → pointwise nat_eq text (codes "version") ≡ k
        → cond k (Some keys.Version)
        (cond (pointwise nat_eq text (codes "build")) (Some keys.Build)
        (cond (pointwise nat_eq text (codes "build_number")) (Some keys.BuildNumber)
        (cond (pointwise nat_eq text (codes "channel")) (Some keys.Channel)
        (cond (pointwise nat_eq text (codes "subdir")) (Some keys.Subdir) None)))) ≡ Some key
        → text ≡ key_text key
    first true e g = is (codes "version") keys.Version e refl g
    first false e g = second (pointwise nat_eq text (codes "build")) refl g

is_none_of : {A : Type 0} (o : Option A) → is_some o ≡ false → o ≡ None
is_none_of None h = refl
is_none_of (Some x) h = absurd (true≢false h)

put_only : (l : Laws) (given behind : Given) (key : ItemKey) (at : ℕ) (v : ℕ × List ℕ) (written : List ℕ) → IsValue written v.1
    → has_key given key ≡ false → put given key at v ≡ Ok behind
    → IsItem given (key_text key ++ equals ∷ written) behind
unfolding put key_text clause_value
put_only l given behind keys.Version at v written value new h =
    let found = bind_ok (clause_value v.0 v.1) _ behind h in
    let after : Given = record given { version = Some found.0 } in
    subst (IsItem given (codes "version=" ++ written)) (ok_same after behind found.2)
    (item_version given written v.1 found.0 (is_none_of given.version new) value
    (clause_only l (λ i. v.0 + place_of v.1 i) 0 0 (kept v.1) found.0 found.1))
put_only l given behind keys.Build at v written value new h =
    let found = bind_ok (build_at v.0 v.1) _ behind h in
    let free = build_only v.0 v.1 found.0 found.1 in
    let after : Given = record given { build = Some found.0 } in
    subst (IsItem given (codes "build=" ++ written)) (ok_same after behind found.2)
    (item_build given written found.0 (is_none_of given.build new) (subst (IsValue written) free.0 value) free.1)
put_only l given behind keys.BuildNumber at v written value new h =
    let found = bind_ok (number_or at (digits_below 18446744073709551616 v.1)) _ behind h in
    let after : Given = record given { number = Some found.0 } in
    subst (IsItem given (codes "build_number=" ++ written)) (ok_same after behind found.2)
    (item_number given written v.1 found.0 (is_none_of given.number new) value
    (number_some (digits_below 18446744073709551616 v.1) found.0 found.1))
  where
    number_some : (o : Option ℕ) (n : ℕ) → number_or at o ≡ Ok n → o ≡ Some n
    number_some None n e = absurd (cc)
    number_some (Some m) n e = ap Some (ok_same m n e)
put_only l given behind keys.Channel at v written value new h =
    let found = bind_ok (channel_at v.0 v.1) _ behind h in
    let free = channel_only v.0 v.1 found.0 found.1 in
    let after : Given = record given { channel = Some found.0 } in
    subst (IsItem given (codes "channel=" ++ written)) (ok_same after behind found.2)
    (item_channel given written found.0 (is_none_of given.channel new) (subst (IsValue written) free.0 value) free.1)
put_only l given behind keys.Subdir at v written value new h =
    let found = bind_ok (channel_at v.0 v.1) _ behind h in
    let free = channel_only v.0 v.1 found.0 found.1 in
    let after : Given = record given { subdir = Some found.0 } in
    subst (IsItem given (codes "subdir=" ++ written)) (ok_same after behind found.2)
    (item_subdir given written found.0 (is_none_of given.subdir new) (subst (IsValue written) free.0 value) free.1)

item_only : (l : Laws) (given behind : Given) (at : ℕ) (text : List ℕ) → item_read given at text ≡ Ok behind → IsItem given text behind
unfolding item_read
item_only l given behind at text h = by (cut_first equals text) refl h
  where
    by_value : (key : List ℕ) (written : List ℕ) (k : Option ItemKey) (v : Option (ℕ × List ℕ)) → key_of key ≡ k
        → value_of (at + length key + 1) written ≡ v → item_key given at k v ≡ Ok behind
        → IsItem given (key ++ equals ∷ written) behind
    by_value key written None v e f g = absurd (cc)
    by_value key written (Some k) None e f g = absurd (cc)
    by_value key written (Some k) (Some v) e f g =
        let fault : ℕ × SpecWhy = (at, Key) in
        let t = failed (has_key given k) (put given k at v) fault behind g in
        subst (λ q. IsItem given (q ++ equals ∷ written) behind) (sym (key_only key k e))
        (put_only l given behind k at v written (value_only (at + length key + 1) written v f) t.0 t.1)

    by : (cut : Option (List ℕ × List ℕ)) → cut_first equals text ≡ cut → item_cut given at cut ≡ Ok behind → IsItem given text behind
    by None e g = absurd (cc)
    by (Some cut) e g =
        subst (λ t. IsItem given t behind) (sym (((l.first equals text cut.0 cut.1).0 e).0))
        (by_value cut.0 cut.1 (key_of cut.0) (value_of (at + length cut.0 + 1) cut.1) refl refl g)

-- items with `,` between each two
joined_items : List (List ℕ) → List ℕ
joined_items [] = []
joined_items (item ∷ []) = item
joined_items (item ∷ next ∷ items) = item ++ comma ∷ joined_items (next ∷ items)

items_only : (l : Laws) (given behind : Given) (at : ℕ) (item : List ℕ) (items : List (List ℕ))
    → items_read given at (item ∷ items) ≡ Ok behind → IsItems given (joined_items (item ∷ items)) behind
unfolding items_read joined_items
items_only l given behind at item [] h =
    let found = bind_ok (item_read given at item) _ behind h in
    subst (IsItems given item) (ok_same found.0 behind found.2) (items_last given found.0 item (item_only l given found.0 at item found.1))
items_only l given behind at item (next ∷ items) h =
    let found = bind_ok (item_read given at item) _ behind h in
    items_more given found.0 behind item (joined_items (next ∷ items)) (item_only l given found.0 at item found.1)
    (items_only l found.0 behind (at + length item + 1) next items found.2)

pieces_join : (mark : Option ℕ) (text : List ℕ)
    → (item : List ℕ) × (items : List (List ℕ)) × (items_of mark text ≡ item ∷ items) × (joined_items (item ∷ items) ≡ text)
unfolding joined_items
pieces_join mark [] = ([], [], refl, refl)
pieces_join mark (b ∷ bs) = by (ends_item mark b) refl (pieces_join None bs) (pieces_join (quote_behind mark b) bs)
  where
    Pieces : Option ℕ → List ℕ → Type 0
    Pieces mark text =
        (item : List ℕ) × (items : List (List ℕ)) × (items_of mark text ≡ item ∷ items) × (joined_items (item ∷ items) ≡ text)

    onto : (item : List ℕ) (items : List (List ℕ)) → joined_items ((b ∷ item) ∷ items) ≡ b ∷ joined_items (item ∷ items)
    onto item [] = refl
    onto item (next ∷ items) = refl

    by : (k : Bool) → ends_item mark b ≡ k → Pieces None bs → Pieces (quote_behind mark b) bs → Pieces mark (b ∷ bs)
    by true e rest inner =
        let here : items_of mark (b ∷ bs) ≡ [] ∷ items_of None bs =
        ap (λ k. cond k ([] ∷ items_of None bs) (onto_first b (items_of (quote_behind mark b) bs))) e in (
          [],
          rest.0 ∷ rest.1,
          here ∙ ap (λ (q : List (List ℕ)). [] ∷ q) rest.2,
          ap (λ t. comma ∷ t) rest.3
              ∙ ap (λ c. c ∷ bs) (sym (comma_of mark b e)),
        )
    by false e rest inner =
        let here : items_of mark (b ∷ bs) ≡ onto_first b (items_of (quote_behind mark b) bs) =
        ap (λ k. cond k ([] ∷ items_of None bs) (onto_first b (items_of (quote_behind mark b) bs))) e in
        (b ∷ inner.0, inner.1, here ∙ ap (onto_first b) inner.2, onto inner.0 inner.1 ∙ ap (λ t. b ∷ t) inner.3)

inside_only : (l : Laws) (given behind : Given) (at : ℕ) (text : List ℕ) → items_read given at (items_of None text) ≡ Ok behind
    → IsItems given text behind
inside_only l given behind at text h =
    let all = pieces_join None text in
    subst (λ t. IsItems given t behind) all.3 (items_only l given behind at all.0 all.1 (sym (ap (items_read given at) all.2) ∙ h))

-- ---- the whole

brackets_some : (l : Laws) (text : List ℕ) (cut : List ℕ × List ℕ) → brackets_of text ≡ Some cut
    → (text ≡ (cut.0 ++ open_bracket ∷ cut.1) ++ close_bracket ∷ []) × IsFreeOf open_bracket cut.1
brackets_some l text cut h = by (without_last close_bracket text) refl h
  where
    by : (o : Option (List ℕ)) → without_last close_bracket text ≡ o → option_and_then (cut_last open_bracket) o ≡ Some cut
        → (text ≡ (cut.0 ++ open_bracket ∷ cut.1) ++ close_bracket ∷ []) × IsFreeOf open_bracket cut.1
    by None e g = absurd (cc)
    by (Some t) e g =
        let at = (l.last open_bracket t cut.0 cut.1).0 g in
        (last_some close_bracket text t e ∙ ap (λ q. q ++ close_bracket ∷ []) at.0, at.1)

brackets_none : (l : Laws) (text : List ℕ) → brackets_of text ≡ None → (before inside : List ℕ)
    → text ≢ (before ++ open_bracket ∷ inside) ++ close_bracket ∷ []
brackets_none l text h before inside e =
    let t : List ℕ = before ++ open_bracket ∷ inside in
    let none : cut_last open_bracket t ≡ None =
    sym (ap brackets_of e ∙ ap (option_and_then (cut_last open_bracket)) (last_off close_bracket t)) ∙ h in
    stands before inside ((l.no_last open_bracket t).0 none)
  where
    stands : (before inside : List ℕ) → IsFreeOf open_bracket (before ++ open_bracket ∷ inside) → ⊥
    stands [] inside free = true≢false (free.0)
    stands (b ∷ bs) inside free = stands bs inside free.1

pub spec_only : (l : Laws) (text : List ℕ) (parts : Parts) → spec_read text ≡ Ok parts → IsSpecText text parts
unfolding spec_read
spec_only l text parts h = by (brackets_of text) refl h
  where
    by : (cut : Option (List ℕ × List ℕ)) → brackets_of text ≡ cut → spec_cut text cut ≡ Ok parts → IsSpecText text parts
    by None e g =
        let found = bind_ok (front_read text) _ parts g in
        let front = front_only l text found.0 found.1 in
        subst (IsSpecText text) (ok_same (spec_parts found.0 nothing) parts found.2)
        (plain text found.0 (spec_parts found.0 nothing) (brackets_none l text e) front
        (parts_are l found.0 nothing (front_right l text found.0 front) tt))
    by (Some cut) e g =
        let found = bind_ok (front_read cut.0) _ parts g in
        let next = bind_ok (items_read nothing (length cut.0 + 1) (items_of None cut.1)) _ parts found.2 in
        let at = brackets_some l text cut e in
        let front = front_only l cut.0 found.0 found.1 in
        let inside = inside_only l nothing next.0 (length cut.0 + 1) cut.1 next.1 in
        subst (IsSpecText text) (ok_same (spec_parts found.0 next.0) parts next.2)
        (subst (λ t. IsSpecText t (spec_parts found.0 next.0)) (sym at.0)
        (bracketed cut.0 cut.1 found.0 next.0 (spec_parts found.0 next.0) at.1 front inside
        (parts_are l found.0 next.0 (front_right l cut.0 found.0 front) (items_right l nothing next.0 cut.1 inside tt))))
