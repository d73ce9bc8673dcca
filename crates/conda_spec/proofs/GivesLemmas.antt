-- Every text of the grammar is read, with its parts.
use Rattle.std.proofs.Common.{◌≡◌, ◌≢◌, ℕ, subst, true≢false, ◌+◌, ◌-◌, Bool, true, false, cond, length, List, [], ◌∷◌, ◌++◌, map, take, drop, refl, sym, ap, ◌∙◌, arith, append-nil, append_assoc, Option, Some, None, Ok, Err}
use Rattle.std.proofs.lemmas.Bool.{eq-eqb, eqb-true}
use Rattle.std.proofs.lemmas.Bool.Decides.{nat_tests}
use Rattle.std.proofs.Math.Bool.{or-true}
use Rattle.std.proofs.Math.Seq.{take-append_seam, drop-append_seam}
use Rattle.std.specs.Cmp.{first_so, second_so}
use Rattle.std.specs.Char.{to_ascii_lowercase}
use Rattle.std.specs.List.{list_all, list_any, onto_first, position_or_len}
use Rattle.std.specs.Option.{option_map, option_and_then}
use Rattle.std.specs.Prelude.{codes, is_some, IsSome, ◌==◌, ◌&&◌, ◌||◌}
use Rattle.conda_base.specs.Reads.{◌>>=◌, unless}
use Rattle.conda_base.specs.Signs.{close_bracket, colon, comma, equals, open_bracket, slash, space}
use Rattle.conda_base.specs.Texts.{IsFreeOf, begins_with, cut_first, cut_last, ends_with, in_front, is_byte}
use Rattle.conda_clause.specs.declared.error.SpecWhy.{SpecWhy}
use Rattle.conda_clause.specs.declared.error.SpecWhy.TheVariants.{Key, Name, Words}
use Rattle.conda_clause.specs.Clause.{clause_fault, is_clause_char}
use Rattle.conda_clause.specs.Faults.{place_of}
use Rattle.conda_clause.specs.Kept.{is_joint, kept}
use Rattle.conda_spec.specs.declared.given.Given.{Given}
use Rattle.conda_spec.specs.declared.given.ItemKey.{ItemKey}
use Rattle.conda_spec.specs.declared.given.ItemKey.TheVariants as keys
use Rattle.conda_spec.specs.Cuts.{cut_colons, without_last}
use Rattle.conda_spec.specs.Grammar.{BeginsClause, Follows, IsFront, IsItem, IsItems, IsNamed, IsPlainVersion, IsSpecText, IsValue, IsWords, IsClauseOf, ends_here}
use Rattle.conda_spec.specs.Grammar.BeginsClause.{behind_one, behind_two, compares}
use Rattle.conda_spec.specs.Grammar.Follows.{end, equal, equal_build, signs, spaced, spaced_equal, starts, starts_build}
use Rattle.conda_spec.specs.Grammar.IsFront.{alone as front_alone, in_channel, in_subdir}
use Rattle.conda_spec.specs.Grammar.IsItem.{build as item_build, build_number as item_number, channel as item_channel, subdir as item_subdir, version as item_version}
use Rattle.conda_spec.specs.Grammar.IsItems.{last as items_last, more as items_more}
use Rattle.conda_spec.specs.Grammar.IsNamed.{named}
use Rattle.conda_spec.specs.Grammar.IsSpecText.{bracketed, plain}
use Rattle.conda_spec.specs.Grammar.IsValue.{bare, quoted as in_quotes}
use Rattle.conda_spec.specs.Grammar.IsWords.{alone, with_build}
use Rattle.conda_spec.specs.Parts.{bars_bare, bars_build, bars_channel, ends_name, Front, is_comparison, is_quote, is_sign, is_sign_or_equals, IsFreeWord, NoneOf, nothing, Parts}
use Rattle.conda_spec.specs.Reading.{SpecRead, VersionAndBuild, before_equals, brackets_of, build_at, build_word, channel_at, channel_cut, channel_read, clause_at, clause_value, equal_at, equal_to, equals_cut, equals_read, followed_read, front_cut, front_read, has_key, is_equal_word, is_free, item_key, item_read, items_of, items_read, joined_cut, joined_read, last_word, name_read, number_or, spec_parts, put, quoted, spaced_cut, spaced_read, spec_cut, spec_read, value_of, version_of, wanted_read, with_wanted, words_cut, two_words_read, without_quote}
use Rattle.conda_spec.proofs.LowerLaws.{Laws}
use Rattle.conda_spec.proofs.PartLemmas.{are_parts, equal_out, front_right, items_right}
use Rattle.conda_spec.proofs.OnlyLemmas.{any_none, equal_word, last_some, none_any}
use Rattle.conda_spec.proofs.PieceLemmas.{fewer, first_place, no_place, none_in_both}
use Rattle.conda_spec.proofs.SeamLemmas.{colons_cut, last_off}

-- ---- version clauses and builds

free_is : (bars : ℕ → Bool) (text : List ℕ) → IsFreeWord bars text → is_free bars text ≡ true
free_is bars [] h = absurd (h.0 refl)
free_is bars (x ∷ xs) h = rw (none_any bars (x ∷ xs) h.1) (grind (arith, nat_tests))

channel_reads : (at : ℕ) (text : List ℕ) → IsFreeWord bars_channel text → channel_at at text ≡ Ok text
unfolding channel_at
channel_reads at text h = rw (free_is bars_channel text h) refl

build_reads : (at : ℕ) (text : List ℕ) → IsFreeWord bars_build text → build_at at text ≡ Ok text
unfolding build_at
build_reads at text h = rw (free_is bars_build text h) refl

clause_gives : (l : Laws) (place : ℕ → ℕ) (start added : ℕ) (text clause : List ℕ) → IsClauseOf text clause
    → clause_at place start added text ≡ Ok clause
unfolding clause_at
clause_gives l place start added text clause h =
    let placed : Option (ℕ × SpecWhy) → Option (ℕ × SpecWhy) = option_map (λ fault. (place (start + (fault.0 - added)), fault.1)) in
    ap (λ fault. unless (placed fault) (map to_ascii_lowercase text)) (ap clause_fault (sym h.0) ∙ l.right clause h.1) ∙ ap Ok (sym h.0)

spaceless_word : (word : List ℕ) → list_all is_clause_char (map to_ascii_lowercase word) ≡ true → IsFreeOf space word
spaceless_word [] h = tt
spaceless_word (b ∷ bs) h =
    let all = second_so (is_clause_char (to_ascii_lowercase b)) (list_all is_clause_char (map to_ascii_lowercase bs)) h in (
      by (b == space) refl (first_so (is_clause_char (to_ascii_lowercase b)) (list_all is_clause_char (map to_ascii_lowercase bs)) h),
      spaceless_word bs all,
    )
  where
    by : (k : Bool) → (b == space) ≡ k → is_clause_char (to_ascii_lowercase b) ≡ true → (b == space) ≡ false
    by false e g = e
    by true e g = absurd (true≢false (sym g ∙ ap (λ c. is_clause_char (to_ascii_lowercase c)) (eqb-true b space e)))

-- no space stands in the text of a version clause
clause_spaces : (l : Laws) (word clause : List ℕ) → IsClauseOf word clause → IsFreeOf space word
clause_spaces l word clause h = spaceless_word word (sym (ap (list_all is_clause_char) h.0) ∙ l.chars clause (l.right clause h.1))

no_slip : (b : ℕ) (mark : ℕ) → (b == mark) ≡ true → to_ascii_lowercase mark ≡ mark → to_ascii_lowercase b ≡ mark
no_slip b mark e own = ap to_ascii_lowercase (eqb-true b mark e) ∙ own

-- it begins with no joint
clause_begins : (l : Laws) (word clause : List ℕ) → IsClauseOf word clause
    → (b : ℕ) × (bs : List ℕ) × (word ≡ b ∷ bs) × (is_joint b ≡ false)
clause_begins l [] clause h = let some = l.some clause (l.right clause h.1) in absurd (omega (arith, some, ap length h.0))
clause_begins l (b ∷ bs) clause h = (b, bs, refl, by (b == 44) refl (b == 124) refl)
  where
    by : (k : Bool) → (b == 44) ≡ k → (m : Bool) → (b == 124) ≡ m → is_joint b ≡ false
    by true e m f =
        absurd ((l.front clause (l.right clause h.1) (map to_ascii_lowercase bs)).0
        (h.0 ∙ ap (λ c. c ∷ map to_ascii_lowercase bs) (no_slip b 44 e refl)))
    by false e true f =
        absurd ((l.front clause (l.right clause h.1) (map to_ascii_lowercase bs)).1
        (h.0 ∙ ap (λ c. c ∷ map to_ascii_lowercase bs) (no_slip b 124 f refl)))
    by false e false f = rw (e, f) refl

no_space_in_build : (b : ℕ) → bars_build b ≡ false → is_byte space b ≡ false
no_space_in_build b h = grind (arith, nat_tests)

build_spaces : (build : List ℕ) → IsFreeWord bars_build build → IsFreeOf space build
build_spaces build h = fewer bars_build (is_byte space) no_space_in_build build h.1

word_gives : (l : Laws) (place : ℕ → ℕ) (start : ℕ) (build : List ℕ) → IsFreeWord bars_build build → build_word place start build ≡ Ok build
unfolding build_word
word_gives l place start build h =
    ap (last_word start place build) ((l.no_first space build).1 (build_spaces build h)) ∙ build_reads (place start) build h

cut_none : (l : Laws) (word : List ℕ) → IsFreeOf space word → cut_first space word ≡ None
cut_none l word h = (l.no_first space word).1 h

cut_some : (l : Laws) (word build : List ℕ) → IsFreeOf space word → cut_first space (word ++ space ∷ build) ≡ Some (word, build)
cut_some l word build h = (l.first space (word ++ space ∷ build) word build).1 (refl, h)

words_gives : (l : Laws) (place : ℕ → ℕ) (word text : List ℕ) (version build : Option (List ℕ)) → IsWords word text version build
    → two_words_read place text ≡ Ok (version, build)
unfolding two_words_read
words_gives l place word text version build (alone w clause h) =
    ap (words_cut place w) (cut_none l w (clause_spaces l w clause h))
    ∙ ap (λ (r : SpecRead (List ℕ)). r >>= λ c. Ok (Some c, None)) (clause_gives l place 0 0 w clause h)
words_gives l place word text version build (with_build w clause b h k) =
    ap (words_cut place (w ++ space ∷ b)) (cut_some l w b (clause_spaces l w clause h))
    ∙ ap (λ (r : SpecRead (List ℕ)). r >>= λ c. build_word place (length w + 1) b >>= λ d. Ok (Some c, Some d))
    (clause_gives l place 0 0 w clause h)
    ∙ ap (λ (r : SpecRead (List ℕ)). r >>= λ d. Ok (Some clause, Some d)) (word_gives l place (length w + 1) b k)

equal_gives : (l : Laws) (place : ℕ → ℕ) (start : ℕ) (v clause : List ℕ) → IsClauseOf (equal_to v) clause
    → equal_at place start v ≡ Ok clause
unfolding equal_at
equal_gives l place start v clause h = by (ends_with 42 v) h
  where
    by : (k : Bool) → IsClauseOf (cond k v (codes "==" ++ v)) clause
        → cond k (clause_at place start 0 v) (clause_at place start 2 (codes "==" ++ v)) ≡ Ok clause
    by true w = clause_gives l place start 0 v clause w
    by false w = clause_gives l place start 2 (codes "==" ++ v) clause w

-- ---- behind a space

not_equal_word : (word : List ℕ) → ((v : List ℕ) → NoneOf is_sign_or_equals v → word ≢ equals ∷ v) → is_equal_word word ≡ false
not_equal_word word h = by (is_equal_word word) refl
  where
    by : (k : Bool) → is_equal_word word ≡ k → is_equal_word word ≡ false
    by false e = e
    by true e = let is = equal_word word e in absurd (h (drop 1 word) is.1 is.0)

wanted_spaced : (place : ℕ → ℕ) (text : List ℕ) (b : ℕ) (bs : List ℕ) → text ≡ b ∷ bs → is_joint b ≡ false
    → wanted_read place true text ≡ spaced_read place text
unfolding wanted_read
wanted_spaced place text b bs is h = subst (λ t. wanted_read place true t ≡ spaced_read place t) (sym is) (rw h refl)

spaced_gives : (l : Laws) (place : ℕ → ℕ) (word text : List ℕ) (version build : Option (List ℕ)) → IsWords word text version build
    → (IsSome build → (v : List ℕ) → NoneOf is_sign_or_equals v → word ≢ equals ∷ v) → wanted_read place true text ≡ Ok (version, build)
unfolding spaced_read two_words_read
spaced_gives l place word text version build (alone w clause h) other =
    let first = clause_begins l w clause h in
    wanted_spaced place w first.0 first.1 first.2 first.3
    ∙ ap (spaced_cut place w) (cut_none l w (clause_spaces l w clause h))
    ∙ words_gives l place w w (Some clause) None (alone w clause h)
spaced_gives l place word text version build (with_build w clause b h k) other =
    let first = clause_begins l w clause h in
    let whole : List ℕ = w ++ space ∷ b in
    wanted_spaced place whole first.0 (first.1 ++ space ∷ b) (ap (λ t. t ++ space ∷ b) first.2) first.3
    ∙ ap (spaced_cut place whole) (cut_some l w b (clause_spaces l w clause h))
    ∙ ap (λ k. cond k (equal_at place 1 (drop 1 w) >>= λ clause. build_word place (length w + 1) b >>= λ build. Ok
    (Some clause, Some build)) (two_words_read place whole)) (not_equal_word w (other refl))
    ∙ words_gives l place w whole (Some clause) (Some b) (with_build w clause b h k)

is_equal : (v : List ℕ) → NoneOf is_sign_or_equals v → is_equal_word (equals ∷ v) ≡ true
is_equal v h = rw (none_any is_sign_or_equals v h) refl

spaced_equal_gives : (l : Laws) (place : ℕ → ℕ) (v clause build : List ℕ) → IsPlainVersion v → IsClauseOf (equal_to v) clause
    → IsFreeWord bars_build build
    → wanted_read place true ((equals ∷ v) ++ space ∷ build) ≡ Ok (Some clause, Some build)
unfolding spaced_read two_words_read wanted_read
spaced_equal_gives l place v clause build p w k =
    let word : List ℕ = equals ∷ v in
    let whole : List ℕ = word ++ space ∷ build in
    ap (spaced_cut place whole) (cut_some l word build (refl, p.1))
    ∙ ap (λ k. cond k (equal_at place 1 v >>= λ clause. build_word place (length word + 1) build >>= λ build. Ok (Some clause, Some build))
    (two_words_read place whole)) (is_equal v p.0)
    ∙ ap (λ (r : SpecRead (List ℕ)). r >>= λ clause. build_word place (length word + 1) build >>= λ build. Ok (Some clause, Some build))
    (equal_gives l place 1 v clause w)
    ∙ ap (λ (r : SpecRead (List ℕ)). r >>= λ build. Ok (Some clause, Some build)) (word_gives l place (length word + 1) build k)

-- ---- directly behind the name

sign_no_equals : (b : ℕ) → is_sign b ≡ true → (b == equals) ≡ false
sign_no_equals b h = grind (arith, nat_tests)

comparison_no_joint : (b : ℕ) → is_comparison b ≡ true → is_joint b ≡ false
comparison_no_joint b h = grind (arith, nat_tests)

comparison_no_equals : (b : ℕ) → is_comparison b ≡ true → (b == equals) ≡ false
comparison_no_equals b h = grind (arith, nat_tests)

free_of_equals : (b : ℕ) → is_sign_or_equals b ≡ false → is_byte equals b ≡ false
free_of_equals b h = grind (arith, nat_tests)

free_of_signs : (b : ℕ) → is_sign_or_equals b ≡ false → is_sign b ≡ false
free_of_signs b h = grind (arith, nat_tests)

plain_equals : (v : List ℕ) → NoneOf is_sign_or_equals v → IsFreeOf equals v
plain_equals v h = fewer is_sign_or_equals (is_byte equals) free_of_equals v h

no_equals_first : (v : List ℕ) → IsFreeOf equals v → begins_with equals v ≡ false
no_equals_first [] h = refl
no_equals_first (b ∷ bs) h = h.0

in_front_of : (x : ℕ) (text : List ℕ) (cut : Option (List ℕ × List ℕ))
    → before_equals (option_map (in_front x) cut) (x ∷ text) ≡ x ∷ before_equals cut text
in_front_of x text None = refl
in_front_of x text (Some cut) = refl

sign_holds : (v : List ℕ) (sign : ℕ) (rest : List ℕ) → IsFreeOf equals v → is_sign sign ≡ true
    → list_any is_sign (before_equals (cut_first equals (v ++ sign ∷ rest)) (v ++ sign ∷ rest)) ≡ true
sign_holds [] sign rest free h =
    ap (λ k. list_any is_sign (before_equals (cond k (Some ([], rest)) (option_map (in_front sign) (cut_first equals rest))) (sign ∷ rest)))
    (sign_no_equals sign h)
    ∙ ap (list_any is_sign) (in_front_of sign rest (cut_first equals rest))
    ∙ ap (λ k. k || list_any is_sign (before_equals (cut_first equals rest) rest)) h
sign_holds (x ∷ xs) sign rest free h =
    let text : List ℕ = xs ++ sign ∷ rest in
    ap (λ k. list_any is_sign (before_equals (cond k (Some ([], text)) (option_map (in_front x) (cut_first equals text))) (x ∷ text)))
    (free.0)
    ∙ ap (list_any is_sign) (in_front_of x text (cut_first equals text))
    ∙ ap (λ k. is_sign x || k) (sign_holds xs sign rest free.1 h)
    ∙ or-true (is_sign x)

sign_not_first : (v : List ℕ) (sign : ℕ) (rest : List ℕ) → IsFreeOf equals v → is_sign sign ≡ true
    → begins_with equals (v ++ sign ∷ rest) ≡ false
sign_not_first [] sign rest free h = sign_no_equals sign h
sign_not_first (x ∷ xs) sign rest free h = free.0

version_one : (tail : List ℕ) → begins_with equals tail ≡ false → version_of (equals ∷ tail) ≡ before_equals (cut_first equals tail) tail
version_one tail h =
    ap (λ k. let n : ℕ = cond k 2 1 in before_equals (cut_first equals (drop n (equals ∷ tail))) (drop n (equals ∷ tail))) h

equals_words : (l : Laws) (place : ℕ → ℕ) (word text : List ℕ) (version build : Option (List ℕ)) → IsWords word text version build
    → list_any is_sign (version_of word) ≡ true
    → equals_read place text ≡ Ok (version, build)
unfolding equals_read
equals_words l place word text version build (alone w clause h) sign =
    ap (equals_cut place w) (cut_none l w (clause_spaces l w clause h))
    ∙ ap (λ k. cond k (two_words_read place w) (joined_read place w)) sign
    ∙ words_gives l place w w (Some clause) None (alone w clause h)
equals_words l place word text version build (with_build w clause b h k) sign =
    let whole : List ℕ = w ++ space ∷ b in
    ap (equals_cut place whole) (cut_some l w b (clause_spaces l w clause h))
    ∙ ap (λ k. cond k (two_words_read place whole) (joined_read place w >>= λ wanted. Err (place (length w + 1), Words))) sign
    ∙ words_gives l place w whole (Some clause) (Some b) (with_build w clause b h k)

text_begins : (word text : List ℕ) (version build : Option (List ℕ)) (b : ℕ) (bs : List ℕ) → IsWords word text version build → word ≡ b ∷ bs
    → (more : List ℕ) × (text ≡ b ∷ more)
text_begins word text version build b bs (alone w clause h) e = (bs, e)
text_begins word text version build b bs (with_build w clause d h k) e = (bs ++ space ∷ d, ap (λ t. t ++ space ∷ d) e)

wanted_equals : (place : ℕ → ℕ) (text more : List ℕ) → text ≡ equals ∷ more → wanted_read place false text ≡ equals_read place text
unfolding wanted_read
wanted_equals place text more e = subst (λ t. wanted_read place false t ≡ equals_read place t) (sym e) refl

wanted_compares : (place : ℕ → ℕ) (text : List ℕ) (sign : ℕ) (more : List ℕ) → is_comparison sign ≡ true → text ≡ sign ∷ more
    → wanted_read place false text ≡ two_words_read place text
unfolding wanted_read
wanted_compares place text sign more h e =
    subst (λ t. wanted_read place false t ≡ two_words_read place t) (sym e)
    (rw (comparison_no_joint sign h, comparison_no_equals sign h, h) refl)

signs_give : (l : Laws) (place : ℕ → ℕ) (word text : List ℕ) (version build : Option (List ℕ)) → IsWords word text version build
    → BeginsClause word → wanted_read place false text ≡ Ok (version, build)
signs_give l place word text version build w (compares sign rest h) =
    let first = text_begins (sign ∷ rest) text version build sign rest w refl in
    wanted_compares place text sign first.0 h first.1 ∙ words_gives l place (sign ∷ rest) text version build w
signs_give l place word text version build w (behind_one v sign rest free h) =
    let tail : List ℕ = v ++ sign ∷ rest in
    let first = text_begins (equals ∷ tail) text version build equals tail w refl in
    wanted_equals place text first.0 first.1
    ∙ equals_words l place (equals ∷ tail) text version build w
    (ap (list_any is_sign) (version_one tail (sign_not_first v sign rest free h)) ∙ sign_holds v sign rest free h)
signs_give l place word text version build w (behind_two v sign rest free h) =
    let tail : List ℕ = v ++ sign ∷ rest in
    let first = text_begins (equals ∷ equals ∷ tail) text version build equals (equals ∷ tail) w refl in
    wanted_equals place text first.0 first.1
    ∙ equals_words l place (equals ∷ equals ∷ tail) text version build w (sign_holds v sign rest free h)

-- what begins with `=` and is one word
one_word : (l : Laws) (place : ℕ → ℕ) (tail v : List ℕ) (r : VersionAndBuild) → IsFreeOf space (equals ∷ tail)
    → version_of (equals ∷ tail) ≡ v → NoneOf is_sign v
    → joined_read place (equals ∷ tail) ≡ Ok r → wanted_read place false (equals ∷ tail) ≡ Ok r
unfolding equals_read
one_word l place tail v r spaces is free h =
    let word : List ℕ = equals ∷ tail in
    wanted_equals place word tail refl
    ∙ ap (equals_cut place word) (cut_none l word spaces)
    ∙ ap (λ k. cond k (two_words_read place word) (joined_read place word)) (ap (list_any is_sign) is ∙ none_any is_sign v free)
    ∙ h

joined_one : (place : ℕ → ℕ) (tail : List ℕ) (cut : Option (List ℕ × List ℕ)) (r : VersionAndBuild) → begins_with equals tail ≡ false
    → cut_first equals tail ≡ cut → joined_cut place (equals ∷ tail) 1 cut ≡ Ok r
    → joined_read place (equals ∷ tail) ≡ Ok r
unfolding joined_read
joined_one place tail cut r other e h =
    ap (λ k. let n : ℕ = cond k 2 1 in joined_cut place (equals ∷ tail) n (cut_first equals (drop n (equals ∷ tail)))) other
    ∙ ap (joined_cut place (equals ∷ tail) 1) e
    ∙ h

joined_two : (place : ℕ → ℕ) (tail : List ℕ) (cut : Option (List ℕ × List ℕ)) (r : VersionAndBuild) → cut_first equals tail ≡ cut
    → joined_cut place (equals ∷ equals ∷ tail) 2 cut ≡ Ok r
    → joined_read place (equals ∷ equals ∷ tail) ≡ Ok r
unfolding joined_read
joined_two place tail cut r e h = ap (joined_cut place (equals ∷ equals ∷ tail) 2) e ∙ h

plain_signs : (v : List ℕ) → IsPlainVersion v → NoneOf is_sign v
plain_signs v p = fewer is_sign_or_equals is_sign free_of_signs v p.0

starts_gives : (l : Laws) (place : ℕ → ℕ) (v clause : List ℕ) → IsPlainVersion v → IsClauseOf (equals ∷ v) clause
    → wanted_read place false (equals ∷ v) ≡ Ok (Some clause, None)
starts_gives l place v clause p w =
    let cut : cut_first equals v ≡ None = (l.no_first equals v).1 (plain_equals v p.0) in
    let first : begins_with equals v ≡ false = no_equals_first v (plain_equals v p.0) in
    one_word l place v v (Some clause, None) (refl, p.1) (version_one v first ∙ ap (λ c. before_equals c v) cut) (plain_signs v p)
    (joined_one place v None (Some clause, None) first cut
    (ap (λ (r : SpecRead (List ℕ)). r >>= λ c. Ok (Some c, None)) (clause_gives l place 0 0 (equals ∷ v) clause w)))

equal_is_read : (l : Laws) (place : ℕ → ℕ) (v clause : List ℕ) → IsPlainVersion v → IsClauseOf (equals ∷ equals ∷ v) clause
    → wanted_read place false (equals ∷ equals ∷ v) ≡ Ok (Some clause, None)
equal_is_read l place v clause p w =
    let cut : cut_first equals v ≡ None = (l.no_first equals v).1 (plain_equals v p.0) in
    one_word l place (equals ∷ v) v (Some clause, None) (refl, (refl, p.1)) (ap (λ c. before_equals c v) cut) (plain_signs v p)
    (joined_two place v None (Some clause, None) cut
    (ap (λ (r : SpecRead (List ℕ)). r >>= λ c. Ok (Some c, None)) (clause_gives l place 0 0 (equals ∷ equals ∷ v) clause w)))

cut_build : (l : Laws) (v build : List ℕ) → IsPlainVersion v → cut_first equals (v ++ equals ∷ build) ≡ Some (v, build)
cut_build l v build p = (l.first equals (v ++ equals ∷ build) v build).1 (refl, plain_equals v p.0)

build_free : (v build : List ℕ) → IsPlainVersion v → IsFreeWord bars_build build → IsFreeOf space (v ++ equals ∷ build)
build_free v build p k = none_in_both (is_byte space) v (equals ∷ build) p.1 (refl, build_spaces build k)

-- `==` alone is no version clause
equal_some : (l : Laws) (v clause : List ℕ) → IsClauseOf (equal_to v) clause → v ≢ []
equal_some l v clause w e =
    let bad : IsClauseOf (codes "==") clause = subst (λ t. IsClauseOf (equal_to t) clause) e w in
    let ends = l.back clause (l.right clause bad.1) in
    true≢false (ap (ends_with 61) (sym bad.0) ∙ ends.4)

starts_build_gives : (l : Laws) (place : ℕ → ℕ) (v clause build : List ℕ) → IsPlainVersion v → IsClauseOf (equal_to v) clause
    → IsFreeWord bars_build build
    → wanted_read place false (equals ∷ (v ++ equals ∷ build)) ≡ Ok (Some clause, Some build)
starts_build_gives l place v clause build p w k =
    let tail : List ℕ = v ++ equals ∷ build in
    let cut : cut_first equals tail ≡ Some (v, build) = cut_build l v build p in
    let first : begins_with equals tail ≡ false = not_first v (equal_some l v clause w) (plain_equals v p.0) in
    one_word l place tail v (Some clause, Some build) (refl, build_free v build p k)
    (version_one tail first ∙ ap (λ c. before_equals c tail) cut) (plain_signs v p)
    (joined_one place tail (Some (v, build)) (Some clause, Some build) first cut
    (ap (λ (r : SpecRead (List ℕ)). r >>= λ c. build_at (place (1 + length v + 1)) build >>= λ b. Ok (Some c, Some b))
    (equal_gives l place 1 v clause w)
    ∙ ap (λ (r : SpecRead (List ℕ)). r >>= λ b. Ok (Some clause, Some b)) (build_reads (place (1 + length v + 1)) build k)))
  where
    not_first : (v : List ℕ) → v ≢ [] → IsFreeOf equals v → begins_with equals (v ++ equals ∷ build) ≡ false
    not_first [] some free = absurd (some refl)
    not_first (b ∷ bs) some free = free.0

equal_build_gives : (l : Laws) (place : ℕ → ℕ) (v clause build : List ℕ) → IsPlainVersion v → IsClauseOf (equals ∷ equals ∷ v) clause
    → IsFreeWord bars_build build
    → wanted_read place false (equals ∷ equals ∷ (v ++ equals ∷ build)) ≡ Ok (Some clause, Some build)
equal_build_gives l place v clause build p w k =
    let tail : List ℕ = v ++ equals ∷ build in
    let cut : cut_first equals tail ≡ Some (v, build) = cut_build l v build p in
    one_word l place (equals ∷ tail) v (Some clause, Some build) (refl, (refl, build_free v build p k)) (ap (λ c. before_equals c tail) cut)
    (plain_signs v p)
    (joined_two place tail (Some (v, build)) (Some clause, Some build) cut
    (ap (λ (r : SpecRead (List ℕ)). r >>= λ c. build_at (place (2 + length v + 1)) build >>= λ b. Ok (Some c, Some b))
    (clause_gives l place 0 0 (codes "==" ++ v) clause w)
    ∙ ap (λ (r : SpecRead (List ℕ)). r >>= λ b. Ok (Some clause, Some b)) (build_reads (place (2 + length v + 1)) build k)))

wanted_gives : (l : Laws) (place : ℕ → ℕ) (apart : Bool) (text : List ℕ) (version build : Option (List ℕ))
    → Follows apart text version build → wanted_read place apart text ≡ Ok (version, build)
unfolding wanted_read
wanted_gives l place apart text version build (end k) = refl
wanted_gives l place apart text version build (starts v clause p w) = starts_gives l place v clause p w
wanted_gives l place apart text version build (equal v clause p w) = equal_is_read l place v clause p w
wanted_gives l place apart text version build (starts_build v clause b p w k) =
    starts_build_gives l place v clause b p (equal_out v clause w) k
wanted_gives l place apart text version build (equal_build v clause b p w k) = equal_build_gives l place v clause b p w k
wanted_gives l place apart text version build (spaced_equal v clause b p w k) =
    spaced_equal_gives l place v clause b p (equal_out v clause w) k
wanted_gives l place apart text version build (spaced word t v b w other) = spaced_gives l place word text version build w other
wanted_gives l place apart text version build (signs word t v b w begins) = signs_give l place word text version build w begins

-- ---- the name and the channel

followed_gives : (l : Laws) (at : ℕ) (text : List ℕ) (version build : Option (List ℕ))
    → Follows (begins_with space text) (kept text) version build → followed_read at text ≡ Ok (version, build)
unfolding followed_read
followed_gives l at text version build h = wanted_gives l (λ i. at + place_of text i) (begins_with space text) (kept text) version build h

name_end : (written rest : List ℕ) → NoneOf ends_name written → ends_here rest ≡ true
    → position_or_len ends_name (written ++ rest) ≡ length written
name_end written [] h e = ap (position_or_len ends_name) (append-nil written) ∙ no_place ends_name written h
name_end written (b ∷ bs) h e = first_place ends_name written b bs h e

some_length : (text : List ℕ) → text ≢ [] → (length text == 0) ≡ false
some_length [] some = absurd (some refl)
some_length (b ∷ bs) some = grind (arith, nat_tests)

named_gives : (l : Laws) (given : Given) (at : ℕ) (text name : List ℕ) (version build : Option (List ℕ)) → IsNamed text name version build
    → name_read given at text ≡ Ok (name, with_wanted given (version, build))
unfolding name_read
named_gives l given at text name version build (named written rest v b some free ends follows) =
    let fault : ℕ × SpecWhy = (at, Name) in
    let whole : List ℕ = written ++ rest in
    ap (λ (n : ℕ). cond (n == 0) (Err fault)
    (followed_read (at + n) (drop n whole) >>= λ w. Ok (map to_ascii_lowercase (take n whole), with_wanted given w)))
    (name_end written rest free ends)
    ∙ rw (
      some_length written some,
      drop-append_seam written rest,
      take-append_seam written rest,
      followed_gives l
          (at + length written) rest version build follows,
    ) refl

-- no `::` stands in the text
colons_absent : (text : List ℕ) → ((before rest : List ℕ) → text ≢ before ++ (codes "::" ++ rest)) → cut_colons text ≡ None
colons_absent [] h = refl
colons_absent (b ∷ bs) h =
    by (b == colon && begins_with colon bs) refl (colons_absent bs (λ before rest e. h (b ∷ before) rest (ap (λ t. b ∷ t) e)))
  where
    begins : (bs : List ℕ) → begins_with colon bs ≡ true → bs ≡ colon ∷ drop 1 bs
    begins [] e = absurd (true≢false (sym e))
    begins (c ∷ cs) e = ap (λ d. d ∷ cs) (eqb-true c colon e)

    by : (k : Bool) → (b == colon && begins_with colon bs) ≡ k → cut_colons bs ≡ None
        → cond k (Some ([], drop 1 bs)) (option_map (in_front b) (cut_colons bs)) ≡ None
    by true e more =
        let here : b ≡ colon = eqb-true b colon (first_so (b == colon) (begins_with colon bs) e) in
        let next : bs ≡ colon ∷ drop 1 bs = begins bs (second_so (b == colon) (begins_with colon bs) e) in
        absurd (h [] (drop 1 bs) (ap (λ c. c ∷ bs) here ∙ ap (λ t. colon ∷ t) next))
    by false e more = ap (option_map (in_front b)) more

no_slash : (b : ℕ) → bars_channel b ≡ false → is_byte slash b ≡ false
no_slash b h = grind (arith, nat_tests)

no_colon : (b : ℕ) → bars_channel b ≡ false → is_byte colon b ≡ false
no_colon b h = grind (arith, nat_tests)

channel_gives : (l : Laws) (channel : List ℕ) → IsFreeWord bars_channel channel
    → channel_read channel ≡ Ok (record nothing { channel = Some channel })
unfolding channel_read
channel_gives l channel h =
    ap (channel_cut channel) ((l.no_first slash channel).1 (fewer bars_channel (is_byte slash) no_slash channel h.1))
    ∙ ap (λ (r : SpecRead (List ℕ)). r >>= λ c. Ok (record nothing { channel = Some c })) (channel_reads 0 channel h)

subdir_gives : (l : Laws) (channel subdir : List ℕ) → IsFreeWord bars_channel channel → IsFreeWord bars_channel subdir
    → channel_read (channel ++ slash ∷ subdir) ≡ Ok (record nothing { channel = Some channel; subdir = Some subdir })
unfolding channel_read
subdir_gives l channel subdir h k =
    ap (channel_cut (channel ++ slash ∷ subdir))
    ((l.first slash (channel ++ slash ∷ subdir) channel subdir).1 (refl, fewer bars_channel (is_byte slash) no_slash channel h.1))
    ∙ ap (λ (r : SpecRead (List ℕ)). r >>= λ c. channel_at 0 subdir >>= λ s. Ok (record nothing { channel = Some c; subdir = Some s }))
    (channel_reads 0 channel h)
    ∙ ap (λ (r : SpecRead (List ℕ)). r >>= λ s. Ok (record nothing { channel = Some channel; subdir = Some s })) (channel_reads 0 subdir k)

front_gives : (l : Laws) (text : List ℕ) (found : Front) → IsFront text found → front_read text ≡ Ok found
unfolding front_read
front_gives l text found (front_alone t name version build none is) =
    ap (front_cut t) (colons_absent t none) ∙ named_gives l nothing 0 t name version build is
front_gives l text found (in_channel channel t name version build free is) =
    ap (front_cut (channel ++ (codes "::" ++ t))) (colons_cut channel t (fewer bars_channel (is_byte colon) no_colon channel free.1))
    ∙ ap (λ (r : SpecRead Given). r >>= λ given. name_read given (length channel + 2) t) (channel_gives l channel free)
    ∙ named_gives l (record nothing { channel = Some channel }) (length channel + 2) t name version build is
front_gives l text found (in_subdir channel subdir t name version build free also is) =
    let before : List ℕ = channel ++ slash ∷ subdir in
    let bare : NoneOf (is_byte colon) before =
    none_in_both (is_byte colon) channel (slash ∷ subdir) (fewer bars_channel (is_byte colon) no_colon channel free.1)
    (refl, fewer bars_channel (is_byte colon) no_colon subdir also.1)
    in
    ap (front_cut (before ++ (codes "::" ++ t))) (colons_cut before t bare)
    ∙ ap (λ (r : SpecRead Given). r >>= λ given. name_read given (length before + 2) t) (subdir_gives l channel subdir free also)
    ∙ named_gives l (record nothing { channel = Some channel; subdir = Some subdir }) (length before + 2) t name version build is

-- ---- the brackets

value_gives : (at : ℕ) (written value : List ℕ) → IsValue written value → (place : ℕ) × (value_of at written ≡ Some (place, value))
value_gives at written value (bare v h) = (at, by v h)
  where
    by : (v : List ℕ) → NoneOf bars_bare v → value_of at v ≡ Some (at, v)
    by [] h = refl
    by (x ∷ xs) h =
        let quote : is_quote x ≡ false = bare_quote x (h.0) in
        let whole : Option (ℕ × List ℕ) = Some (at, x ∷ xs) in
        let inside : Option (ℕ × List ℕ) = option_map (λ text. (at + 1, text)) (quoted x xs) in
        ap (λ (k : Bool). cond k inside (cond (list_any bars_bare (x ∷ xs)) None whole)) quote
        ∙ ap (λ (barred : Bool). cond barred None whole) (none_any bars_bare (x ∷ xs) h)
      where
        bare_quote : (b : ℕ) → bars_bare b ≡ false → is_quote b ≡ false
        bare_quote b h = grind (arith, nat_tests)
value_gives at written value (in_quotes mark v q h) = (at + 1, read)
  where
    text : List ℕ
    text = mark ∷ (v ++ mark ∷ [])

    read : value_of at (mark ∷ (v ++ mark ∷ [])) ≡ Some (at + 1, v)
    read =
        let bars : Option (ℕ × List ℕ) = cond (list_any bars_bare text) None (Some (at, text)) in
        ap (λ (k : Bool). cond k (option_map (λ t. (at + 1, t)) (quoted mark (v ++ mark ∷ []))) bars) q
        ∙ ap (λ (o : Option (List ℕ)). option_map (λ t. (at + 1, t)) (option_and_then (without_quote mark) o)) (last_off mark v)
        ∙ ap (λ (k : Bool). option_map (λ t. (at + 1, t)) (cond k None (Some v))) (none_any (is_byte mark) v h)

key_gives : (given behind : Given) (at : ℕ) (key : ItemKey) (place : ℕ) (written value : List ℕ) (found : Option (ℕ × List ℕ))
    → found ≡ Some (place, value) → has_key given key ≡ false
    → put given key at (place, value) ≡ Ok behind → item_key given at (Some key) found ≡ Ok behind
key_gives given behind at key place written value found e new h =
    let fault : ℕ × SpecWhy = (at, Key) in
    ap (item_key given at (Some key)) e ∙ ap (λ k. cond k (Err fault) (put given key at (place, value))) new ∙ h

item_gives : (l : Laws) (given behind : Given) (at : ℕ) (item : List ℕ) → IsItem given item behind → item_read given at item ≡ Ok behind
unfolding item_read put clause_value
item_gives l given behind at item (item_version g written value clause new is w) =
    let v = value_gives (at + 7 + 1) written value is in
    key_gives g behind at keys.Version v.0 written value (value_of (at + 7 + 1) written) v.1 (ap is_some new)
    (ap (λ (r : SpecRead (List ℕ)). r >>= λ x. Ok (record g { version = Some x }))
    (clause_gives l (λ i. v.0 + place_of value i) 0 0 (kept value) clause w))
item_gives l given behind at item (item_build g written value new is free) =
    let v = value_gives (at + 5 + 1) written value is in
    key_gives g behind at keys.Build v.0 written value (value_of (at + 5 + 1) written) v.1 (ap is_some new)
    (ap (λ (r : SpecRead (List ℕ)). r >>= λ x. Ok (record g { build = Some x })) (build_reads v.0 value free))
item_gives l given behind at item (item_number g written value number new is n) =
    let v = value_gives (at + 12 + 1) written value is in
    key_gives g behind at keys.BuildNumber v.0 written value (value_of (at + 12 + 1) written) v.1 (ap is_some new)
    (ap (λ (o : Option ℕ). number_or at o >>= λ x. Ok (record g { number = Some x })) n)
item_gives l given behind at item (item_channel g written value new is free) =
    let v = value_gives (at + 7 + 1) written value is in
    key_gives g behind at keys.Channel v.0 written value (value_of (at + 7 + 1) written) v.1 (ap is_some new)
    (ap (λ (r : SpecRead (List ℕ)). r >>= λ x. Ok (record g { channel = Some x })) (channel_reads v.0 value free))
item_gives l given behind at item (item_subdir g written value new is free) =
    let v = value_gives (at + 6 + 1) written value is in
    key_gives g behind at keys.Subdir v.0 written value (value_of (at + 6 + 1) written) v.1 (ap is_some new)
    (ap (λ (r : SpecRead (List ℕ)). r >>= λ x. Ok (record g { subdir = Some x })) (channel_reads v.0 value free))

-- an item in front of others: its characters go before the first
front_on : List ℕ → List (List ℕ) → List (List ℕ)
front_on [] parts = parts
front_on (x ∷ xs) parts = onto_first x (front_on xs parts)

front_on_both : (xs ys : List ℕ) (parts : List (List ℕ)) → front_on (xs ++ ys) parts ≡ front_on xs (front_on ys parts)
unfolding front_on
front_on_both [] ys parts = refl
front_on_both (x ∷ xs) ys parts = ap (onto_first x) (front_on_both xs ys parts)

front_on_next : (xs : List ℕ) (parts : List (List ℕ)) → front_on xs ([] ∷ parts) ≡ xs ∷ parts
unfolding front_on
front_on_next [] parts = refl
front_on_next (x ∷ xs) parts = ap (onto_first x) (front_on_next xs parts)

-- a text after which quotes are closed, with no `,` but in quotes
IsClosed : List ℕ → Type 0
IsClosed xs = (rest : List ℕ) → items_of None (xs ++ rest) ≡ front_on xs (items_of None rest)

closed_bare : (xs : List ℕ) → NoneOf bars_bare xs → IsClosed xs
unfolding IsClosed front_on
closed_bare [] h rest = refl
closed_bare (x ∷ xs) h rest =
    ap (λ k. cond k ([] ∷ items_of None (xs ++ rest)) (onto_first x (items_of (cond (is_quote x) (Some x) None) (xs ++ rest))))
    (bare_comma x (h.0))
    ∙ ap (λ (k : Bool). onto_first x (items_of (cond k (Some x) None) (xs ++ rest))) (bare_quote x (h.0))
    ∙ ap (onto_first x) (closed_bare xs h.1 rest)
  where
    bare_comma : (b : ℕ) → bars_bare b ≡ false → (b == comma) ≡ false
    bare_comma b h = grind (arith, nat_tests)

    bare_quote : (b : ℕ) → bars_bare b ≡ false → is_quote b ≡ false
    bare_quote b h = grind (arith, nat_tests)

in_marks : (mark : ℕ) (xs rest : List ℕ) → NoneOf (is_byte mark) xs
    → items_of (Some mark) (xs ++ rest) ≡ front_on xs (items_of (Some mark) rest)
unfolding front_on
in_marks mark [] rest h = refl
in_marks mark (x ∷ xs) rest h =
    ap (λ (k : Bool). onto_first x (items_of (cond k None (Some mark)) (xs ++ rest))) (h.0) ∙ ap (onto_first x) (in_marks mark xs rest h.1)

closed_quotes : (mark : ℕ) (xs : List ℕ) → is_quote mark ≡ true → NoneOf (is_byte mark) xs → IsClosed (mark ∷ (xs ++ mark ∷ []))
unfolding IsClosed front_on
closed_quotes mark xs q h rest =
    let text : List ℕ = (xs ++ mark ∷ []) ++ rest in
    ap (λ k. cond k ([] ∷ items_of None text) (onto_first mark (items_of (cond (is_quote mark) (Some mark) None) text)))
    (quote_comma mark q)
    ∙ ap (λ (k : Bool). onto_first mark (items_of (cond k (Some mark) None) text)) q
    ∙ ap (λ t. onto_first mark (items_of (Some mark) t)) (append_assoc xs (mark ∷ []) rest)
    ∙ ap (onto_first mark) (in_marks mark xs (mark ∷ rest) h)
    ∙ ap (λ (k : Bool). onto_first mark (front_on xs (onto_first mark (items_of (cond k None (Some mark)) rest)))) (eq-eqb mark mark refl)
    ∙ ap (onto_first mark) (sym (front_on_both xs (mark ∷ []) (items_of None rest)))
  where
    quote_comma : (b : ℕ) → is_quote b ≡ true → (b == comma) ≡ false
    quote_comma b h = grind (arith, nat_tests)

closed_value : (written value : List ℕ) → IsValue written value → IsClosed written
closed_value written value (bare v h) = closed_bare v h
closed_value written value (in_quotes mark v q h) = closed_quotes mark v q h

closed_both : (xs ys : List ℕ) → IsClosed xs → IsClosed ys → IsClosed (xs ++ ys)
unfolding IsClosed
closed_both xs ys h k rest =
    ap (items_of None) (append_assoc xs ys rest) ∙ h (ys ++ rest) ∙ ap (front_on xs) (k rest)
    ∙ sym (front_on_both xs ys (items_of None rest))

all_bare : (xs : List ℕ) → list_any bars_bare xs ≡ false → IsClosed xs
all_bare xs h = closed_bare xs (any_none bars_bare xs h)

closed_item : (given behind : Given) (item : List ℕ) → IsItem given item behind → IsClosed item
closed_item given behind item (item_version g written value clause new is w) =
    closed_both (codes "version=") written (all_bare (codes "version=") refl) (closed_value written value is)
closed_item given behind item (item_build g written value new is free) =
    closed_both (codes "build=") written (all_bare (codes "build=") refl) (closed_value written value is)
closed_item given behind item (item_number g written value number new is n) =
    closed_both (codes "build_number=") written (all_bare (codes "build_number=") refl) (closed_value written value is)
closed_item given behind item (item_channel g written value new is free) =
    closed_both (codes "channel=") written (all_bare (codes "channel=") refl) (closed_value written value is)
closed_item given behind item (item_subdir g written value new is free) =
    closed_both (codes "subdir=") written (all_bare (codes "subdir=") refl) (closed_value written value is)

items_give : (l : Laws) (before behind : Given) (at : ℕ) (text : List ℕ) → IsItems before text behind
    → items_read before at (items_of None text) ≡ Ok behind
unfolding items_read IsClosed
items_give l before behind at text (items_last g b item is) =
    let one : items_of None item ≡ item ∷ [] =
    ap (items_of None) (sym (append-nil item)) ∙ closed_item g b item is [] ∙ front_on_next item []
    in
    ap (items_read g at) one ∙ ap (λ (r : SpecRead Given). r >>= λ given. Ok given) (item_gives l g b at item is)
items_give l before behind at text (items_more g next b item rest is later) =
    let first : items_of None (item ++ comma ∷ rest) ≡ item ∷ items_of None rest =
    closed_item g next item is (comma ∷ rest) ∙ front_on_next item (items_of None rest) in
    ap (items_read g at) first
    ∙ ap (λ (r : SpecRead Given). r >>= λ given. items_read given (at + length item + 1) (items_of None rest))
    (item_gives l g next at item is)
    ∙ items_give l next b (at + length item + 1) rest later

-- ---- the whole

brackets_absent : (l : Laws) (text : List ℕ) → ((before inside : List ℕ) → text ≢ (before ++ open_bracket ∷ inside) ++ close_bracket ∷ [])
    → brackets_of text ≡ None
brackets_absent l text h = by (without_last close_bracket text) refl
  where
    by : (o : Option (List ℕ)) → without_last close_bracket text ≡ o → option_and_then (cut_last open_bracket) o ≡ None
    by None e = refl
    by (Some t) e = by_cut (cut_last open_bracket t) refl
      where
        by_cut : (cut : Option (List ℕ × List ℕ)) → cut_last open_bracket t ≡ cut → cut ≡ None
        by_cut None f = refl
        by_cut (Some cut) f =
            absurd (h cut.0 cut.1
            (last_some close_bracket text t e ∙ ap (λ q. q ++ close_bracket ∷ []) (((l.last open_bracket t cut.0 cut.1).0 f).0)))

pub spec_gives : (l : Laws) (text : List ℕ) (parts : Parts) → IsSpecText text parts → spec_read text ≡ Ok parts
unfolding spec_read
spec_gives l text parts (plain t front p none is are) =
    ap (spec_cut t) (brackets_absent l t none)
    ∙ ap (λ (r : SpecRead Front). r >>= λ front. Ok (spec_parts front nothing)) (front_gives l t front is)
    ∙ ap Ok (sym (are_parts l front nothing p (front_right l t front is) tt are))
spec_gives l text parts (bracketed before inside front given p free is items are) =
    let t : List ℕ = before ++ open_bracket ∷ inside in
    ap (spec_cut (t ++ close_bracket ∷ []))
    (ap (option_and_then (cut_last open_bracket)) (last_off close_bracket t) ∙ (l.last open_bracket t before inside).1 (refl, free))
    ∙ ap (λ (r : SpecRead Front). r >>= λ front. items_read nothing (length before + 1) (items_of None inside) >>= λ given. Ok
    (spec_parts front given)) (front_gives l before front is)
    ∙ ap (λ (r : SpecRead Given). r >>= λ given. Ok (spec_parts front given)) (items_give l nothing given (length before + 1) inside items)
    ∙ ap Ok (sym (are_parts l front given p (front_right l before front is) (items_right l nothing given inside items tt) are))
