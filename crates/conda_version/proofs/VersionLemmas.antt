-- What is read is in the grammar of versions, and what is in the grammar is read.
use Rattle.std.proofs.Common.{◌≡◌, ℕ, suc, ◌+◌, ◌-◌, ◌<◌, ◌≤◌, Bool, true, false, cond, ◌&&◌, List, [], ◌∷◌, ◌++◌, length, drop, map, Option, None, Some, refl, sym, ap, subst, ◌∙◌, arith, append_assoc, length-drop}
use Rattle.std.proofs.lemmas.List.Sums.{prefix_len-le-length}
use Rattle.std.proofs.lemmas.Bool.{and_from, and_parts}
use Rattle.std.proofs.lemmas.Bool.Decides.{nat_tests}
use Rattle.std.proofs.lemmas.List.{append-nil}
use Rattle.std.proofs.lemmas.List.Splits.{join_with_byte-slice_split, length-slice_split, slice_split-cons_no}
use Rattle.std.specs.Prelude.{IfSome, nat_lt, not, ◌==◌, ◌||◌, if◌then◌else◌}
use Rattle.std.specs.Char.{is_ascii_digit, to_ascii_lowercase}
use Rattle.std.specs.List.{AllByRecursion, join_with_byte, list_all, onto_first, prefix_len}
use Rattle.std.specs.Option.{option_map, option_map_or, option_and_then, option_or}
use Rattle.std.specs.Str.Parse.{digits_value}
use Rattle.conda_base.specs.Numbers.{is_digits}
use Rattle.conda_base.specs.Signs.{dash, dot, exclamation, plus, underscore}
use Rattle.conda_base.specs.Texts.{IsFreeOf, cut_first, ends_with, is_byte, is_empty}
use Rattle.conda_version.specs.declared.error.VersionWhy.{VersionWhy}
use Rattle.conda_version.specs.declared.error.VersionWhy.TheVariants.{Empty, Char, Epoch, Local, Component, Numeral}
use Rattle.conda_version.specs.declared.run.Run.{Run}
use Rattle.conda_version.specs.Grammar.{HasShortRuns, because, behind_epoch, char_fault, component_fault, component_of, components_of, empty_fault, empty_from, empty_local, epoch_fault, epoch_part, fault, fault_at_epoch, fault_at_local, is_part_char, is_plain, local_fault, local_part, main_part, main_start, mark_from, marks_fault, meaning, numeral_from, offence, dotted_parts, plain_meaning}
use Rattle.conda_version.specs.Versions.{AreComponents, IsEpoch, IsLocal, IsNumeral, IsVersion, IsVersionText, Meaning, as_dot, epoch_text, local_text, main_dots}
use Rattle.conda_version.specs.Order.{meaning_cmp, meaning_starts, version_cmp, version_starts}
use Rattle.conda_version.specs.Text.{holds, plain, underscored}
use Rattle.conda_version.proofs.CutLemmas.{Cuts, place_of_free}
use Rattle.conda_version.proofs.PartLemmas.{epoch_sound, local_sound, parts_whole, rest_is, short_epoch, short_local, short_main}
use Rattle.conda_version.proofs.RunLemmas.{all_digits, digits_are_all, prefix_of_dots, prefix_of_main_dots, short_back, short_from_none, short_front}
use Rattle.conda_version.proofs.TextLemmas.{ends_back, ends_step}
use Rattle.conda_version.proofs.TurnLemmas.{all_as, all_both, all_front, component_again, component_sound, is_piece_char, short_before}

abbrev first_half : List ℕ × List ℕ → List ℕ
first_half halves = halves.0

abbrev second_half : List ℕ × List ℕ → List ℕ
second_half halves = halves.1

-- ---- a dotted text whose parts are sound has components

pieces_free : (xs : List ℕ) → AllByRecursion (IsFreeOf dot) (dotted_parts xs)
pieces_free [] = (tt, tt)
pieces_free (b ∷ bs) = by_dot (b == dot) refl (dotted_parts bs) (pieces_free bs)
  where
    by_dot : (k : Bool) → (b == dot) ≡ k → (ps : List (List ℕ)) → AllByRecursion (IsFreeOf dot) ps
        → AllByRecursion (IsFreeOf dot) (cond k ([] ∷ ps) (onto_first b ps))
    by_dot true e ps h = (tt, h)
    by_dot false e [] h = ((e, tt), tt)
    by_dot false e (p ∷ ps) h = ((e, h.0), h.1)

piece_chars : (xs : List ℕ) → list_all is_part_char xs ≡ true → IsFreeOf dot xs → list_all is_piece_char xs ≡ true
piece_chars [] h free = refl
piece_chars (b ∷ bs) h free =
    let chars = and_parts (is_part_char b) (list_all is_part_char bs) h in
    and_from (is_piece_char b) (list_all is_piece_char bs) (no_dot (is_piece_char b) (b == dot) chars.0 free.0)
    (piece_chars bs chars.1 free.1)
  where
    no_dot : (p d : Bool) → (p || d) ≡ true → d ≡ false → p ≡ true
    no_dot true d h e = refl
    no_dot false d h e = absurd cc

has_some : (xs : List ℕ) → (length xs == 0) ≡ false → 0 < length xs
has_some xs h = grind (arith, nat_tests)

not_empty : (xs : List ℕ) → 0 < length xs → (length xs == 0) ≡ false
not_empty xs h = grind (arith, nat_tests)

some_of : (xs : List ℕ) (at : ℕ) (next : Option ℕ) → (if length xs == 0 then Some at else next) ≡ None → (0 < length xs) × (next ≡ None)
some_of xs at next h = by_test (length xs == 0) refl h
  where
    by_test : (k : Bool) → (length xs == 0) ≡ k → cond k (Some at) next ≡ None → (0 < length xs) × (next ≡ None)
    by_test true e h = absurd cc
    by_test false e h = (has_some xs e, h)

joined_sound : (at : ℕ) (ps : List (List ℕ)) → 0 < length ps → HasShortRuns (join_with_byte dot ps)
    → list_all is_part_char (join_with_byte dot ps) ≡ true
    → AllByRecursion (IsFreeOf dot) ps → empty_from at ps ≡ None → AreComponents (join_with_byte dot ps) (map component_of ps)
joined_sound at [] some short chars free none = absurd (omega arith)
joined_sound at (p ∷ []) some short chars free none = component_sound p (some_of p at None none).0 short (piece_chars p chars free.0)
joined_sound at (p ∷ q ∷ ps) some short chars free none =
    let rest : List ℕ = join_with_byte dot (q ∷ ps) in
    let next = some_of p at (empty_from (at + length p + 1) (q ∷ ps)) none in
    let parts = all_front is_part_char p (dot ∷ rest) chars in (
      p,
      rest,
      refl,
      component_sound p next.0 (short_front p (dot ∷ rest) short) (piece_chars p parts.0 free.0),
      joined_sound (at + length p + 1) (q ∷ ps) (omega arith)
          (short_back (dot ∷ []) rest (short_back p (dot ∷ rest) short)) parts.1 free.1 next.1,
    )

pub part_sound : (at : ℕ) (dotted : List ℕ) → HasShortRuns dotted → list_all is_part_char dotted ≡ true
    → empty_from at (dotted_parts dotted) ≡ None → AreComponents dotted (components_of dotted)
part_sound at dotted short chars none =
    let whole : join_with_byte dot (dotted_parts dotted) ≡ dotted = join_with_byte-slice_split dot dotted in
    let some : 0 < length (dotted_parts dotted) = omega (arith, length-slice_split (is_byte dot) dotted) in
    subst (λ text. AreComponents text (components_of dotted)) whole
    (joined_sound at (dotted_parts dotted) some (subst HasShortRuns (sym whole) short) (ap (list_all is_part_char) whole ∙ chars)
    (pieces_free dotted) none)

-- ---- how texts end

ends_of_free : (c : ℕ) (xs : List ℕ) → IsFreeOf c xs → ends_with c xs ≡ false
ends_of_free c [] h = refl
ends_of_free c (x ∷ []) h = h.0
ends_of_free c (x ∷ y ∷ xs) h = ends_step c x y xs ∙ ends_of_free c (y ∷ xs) h.1

ends_main : (xs : List ℕ) → ends_with dot (main_dots xs) ≡ ends_with dot xs
ends_main [] = refl
ends_main (x ∷ []) = refl
ends_main (x ∷ y ∷ []) = refl
ends_main (x ∷ y ∷ z ∷ xs) =
    ends_step dot (as_dot x) (as_dot y) (main_dots (z ∷ xs)) ∙ ends_main (y ∷ z ∷ xs) ∙ sym (ends_step dot x y (z ∷ xs))

no_dot_of : (b : ℕ) → (as_dot b == dot) ≡ false → (b == dot) ≡ false
no_dot_of b h = grind (arith, nat_tests)

ends_undotted : (xs : List ℕ) → ends_with dot (map as_dot xs) ≡ false → ends_with dot xs ≡ false
ends_undotted [] h = refl
ends_undotted (x ∷ []) h = no_dot_of x h
ends_undotted (x ∷ y ∷ xs) h = ends_step dot x y xs ∙ ends_undotted (y ∷ xs) (sym (ends_step dot (as_dot x) (as_dot y) (map as_dot xs)) ∙ h)

-- ---- what has components is read so

pub record IsDotted (text : List ℕ) (components : List (List Run)) : Type 0 where
  pub value : components_of text ≡ components
  pub none : (at : ℕ) → empty_from at (dotted_parts text) ≡ None
  pub some : 0 < length text
  pub short : HasShortRuns text
  pub chars : list_all is_part_char text ≡ true
  pub ends : ends_with dot text ≡ false

split_front : (front rest : List ℕ) → IsFreeOf dot front → dotted_parts (front ++ dot ∷ rest) ≡ front ∷ dotted_parts rest
split_front [] rest h = refl
split_front (b ∷ front) rest h =
    slice_split-cons_no (is_byte dot) b (front ++ dot ∷ rest) h.0 ∙ ap (onto_first b) (split_front front rest h.1)

split_free : (xs : List ℕ) → IsFreeOf dot xs → dotted_parts xs ≡ xs ∷ []
split_free [] h = refl
split_free (b ∷ bs) h = slice_split-cons_no (is_byte dot) b bs h.0 ∙ ap (onto_first b) (split_free bs h.1)

piece_free : (xs : List ℕ) → list_all is_piece_char xs ≡ true → IsFreeOf dot xs
piece_free [] h = tt
piece_free (b ∷ bs) h =
    let chars = and_parts (is_piece_char b) (list_all is_piece_char bs) h in
    (no_dot b chars.0, piece_free bs chars.1)
  where
    no_dot : (b : ℕ) → is_piece_char b ≡ true → (b == dot) ≡ false
    no_dot b h = grind (arith, nat_tests)

part_char : (b : ℕ) → is_piece_char b ≡ true → is_part_char b ≡ true
part_char b h = ap (λ k. k || b == dot) h

none_of : (xs : List ℕ) (at : ℕ) (next : Option ℕ) → 0 < length xs → next ≡ None → (if length xs == 0 then Some at else next) ≡ None
none_of xs at next some h = ap (λ k. cond k (Some at) next) (not_empty xs some) ∙ h

pub part_again : (text : List ℕ) (components : List (List Run)) → AreComponents text components → IsDotted text components
part_again text [] h = absurd h
part_again text (component ∷ []) h =
    let piece = component_again text component h in
    let split = split_free text (piece_free text piece.chars) in
    record {
      value = ap (map component_of) split ∙ ap (λ c. c ∷ []) piece.value;
      none = λ at. ap (empty_from at) split ∙ none_of text at None piece.some refl;
      some = piece.some;
      short = piece.short;
      chars = all_as is_piece_char is_part_char part_char text piece.chars;
      ends = ends_of_free dot text (piece_free text piece.chars);
    }
part_again text (component ∷ next ∷ more) h =
    let front : List ℕ = h.0 in
    let rest : List ℕ = h.1 in
    let piece = component_again front component h.3 in
    let behind = part_again rest (next ∷ more) h.4 in
    let split = split_front front rest (piece_free front piece.chars) in
    subst (λ t. IsDotted t (component ∷ next ∷ more)) (sym h.2) (record {
      value = ap (map component_of) split ∙ ap (λ c. c ∷ components_of rest) piece.value ∙ ap (λ cs. component ∷ cs) behind.value;
      none = λ at. ap (empty_from at) split
          ∙ none_of front at (empty_from (at + length front + 1) (dotted_parts rest)) piece.some (behind.none (at + length front + 1));
      some = long front rest;
      short = short_before front dot rest refl piece.short behind.short;
      chars = all_both is_part_char front (dot ∷ rest) (all_as is_piece_char is_part_char part_char front piece.chars) behind.chars;
      ends = ends_back dot front (dot ∷ rest) (omega arith) ∙ ends_back dot (dot ∷ []) rest behind.some ∙ behind.ends;
    })
  where
    long : (xs ys : List ℕ) → 0 < length (xs ++ dot ∷ ys)
    long [] ys = omega arith
    long (x ∷ xs) ys = omega arith

-- ---- what is read is in the grammar

first_none : {A : Type 0} (a b : Option A) → option_or a b ≡ None → (a ≡ None) × (b ≡ None)
first_none None b h = (refl, h)
first_none (Some x) b h = absurd cc

because_none : (why : VersionWhy) (place : Option ℕ) → because why place ≡ None → place ≡ None
because_none why None h = refl
because_none why (Some at) h = absurd cc

-- no check finds a fault
record IsSound (text : List ℕ) : Type 0 where
  chars : char_fault text ≡ None
  epoch : epoch_fault text ≡ None
  local : local_fault text ≡ None
  main_components : empty_from (main_start text) (dotted_parts (main_dots (main_part text))) ≡ None
  local_components : option_and_then (empty_local text) (local_part text) ≡ None
  numerals : numeral_from 0 text ≡ None

sound_from : (text : List ℕ) → fault text ≡ None → IsSound text
sound_from text h =
    let late : Option (ℕ × VersionWhy) = option_or (because Component (component_fault text)) (because Numeral (numeral_from 0 text)) in
    let marks = first_none (marks_fault text) late h in
    let components = first_none (because Component (component_fault text)) (because Numeral (numeral_from 0 text)) marks.1 in
    let behind : Option (ℕ × VersionWhy) = option_or (because Epoch (epoch_fault text)) (because Local (local_fault text)) in
    let chars =
    first_none (because Char (char_fault text)) behind
    (first_none (because Empty (empty_fault text)) (option_or (because Char (char_fault text)) behind) marks.0).1 in
    let parts = first_none (because Epoch (epoch_fault text)) (because Local (local_fault text)) chars.1 in
    let empties = first_none (empty_from (main_start text) (dotted_parts (main_dots (main_part text))))
    (option_and_then (empty_local text) (local_part text))
    (because_none Component (component_fault text) components.0) in
    record {
      chars = because_none Char (char_fault text) chars.0;
      epoch = because_none Epoch (epoch_fault text) parts.0;
      local = because_none Local (local_fault text) parts.1;
      main_components = empties.0;
      local_components = empties.1;
      numerals = because_none Numeral (numeral_from 0 text) components.1;
    }

all_of_len : (p : ℕ → Bool) (xs : List ℕ) → length xs ≤ prefix_len (λ x. not (not (p x))) xs → list_all p xs ≡ true
all_of_len p [] h = refl
all_of_len p (x ∷ xs) h = grind (arith, nat_tests, all_of_len p xs)

plain_from : (text : List ℕ) → char_fault text ≡ None → list_all is_plain text ≡ true
plain_from text h =
    let m : ℕ = prefix_len (λ x. not (not (is_plain x))) text in
    let past : nat_lt m (length text) ≡ false = no_choice (nat_lt m (length text)) m h in
    all_of_len is_plain text (grind (arith, nat_tests, past))
  where
    no_choice : (k : Bool) (x : ℕ) → cond k (Some x) None ≡ None → k ≡ false
    no_choice true x h = absurd cc
    no_choice false x h = refl

len_of_all : (p : ℕ → Bool) (xs : List ℕ) → list_all p xs ≡ true → prefix_len (λ x. not (not (p x))) xs ≡ length xs
len_of_all p [] h = refl
len_of_all p (x ∷ xs) h =
    let parts = and_parts (p x) (list_all p xs) h in
    ap (λ k. cond (not (not k)) (1 + prefix_len (λ x. not (not (p x))) xs) 0) parts.0 ∙ omega (arith, len_of_all p xs parts.1)

free_back : (c : ℕ) (xs ys : List ℕ) → IsFreeOf c (xs ++ ys) → IsFreeOf c xs × IsFreeOf c ys
free_back c [] ys h = (tt, h)
free_back c (x ∷ xs) ys h = let more = free_back c xs ys h.1 in ((h.0, more.0), more.1)

part_chars : (xs : List ℕ) → list_all is_plain xs ≡ true → IsFreeOf exclamation xs → IsFreeOf plus xs → list_all is_part_char xs ≡ true
part_chars [] h e p = refl
part_chars (b ∷ bs) h e p =
    let chars = and_parts (is_plain b) (list_all is_plain bs) h in
    and_from (is_part_char b) (list_all is_part_char bs) (no_mark (is_part_char b) (b == plus) (b == exclamation) chars.0 e.0 p.0)
    (part_chars bs chars.1 e.1 p.1)
  where
    no_mark : (part p e : Bool) → (part || p || e) ≡ true → e ≡ false → p ≡ false → part ≡ true
    no_mark true p e h f g = refl
    no_mark false true e h f g = absurd cc
    no_mark false false e h f g = absurd cc

dot_char : (b : ℕ) → is_part_char (as_dot b) ≡ is_part_char b
dot_char b = grind (arith, nat_tests)

dots_chars : (xs : List ℕ) → list_all is_part_char (map as_dot xs) ≡ list_all is_part_char xs
dots_chars [] = refl
dots_chars (x ∷ xs) = ap (λ k. k && list_all is_part_char (map as_dot xs)) (dot_char x) ∙ ap (λ k. is_part_char x && k) (dots_chars xs)

main_chars : (xs : List ℕ) → list_all is_part_char (main_dots xs) ≡ list_all is_part_char xs
main_chars [] = refl
main_chars (x ∷ []) = refl
main_chars (x ∷ y ∷ xs) =
    ap (λ k. k && list_all is_part_char (main_dots (y ∷ xs))) (dot_char x) ∙ ap (λ k. is_part_char x && k) (main_chars (y ∷ xs))

local_sound_of : (text : List ℕ) (local : Option (List ℕ)) → list_all is_plain (local_text local) ≡ true
    → IsFreeOf exclamation (local_text local)
    → IfSome local (IsFreeOf plus) → IfSome (option_map (map as_dot) local) HasShortRuns
    → option_and_then (empty_local text) local ≡ None
    → IsLocal local (option_map_or (λ local. components_of (map as_dot local)) local [])
local_sound_of text None chars e p short none = refl
local_sound_of text (Some part) chars e p short none =
    let behind = all_front is_plain (plus ∷ []) part chars in
    part_sound (length text - length part) (map as_dot part) short (dots_chars part ∙ part_chars part behind.1 e.1 p) none

epoch_sound_of : Cuts → (text : List ℕ) (epoch : Option (List ℕ)) → epoch ≡ epoch_part text → epoch_fault text ≡ None → HasShortRuns text
    → IfSome epoch (λ digits. is_digits digits ≡ true) → IsEpoch epoch (option_map_or (digits_value 10) epoch 0)
epoch_sound_of cuts text None same good short digits = refl
epoch_sound_of cuts text (Some part) same good short digits = ((digits, (short_epoch cuts text part same good short).1), refl)

pub version_sound : Cuts → (text : List ℕ) → fault text ≡ None → IsVersion text (plain_meaning text)
version_sound cuts text h =
    let sound = sound_from text h in
    let main : List ℕ = main_part text in
    let local : Option (List ℕ) = local_part text in
    let short : HasShortRuns text = record { each = short_from_none 0 text sound.numerals } in
    let epochs = epoch_sound cuts text sound.epoch in
    let locals = local_sound cuts text sound.local in
    let whole = parts_whole cuts text in
    let chars : list_all is_plain (epoch_text (epoch_part text) ++ (main ++ local_text local)) ≡ true =
    ap (list_all is_plain) (sym whole) ∙ plain_from text sound.chars in
    let parts =
    all_front is_plain main (local_text local) (all_front is_plain (epoch_text (epoch_part text)) (main ++ local_text local) chars).1 in
    let free = free_back exclamation main (local_text local) (subst (IsFreeOf exclamation) (rest_is cuts text) epochs.1) in
    record {
      epoch = epoch_part text;
      main = main;
      local = local;
      whole = whole;
      epoch_means = epoch_sound_of cuts text (epoch_part text) refl sound.epoch short epochs.0;
      main_means = part_sound (main_start text) (main_dots main) (short_main cuts text short)
          (main_chars main ∙ part_chars main parts.0 free.0 locals.0) sound.main_components;
      local_means = local_sound_of text local parts.1 free.1 locals.1 (short_local cuts text short) sound.local_components;
    }

-- ---- what is in the grammar is read

mark_free : (c at : ℕ) (text : List ℕ) → IsFreeOf c text → mark_from c at text ≡ None
mark_free c at text free = ap (option_map (λ p. at + p)) (place_of_free c text free)

part_free : (c : ℕ) → ((b : ℕ) → is_part_char b ≡ true → (b == c) ≡ false) → (xs : List ℕ) → list_all is_part_char xs ≡ true → IsFreeOf c xs
part_free c other [] h = tt
part_free c other (b ∷ bs) h =
    let chars = and_parts (is_part_char b) (list_all is_part_char bs) h in
    (other b chars.0, part_free c other bs chars.1)

no_exclamation : (b : ℕ) → is_part_char b ≡ true → (b == exclamation) ≡ false
no_exclamation b h = grind (arith, nat_tests)

no_plus : (b : ℕ) → is_part_char b ≡ true → (b == plus) ≡ false
no_plus b h = grind (arith, nat_tests)

plain_part : (b : ℕ) → is_part_char b ≡ true → is_plain b ≡ true
plain_part b h = ap (λ k. k || b == plus || b == exclamation) h

digit_part : (b : ℕ) → is_ascii_digit b ≡ true → is_part_char b ≡ true
digit_part b h = grind (arith, nat_tests)

free_both : (c : ℕ) (xs ys : List ℕ) → IsFreeOf c xs → IsFreeOf c ys → IsFreeOf c (xs ++ ys)
free_both c [] ys h k = k
free_both c (x ∷ xs) ys h k = (h.0, free_both c xs ys h.1 k)

numeral_none : (at : ℕ) (text : List ℕ) → ((i : ℕ) → prefix_len is_ascii_digit (drop i text) ≤ 38) → numeral_from at text ≡ None
numeral_none at [] h = refl
numeral_none at (b ∷ bs) h =
    ap (λ k. cond k (Some at) (numeral_from (at + 1) bs)) (few (prefix_len is_ascii_digit (b ∷ bs)) (h 0))
    ∙ numeral_none (at + 1) bs (λ i. h (suc i))
  where
    few : (n : ℕ) → n ≤ 38 → nat_lt 38 n ≡ false
    few n h = grind (arith, nat_tests)

no_bad_char : (text : List ℕ) → list_all is_plain text ≡ true → char_fault text ≡ None
no_bad_char text h = let len = len_of_all is_plain text h in grind (arith, nat_tests, len)

short_numeral : (digits : List ℕ) → IsNumeral digits → HasShortRuns digits
short_numeral digits h =
    record { each = λ i. omega (arith, prefix_len-le-length is_ascii_digit (drop i digits), length-drop i digits, h.1) }

short_undotted : (text : List ℕ) → HasShortRuns (map as_dot text) → HasShortRuns text
short_undotted text short = record { each = λ i. omega (arith, prefix_of_dots i text, short.each i) }

short_unmain : (text : List ℕ) → HasShortRuns (main_dots text) → HasShortRuns text
short_unmain text short = record { each = λ i. omega (arith, prefix_of_main_dots i text, short.each i) }

behind_of : (epoch : Option (List ℕ)) (rest whole : List ℕ) → whole ≡ epoch_text epoch ++ rest
    → option_map_or second_half (option_map (λ digits. (digits, rest)) epoch) whole ≡ rest
behind_of None rest whole h = h
behind_of (Some digits) rest whole h = refl

digits_of : (epoch : Option (List ℕ)) (rest : List ℕ) → option_map first_half (option_map (λ digits. (digits, rest)) epoch) ≡ epoch
digits_of None rest = refl
digits_of (Some digits) rest = refl

text_of : (local : Option (List ℕ)) (main : List ℕ) → option_map second_half (option_map (λ part. (main, part)) local) ≡ local
text_of None main = refl
text_of (Some part) main = refl

main_of : (local : Option (List ℕ)) (main rest : List ℕ) → rest ≡ main ++ local_text local
    → option_map_or first_half (option_map (λ part. (main, part)) local) rest ≡ main
main_of None main rest h = h ∙ append-nil main
main_of (Some part) main rest h = refl

some_main : (main : List ℕ) → 0 < length (main_dots main) → is_empty main ≡ false
some_main [] h = absurd (omega arith)
some_main (b ∷ bs) h = refl

no_empty_fault : (front main back : List ℕ) → 0 < length (main_dots main) → empty_fault (front ++ (main ++ back)) ≡ None
no_empty_fault front main back h = ap (λ k. cond k (Some 0) None) (not_empty (front ++ (main ++ back)) (long front main back h))
  where
    long : (front main back : List ℕ) → 0 < length (main_dots main) → 0 < length (front ++ (main ++ back))
    long [] [] back h = absurd (omega arith)
    long [] (b ∷ main) back h = omega arith
    long (b ∷ front) main back h = omega arith

some_undotted : (xs : List ℕ) → 0 < length (map as_dot xs) → 0 < length xs
some_undotted [] h = h
some_undotted (x ∷ xs) h = omega arith

some_rest : (main back : List ℕ) → 0 < length (main_dots main) → 0 < length (main ++ back)
some_rest [] back h = absurd (omega arith)
some_rest (b ∷ main) back h = omega arith

-- the epoch of the grammar
record IsFront (epoch : Option (List ℕ)) (value : ℕ) : Type 0 where
  number : option_map_or (digits_value 10) epoch 0 ≡ value
  parts : (rest : List ℕ) → IsFreeOf exclamation rest
      → cut_first exclamation (epoch_text epoch ++ rest) ≡ option_map (λ digits. (digits, rest)) epoch
  good : (rest : List ℕ) → IsFreeOf exclamation rest
      → option_and_then fault_at_epoch (option_map (λ digits. (digits, rest)) epoch) ≡ None
  short : (rest : List ℕ) → HasShortRuns rest → HasShortRuns (epoch_text epoch ++ rest)
  chars : list_all is_plain (epoch_text epoch) ≡ true

front_again : Cuts → (epoch : Option (List ℕ)) (number : ℕ) → IsEpoch epoch number → IsFront epoch number
front_again cuts None number h = record {
  number = sym h;
  parts = λ rest free. (cuts.none exclamation rest).1 free;
  good = λ rest free. refl;
  short = λ rest short. short;
  chars = refl;
}
front_again cuts (Some digits) number h =
    let all = all_digits digits (digits_are_all digits h.0.0) in
    let chars = all_as is_ascii_digit is_part_char digit_part digits all in
    let regroup = λ (rest : List ℕ). append_assoc digits (exclamation ∷ []) rest in
    record {
      number = sym h.1;
      parts = λ rest free. ap (cut_first exclamation) (regroup rest)
          ∙ (cuts.first exclamation (digits ++ exclamation ∷ rest) digits rest).1 (refl, part_free exclamation no_exclamation digits chars);
      good = λ rest free.
          ap (λ k. cond k (mark_from exclamation (length digits + 1) rest) (Some (length digits))) h.0.0
          ∙ mark_free exclamation (length digits + 1) rest free;
      short = λ rest short. subst HasShortRuns (sym (regroup rest))
          (short_before digits exclamation rest refl (short_numeral digits h.0) short);
      chars = all_both is_plain digits (exclamation ∷ []) (all_as is_part_char is_plain plain_part digits chars) refl;
    }

-- the local part of the grammar
record IsBack (local : Option (List ℕ)) (components : List (List Run)) : Type 0 where
  value : option_map_or (λ text. components_of (map as_dot text)) local [] ≡ components
  parts : (main : List ℕ) → IsFreeOf plus main → cut_first plus (main ++ local_text local) ≡ option_map (λ text. (main, text)) local
  good : (main : List ℕ) (start : ℕ) → is_empty main ≡ false
      → option_and_then (fault_at_local start) (option_map (λ text. (main, text)) local) ≡ None
  none : (text : List ℕ) → option_and_then (empty_local text) local ≡ None
  free : IsFreeOf exclamation (local_text local)
  short : (main : List ℕ) → HasShortRuns main → HasShortRuns (main ++ local_text local)
  chars : list_all is_plain (local_text local) ≡ true
  ends : (main : List ℕ) → ends_with dot main ≡ false → ends_with dot (main ++ local_text local) ≡ false

back_again : Cuts → (local : Option (List ℕ)) (components : List (List Run)) → IsLocal local components → IsBack local components
back_again cuts None components h = record {
  value = sym h;
  parts = λ main free. ap (cut_first plus) (append-nil main) ∙ (cuts.none plus main).1 free;
  good = λ main start some. refl;
  none = λ text. refl;
  free = tt;
  short = λ main short. subst HasShortRuns (sym (append-nil main)) short;
  chars = refl;
  ends = λ main h. ap (ends_with dot) (append-nil main) ∙ h;
}
back_again cuts (Some part) components h =
    let dotted = part_again (map as_dot part) components h in
    let chars : list_all is_part_char part ≡ true = sym (dots_chars part) ∙ dotted.chars in
    record {
      value = dotted.value;
      parts = λ main free. (cuts.first plus (main ++ plus ∷ part) main part).1 (refl, free);
      good = λ main start some.
          ap (λ k. cond k (Some start) (mark_from plus (start + length main + 1) part)) some
          ∙ mark_free plus (start + length main + 1) part (part_free plus no_plus part chars);
      none = λ text. dotted.none (length text - length part);
      free = (refl, part_free exclamation no_exclamation part chars);
      short = λ main short. short_before main plus part refl short (short_undotted part dotted.short);
      chars = all_as is_part_char is_plain plain_part part chars;
      ends = λ main h.
          ends_back dot main (plus ∷ part) (omega arith) ∙ ends_back dot (plus ∷ []) part (some_undotted part dotted.some)
          ∙ ends_undotted part dotted.ends;
    }

pub record IsRead (text : List ℕ) (version : Meaning) : Type 0 where
  pub good : fault text ≡ None
  pub value : plain_meaning text ≡ version
  pub ends : ends_with dot text ≡ false

no_fault : (text : List ℕ) → IsSound text → empty_fault text ≡ None → fault text ≡ None
no_fault text sound some =
    let components : component_fault text ≡ None =
    ap (λ o. option_or o (option_and_then (empty_local text) (local_part text))) sound.main_components ∙ sound.local_components in
    let marks : marks_fault text ≡ None =
    ap (λ o. option_or (because Empty o)
    (option_or (because Char (char_fault text)) (option_or (because Epoch (epoch_fault text)) (because Local (local_fault text))))) some
    ∙ ap (λ o. option_or (because Char o) (option_or (because Epoch (epoch_fault text)) (because Local (local_fault text)))) sound.chars
    ∙ ap (λ o. option_or (because Epoch o) (because Local (local_fault text))) sound.epoch
    ∙ ap (because Local) sound.local in
    ap (λ o. option_or o (option_or (because Component (component_fault text)) (because Numeral (numeral_from 0 text)))) marks
    ∙ ap (λ o. option_or (because Component o) (because Numeral (numeral_from 0 text))) components
    ∙ ap (because Numeral) sound.numerals

same_meaning : (v w : Meaning) → v.epoch ≡ w.epoch → v.main ≡ w.main → v.local ≡ w.local → v ≡ w
same_meaning v w e m l = λ i. record { epoch = e i; main = m i; local = l i }

pub version_again : Cuts → (text : List ℕ) (version : Meaning) → IsVersion text version → IsRead text version
version_again cuts text version v =
    let main : List ℕ = v.main in
    let rest : List ℕ = main ++ local_text v.local in
    let whole : List ℕ = epoch_text v.epoch ++ rest in
    let dotted = part_again (main_dots main) version.main v.main_means in
    let front = front_again cuts v.epoch version.epoch v.epoch_means in
    let back = back_again cuts v.local version.local v.local_means in
    let chars : list_all is_part_char main ≡ true = sym (main_chars main) ∙ dotted.chars in
    let free : IsFreeOf exclamation rest =
    free_both exclamation main (local_text v.local) (part_free exclamation no_exclamation main chars) back.free in
    let first : cut_first exclamation whole ≡ option_map (λ digits. (digits, rest)) v.epoch = front.parts rest free in
    let behind : behind_epoch whole ≡ rest = ap (λ o. option_map_or second_half o whole) first ∙ behind_of v.epoch rest whole refl in
    let second : cut_first plus (behind_epoch whole) ≡ option_map (λ part. (main, part)) v.local =
    ap (cut_first plus) behind ∙ back.parts main (part_free plus no_plus main chars) in
    let epoch_is : epoch_part whole ≡ v.epoch = ap (option_map first_half) first ∙ digits_of v.epoch rest in
    let local_is : local_part whole ≡ v.local = ap (option_map second_half) second ∙ text_of v.local main in
    let main_is : main_part whole ≡ main =
    ap (λ o. option_map_or first_half o (behind_epoch whole)) second ∙ main_of v.local main (behind_epoch whole) behind in
    let sound : IsSound whole = record {
      chars = no_bad_char whole
          (all_both is_plain (epoch_text v.epoch) rest front.chars
          (all_both is_plain main (local_text v.local) (all_as is_part_char is_plain plain_part main chars) back.chars));
      epoch = ap (option_and_then fault_at_epoch) first ∙ front.good rest free;
      local = ap (option_and_then (fault_at_local (main_start whole))) second
          ∙ back.good main (main_start whole) (some_main main dotted.some);
      main_components = ap (λ m. empty_from (main_start whole) (dotted_parts (main_dots m))) main_is ∙ dotted.none (main_start whole);
      local_components = ap (option_and_then (empty_local whole)) local_is ∙ back.none whole;
      numerals = numeral_none 0 whole (front.short rest (back.short main (short_unmain main dotted.short))).each;
    } in
    let value = same_meaning (plain_meaning whole) version
    (ap (λ o. option_map_or (digits_value 10) o 0) epoch_is ∙ front.number)
    (ap (λ m. components_of (main_dots m)) main_is ∙ dotted.value)
    (ap (λ o. option_map_or (λ text. components_of (map as_dot text)) o []) local_is ∙ back.value) in
    let ends : ends_with dot whole ≡ false =
    ends_back dot (epoch_text v.epoch) rest (some_rest main (local_text v.local) dotted.some)
    ∙ back.ends main (sym (ends_main main) ∙ dotted.ends) in
    subst (λ t. IsRead t version) (sym v.whole)
    (record {
      good = no_fault whole sound (no_empty_fault (epoch_text v.epoch) main (local_text v.local) dotted.some);
      value = value;
      ends = ends;
    })

-- ---- what texts of versions hold

pub version_chars : (text : List ℕ) → fault text ≡ None → list_all is_plain text ≡ true
version_chars text h = plain_from text (sound_from text h).chars

dot_of_dash : (b : ℕ) → (underscored (to_ascii_lowercase b) == dot) ≡ (b == dot)
dot_of_dash b = grind (arith, nat_tests)

dot_of_small : (b : ℕ) → (to_ascii_lowercase b == dot) ≡ (b == dot)
dot_of_small b = grind (arith, nat_tests)

ends_mapped : (f : ℕ → ℕ) → ((b : ℕ) → (f b == dot) ≡ (b == dot)) → (xs : List ℕ) → ends_with dot (map f xs) ≡ ends_with dot xs
ends_mapped f same [] = refl
ends_mapped f same (x ∷ []) = same x
ends_mapped f same (x ∷ y ∷ xs) = ends_step dot (f x) (f y) (map f xs) ∙ ends_mapped f same (y ∷ xs) ∙ sym (ends_step dot x y xs)

pub version_end : Cuts → (text : List ℕ) → offence text ≡ None → ends_with dot text ≡ false
version_end cuts text h =
    sym (by_dash (holds dash text && not (holds underscore text)))
    ∙ (version_again cuts (plain text) (meaning text) (version_sound cuts (plain text) h)).ends
  where
    by_dash : (k : Bool) → ends_with dot
        (if k then map (λ b. underscored (to_ascii_lowercase b)) text else map to_ascii_lowercase text) ≡ ends_with dot text
    by_dash true = ends_mapped (λ b. underscored (to_ascii_lowercase b)) dot_of_dash text
    by_dash false = ends_mapped to_ascii_lowercase dot_of_small text

-- what two texts of the grammar mean decides
pub order_means : Cuts → (x y : List ℕ) (v w : Meaning) → IsVersionText x v → IsVersionText y w → version_cmp x y ≡ meaning_cmp v w
order_means cuts x y v w h k =
    ap (λ a. meaning_cmp a (meaning y)) (version_again cuts (plain x) v h).value
    ∙ ap (meaning_cmp v) (version_again cuts (plain y) w k).value

pub starts_means : Cuts → (x y : List ℕ) (v w : Meaning) → IsVersionText x v → IsVersionText y w → version_starts x y ≡ meaning_starts v w
starts_means cuts x y v w h k =
    ap (λ a. meaning_starts a (meaning y)) (version_again cuts (plain x) v h).value
    ∙ ap (meaning_starts v) (version_again cuts (plain y) w k).value
