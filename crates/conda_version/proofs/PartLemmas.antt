-- Lemmas on the parts of a plain text.
use Rattle.std.proofs.Common.{◌≡◌, ◌≤◌, ◌+◌, ℕ, Bool, true, false, List, [], ◌∷◌, ◌++◌, length, map, Option, None, Some, refl, sym, ap, subst, ◌∙◌, append_assoc}
use Rattle.std.proofs.lemmas.List.{append-nil}
use Rattle.std.specs.Prelude.{IfSome, if◌then◌else◌}
use Rattle.std.specs.Char.{is_ascii_digit}
use Rattle.std.specs.List.{list_all, position}
use Rattle.std.specs.Option.{option_map, option_map_or, option_and_then}
use Rattle.conda_base.specs.Numbers.{is_digits}
use Rattle.conda_base.specs.Signs.{exclamation, plus}
use Rattle.conda_base.specs.Texts.{IsFreeOf, cut_first, is_byte, is_empty}
use Rattle.conda_version.specs.Grammar.{HasShortRuns, behind_epoch, epoch_fault, epoch_part, fault_at_epoch, fault_at_local, local_fault, local_part, main_part, main_start, mark_from}
use Rattle.conda_version.specs.Versions.{as_dot, epoch_text, local_text, main_dots}
use Rattle.conda_version.proofs.CutLemmas.{Cuts, no_place}
use Rattle.conda_version.proofs.RunLemmas.{all_digits, digits_are_all, short_back, short_digits, short_front, short_of_dots, short_of_main_dots}

module _ (cuts : Cuts) where
  -- ---- the parts make up the text

  behind_whole : (text : List ℕ) → text ≡ epoch_text (epoch_part text) ++ behind_epoch text
  behind_whole text = by_cut (cut_first exclamation text) refl
    where
      by_cut : (halves : Option (List ℕ × List ℕ)) → cut_first exclamation text ≡ halves
          → text ≡ epoch_text (option_map (λ h. h.0) halves) ++ option_map_or (λ h. h.1) halves text
      by_cut None e = refl
      by_cut (Some h) e = ((cuts.first exclamation text h.0 h.1).0 e).0 ∙ sym (append_assoc h.0 (exclamation ∷ []) h.1)

  rest_whole : (rest : List ℕ) (halves : Option (List ℕ × List ℕ)) → cut_first plus rest ≡ halves
      → rest ≡ option_map_or (λ h. h.0) halves rest ++ local_text (option_map (λ h. h.1) halves)
  rest_whole rest None e = sym (append-nil rest)
  rest_whole rest (Some h) e = ((cuts.first plus rest h.0 h.1).0 e).0

  pub rest_is : (text : List ℕ) → behind_epoch text ≡ main_part text ++ local_text (local_part text)
  rest_is text = rest_whole (behind_epoch text) (cut_first plus (behind_epoch text)) refl

  pub parts_whole : (text : List ℕ) → text ≡ epoch_text (epoch_part text) ++ (main_part text ++ local_text (local_part text))
  parts_whole text =
      behind_whole text ∙ ap (λ rest. epoch_text (epoch_part text) ++ rest) (rest_is text)

  -- ---- the parts of a text with sound marks

  mark_none : (c at : ℕ) (text : List ℕ) → mark_from c at text ≡ None → IsFreeOf c text
  mark_none c at text h = by_place (position (is_byte c) text) refl h
    where
      by_place : (place : Option ℕ) → position (is_byte c) text ≡ place → option_map (λ p. at + p) place ≡ None → IsFreeOf c text
      by_place None e g = no_place c text (sym e)
      by_place (Some p) e g = absurd cc

  pub epoch_sound : (text : List ℕ) → epoch_fault text ≡ None
      → IfSome (epoch_part text) (λ digits. is_digits digits ≡ true) × IsFreeOf exclamation (behind_epoch text)
  epoch_sound text good = by_cut (cut_first exclamation text) refl good
    where
      by_cut : (halves : Option (List ℕ × List ℕ)) → cut_first exclamation text ≡ halves
          → option_and_then fault_at_epoch halves ≡ None
          → IfSome (option_map (λ h. h.0) halves) (λ digits. is_digits digits ≡ true) × IsFreeOf exclamation
          (option_map_or (λ h. h.1) halves text)
      by_cut None e g = (tt, (cuts.none exclamation text).0 e)
      by_cut (Some h) e g = by_digits (is_digits h.0) refl g
        where
          by_digits : (k : Bool) → is_digits h.0 ≡ k → (if k then mark_from exclamation (length h.0 + 1) h.1 else Some (length h.0)) ≡ None
              → (is_digits h.0 ≡ true) × IsFreeOf exclamation h.1
          by_digits true d g = (d, mark_none exclamation (length h.0 + 1) h.1 g)
          by_digits false d g = absurd cc

  pub local_sound : (text : List ℕ) → local_fault text ≡ None → IsFreeOf plus (main_part text) × IfSome (local_part text) (IsFreeOf plus)
  local_sound text good = by_cut (cut_first plus (behind_epoch text)) refl good
    where
      by_cut : (halves : Option (List ℕ × List ℕ)) → cut_first plus (behind_epoch text) ≡ halves
          → option_and_then (fault_at_local (main_start text)) halves ≡ None
          → IsFreeOf plus (option_map_or (λ h. h.0) halves (behind_epoch text)) × IfSome (option_map (λ h. h.1) halves) (IsFreeOf plus)
      by_cut None e g = ((cuts.none plus (behind_epoch text)).0 e, tt)
      by_cut (Some h) e g = by_empty (is_empty h.0) refl g
        where
          by_empty : (k : Bool) → is_empty h.0 ≡ k
              → (if k then Some (main_start text) else mark_from plus (main_start text + length h.0 + 1) h.1) ≡ None
              → IsFreeOf plus h.0 × IsFreeOf plus h.1
          by_empty true d g = absurd cc
          by_empty false d g =
              (((cuts.first plus (behind_epoch text) h.0 h.1).0 e).1, mark_none plus (main_start text + length h.0 + 1) h.1 g)

  -- ---- the parts of a text without long runs

  pub short_epoch : (text digits : List ℕ) → Some digits ≡ epoch_part text → epoch_fault text ≡ None → HasShortRuns text
      → (list_all is_ascii_digit digits ≡ true) × (length digits ≤ 38)
  short_epoch text digits found good short =
      let all : is_digits digits ≡ true = subst (λ part. IfSome part (λ d. is_digits d ≡ true)) (sym found) (epoch_sound text good).0 in
      let whole : text ≡ (digits ++ exclamation ∷ []) ++ behind_epoch text =
      behind_whole text ∙ ap (λ part. epoch_text part ++ behind_epoch text) (sym found) in
      let front =
      short_front digits (exclamation ∷ [])
      (short_front (digits ++ exclamation ∷ []) (behind_epoch text) (subst HasShortRuns whole short)) in
      (all_digits digits (digits_are_all digits all), short_digits digits all front)

  short_rest : (text : List ℕ) → HasShortRuns text → HasShortRuns (main_part text ++ local_text (local_part text))
  short_rest text short =
      short_back (epoch_text (epoch_part text)) (main_part text ++ local_text (local_part text))
      (subst HasShortRuns (parts_whole text) short)

  pub short_main : (text : List ℕ) → HasShortRuns text → HasShortRuns (main_dots (main_part text))
  short_main text short =
      short_of_main_dots (main_part text) (short_front (main_part text) (local_text (local_part text)) (short_rest text short))

  pub short_local : (text : List ℕ) → HasShortRuns text → IfSome (option_map (map as_dot) (local_part text)) HasShortRuns
  short_local text short = by_local (local_part text) (short_back (main_part text) (local_text (local_part text)) (short_rest text short))
    where
      by_local : (local : Option (List ℕ)) → HasShortRuns (local_text local) → IfSome (option_map (map as_dot) local) HasShortRuns
      by_local None h = tt
      by_local (Some part) h = short_of_dots part (short_back (plus ∷ []) part h)
