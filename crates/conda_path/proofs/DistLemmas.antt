-- The test of a dist is its rule, by what a cut at the last dash means.
use Rattle.std.proofs.Common.{◌≡◌, ◌≢◌, ◌↔◌, ℕ, Bool, true, false, ◌&&◌, ◌||◌, not, List, [], ◌∷◌, ◌++◌, length, Option, Some, None, refl, sym, ap, ◌∙◌, append_assoc}
use Rattle.std.specs.Cmp.{first_so, second_so}
use Rattle.std.specs.List.{AllByRecursion, after_last, before_last, list_any}
use Rattle.std.proofs.lemmas.Bool.{false≢true, le-leb, leb-true, true≢false}
use Rattle.std.proofs.Math.Dec.{leb}
use Rattle.conda_base.specs.Signs.{dash}
use Rattle.conda_base.specs.Texts.{IsFreeOf, cut_last, is_byte, is_empty}
use Rattle.conda_path.specs.Dists.{IsDist, IsSplit, begins_badly, dist_build, dist_name, dist_text, dist_version, has_parts, is_bad_byte, is_dist, names_file}

-- what the laws of cuts say of the last dash
pub record LastDash : Type 0 where
  pub cut : (text before behind : List ℕ) → (cut_last dash text ≡ Some (before, behind)) ↔ ((text ≡ before ++ dash ∷ behind) × IsFreeOf dash behind)
  pub words : (text before behind : List ℕ) → cut_last dash text ≡ Some (before, behind) → (before_last (is_byte dash) text ≡ before) × (after_last (is_byte dash) text ≡ behind)
  pub none : (text : List ℕ) → cut_last dash text ≡ None → before_last (is_byte dash) text ≡ []

some_of : (text : List ℕ) → not (is_empty text) ≡ true → text ≢ []
some_of [] h = absurd (false≢true h)
some_of (b ∷ rest) h = λ e. cc

of_some : (text : List ℕ) → text ≢ [] → is_empty text ≡ false
of_some [] h = absurd (h refl)
of_some (b ∷ rest) h = refl

not_true : (a : Bool) → not a ≡ true → a ≡ false
not_true true h = absurd (false≢true h)
not_true false h = refl

or_false : (a b : Bool) → a || b ≡ false → (a ≡ false) × (b ≡ false)
or_false true b h = absurd (true≢false h)
or_false false b h = (refl, h)

none_bad : (text : List ℕ) → list_any is_bad_byte text ≡ false → AllByRecursion (λ b. is_bad_byte b ≡ false) text
none_bad [] h = tt
none_bad (b ∷ rest) h = let both = or_false (is_bad_byte b) (list_any is_bad_byte rest) h in (both.0, none_bad rest both.1)

bad_none : (text : List ℕ) → AllByRecursion (λ b. is_bad_byte b ≡ false) text → list_any is_bad_byte text ≡ false
bad_none [] h = refl
bad_none (b ∷ rest) h = rw h.0 (bad_none rest h.1)

module _ (last : LastDash) where
  seam : (front back : List ℕ) → IsFreeOf dash back → (before_last (is_byte dash) (front ++ dash ∷ back) ≡ front) × (after_last (is_byte dash) (front ++ dash ∷ back) ≡ back)
  seam front back h =
      last.words (front ++ dash ∷ back) front back ((last.cut (front ++ dash ∷ back) front back).1 (refl, h))

  -- what stands before the last dash, if anything does
  cut_is : (text : List ℕ) → before_last (is_byte dash) text ≢ [] → (text ≡ before_last (is_byte dash) text ++ dash ∷ after_last (is_byte dash) text) × IsFreeOf dash (after_last (is_byte dash) text)
  cut_is text h = by (cut_last dash text) refl
    where
      by : (cut : Option (List ℕ × List ℕ)) → cut_last dash text ≡ cut → (text ≡ before_last (is_byte dash) text ++ dash ∷ after_last (is_byte dash) text) × IsFreeOf dash (after_last (is_byte dash) text)
      by None e = absurd (h (last.none text e))
      by (Some halves) e =
          let words = last.words text halves.0 halves.1 e in
          rw (words.0, words.1) ((last.cut text halves.0 halves.1).0 e)

  -- the parts of what was joined are the parts
  pub parts_law : (text name version build : List ℕ) → IsSplit text name version build → (dist_name text ≡ name) × (dist_version text ≡ version) × (dist_build text ≡ build)
  parts_law text name version build s =
      let joined = s.text_is ∙ sym (append_assoc name (dash ∷ version) (dash ∷ build)) in
      let outer = seam (name ++ dash ∷ version) build s.build_plain in
      let inner = seam name version s.version_plain in
      rw (joined, outer.0, outer.1) (inner.0, inner.1, refl)

  split_parts : (text : List ℕ) → has_parts text ≡ true → IsSplit text (dist_name text) (dist_version text) (dist_build text)
  split_parts text h =
      let front = first_so (not (is_empty (dist_name text)) && not (is_empty (dist_version text))) (not (is_empty (dist_build text))) h in
      let name = some_of (dist_name text) (first_so _ (not (is_empty (dist_version text))) front) in
      let inner = cut_is (before_last (is_byte dash) text) name in
      let outer = cut_is text (λ e. name (ap (before_last (is_byte dash)) e)) in
      record {
        text_is = outer.0 ∙ ap (λ f. f ++ dash ∷ dist_build text) inner.0 ∙ append_assoc (dist_name text) (dash ∷ dist_version text) (dash ∷ dist_build text);
        name_some = name;
        version_some = some_of (dist_version text) (second_so (not (is_empty (dist_name text))) _ front);
        build_some = some_of (dist_build text) (second_so (not (is_empty (dist_name text)) && not (is_empty (dist_version text))) _ h);
        version_plain = inner.1;
        build_plain = outer.1;
      }

  dist_rule : (text : List ℕ) → is_dist text ≡ true → IsDist text
  dist_rule text h =
      let plain = first_so _ (has_parts text) h in
      let bytes = first_so _ (not (names_file text)) plain in
      let front = first_so _ (not (list_any is_bad_byte text)) bytes in
      record {
        split = (dist_name text, dist_version text, dist_build text, split_parts text (second_so _ (has_parts text) h));
        bytes = none_bad text (not_true _ (second_so _ (not (list_any is_bad_byte text)) bytes));
        front = not_true _ (second_so (leb (length text) 255) _ front);
        no_file = not_true _ (second_so _ (not (names_file text)) plain);
        short = leb-true (length text) 255 (first_so _ (not (begins_badly text)) front);
      }

  rule_dist : (text : List ℕ) → IsDist text → is_dist text ≡ true
  rule_dist text r =
      let s = r.split.3 in
      let p = parts_law text r.split.0 r.split.1 r.split.2 s in
      let name : is_empty (dist_name text) ≡ false = ap is_empty p.0 ∙ of_some _ s.name_some in
      let version : is_empty (dist_version text) ≡ false = ap is_empty p.1 ∙ of_some _ s.version_some in
      let build : is_empty (dist_build text) ≡ false = ap is_empty p.2 ∙ of_some _ s.build_some in
      rw (le-leb (length text) 255 r.short, r.front, bad_none text r.bytes, r.no_file, name, version, build) refl

  pub rule_law : (text : List ℕ) → (is_dist text ≡ true) ↔ IsDist text
  rule_law text = (dist_rule text, rule_dist text)

  pub split_law : (text : List ℕ) → is_dist text ≡ true → text ≡ dist_text (dist_name text) (dist_version text) (dist_build text)
  split_law text h = (split_parts text (second_so _ (has_parts text) h)).text_is
