-- Where the index file of a folder stands.
use Rattle.std.proofs.Common.{◌≡◌, ◌≢◌, ◌↔◌, ◌==◌, ◌&&◌, not, ℕ, List, [], ◌∷◌, ◌++◌, Bool, true, false, true≢false, codes, Option, Some, None, is_some, refl, ap, sym, ◌∙◌}
use Rattle.std.specs.Prelude.{nat_eq, unwrap_or}
use Rattle.std.specs.Bool.{Decides}
use Rattle.std.specs.Cmp.Lexicographic.{pointwise}
use Rattle.std.proofs.lemmas.Bool.Decides.{Decides-eqb}
use Rattle.std.proofs.lemmas.List.{append_assoc, append_cancel_right}
use Rattle.std.proofs.lemmas.Slice.Eq.{slice_eq-Decides}
use Rattle.conda_base.specs.Signs.{dot, slash}
use Rattle.conda_base.specs.Texts.{IsFreeOf, cut_last, is_text}
use Rattle.conda_path.specs.Paths.{IsPart, is_bad_part}
use Rattle.conda_device.specs.Channels.{index_path}
use Rattle.conda_mem.specs.Folders.{IsIndexOf}

abbrev pub ending : List ℕ
ending = codes "/info/index.json"

abbrev pub CutLaw : Type 0
CutLaw = (mark : ℕ) (text before behind : List ℕ) → (cut_last mark text ≡ Some (before, behind)) ↔ ((text ≡ before ++ mark ∷ behind) × IsFreeOf mark behind)

same_text : (a b : List ℕ) → Decides (is_text a b) (a ≡ b)
same_text a b = slice_eq-Decides Decides-eqb a b (pointwise nat_eq a b) refl

first_so : (a b : Bool) → (a && b) ≡ true → a ≡ true
first_so true b h = refl
first_so false b h = absurd (true≢false (sym h))

second_so : (a b : Bool) → (a && b) ≡ true → b ≡ true
second_so true b h = h
second_so false b h = absurd (true≢false (sym h))

not_so : (a : Bool) → not a ≡ true → a ≡ false
not_so true h = absurd (true≢false (sym h))
not_so false h = refl

one_dot : (a : ℕ) → (a == dot) ≡ true → a ∷ [] ≡ dot ∷ []
one_dot a h = ap (λ n. n ∷ []) ((Decides-eqb a dot).0 h)

two_dots : (a b : ℕ) → (a == dot && b == dot) ≡ true → a ∷ b ∷ [] ≡ dot ∷ dot ∷ []
two_dots a b h =
    ap (λ n. n ∷ b ∷ []) ((Decides-eqb a dot).0 (first_so (a == dot) (b == dot) h))
    ∙ ap (λ n. dot ∷ n ∷ []) ((Decides-eqb b dot).0 (second_so (a == dot) (b == dot) h))

-- a text that is bad is no part, and one that isn't is one
bad_is : (part : List ℕ) → is_bad_part part ≡ true → IsPart part → ⊥
bad_is [] h is = is.0 refl
bad_is (a ∷ []) h is = is.1 (one_dot a h)
bad_is (a ∷ b ∷ []) h is = is.2 (two_dots a b h)
bad_is (a ∷ b ∷ c ∷ rest) h is = true≢false (sym h)

good_is : (part : List ℕ) → is_bad_part part ≡ false → IsPart part
good_is [] h = absurd (true≢false h)
good_is (a ∷ []) h = (λ e. cc, λ e. let same : a ≡ dot = cc in true≢false (sym ((Decides-eqb a dot).1 same) ∙ h), λ e. cc)
good_is (a ∷ b ∷ []) h = (
  λ e. cc,
  λ e. cc,
  λ e.
      let first : a ≡ dot = cc in
      let second : b ≡ dot = cc in
      true≢false (sym (ap (λ t. t && b == dot) ((Decides-eqb a dot).1 first) ∙ (Decides-eqb b dot).1 second) ∙ h),
)
good_is (a ∷ b ∷ c ∷ rest) h = (λ e. cc, λ e. cc, λ e. cc)

none_some : (x : List ℕ × List ℕ) → None ≡ Some x → ⊥
none_some x e = true≢false (sym (ap is_some e))

some_is : (x y : List ℕ × List ℕ) → Some x ≡ Some y → x ≡ y
some_is x y e = ap (λ o. unwrap_or o x) e

-- ---- the parts of the path

split_path : (subdir name : List ℕ) → index_path subdir name ≡ (subdir ++ slash ∷ name) ++ ending
split_path subdir name = sym (append_assoc subdir (slash ∷ name) ending)

pub no_ending : (subdir path : List ℕ) → ((front : List ℕ) → path ≢ front ++ ending) → (name : List ℕ) → IsIndexOf subdir path name → ⊥
no_ending subdir path none name is = none (subdir ++ slash ∷ name) (is.0 ∙ split_path subdir name)

front_of : (subdir path front name : List ℕ) → path ≡ front ++ ending → IsIndexOf subdir path name → front ≡ subdir ++ slash ∷ name
front_of subdir path front name e is = append_cancel_right front (subdir ++ slash ∷ name) ending (sym e ∙ is.0 ∙ split_path subdir name)

cut_of : CutLaw → (subdir path front name : List ℕ) → path ≡ front ++ ending → IsIndexOf subdir path name → cut_last slash front ≡ Some (subdir, name)
cut_of law subdir path front name e is = (law slash front subdir name).1 (front_of subdir path front name e is, is.1.1)

pub no_cut : CutLaw → (subdir path front : List ℕ) → path ≡ front ++ ending → cut_last slash front ≡ None → (name : List ℕ) → IsIndexOf subdir path name → ⊥
no_cut law subdir path front e none name is =
    none_some (subdir, name) (sym none ∙ cut_of law subdir path front name e is)

pub other_cut : CutLaw → (subdir path front folder found : List ℕ) → path ≡ front ++ ending → cut_last slash front ≡ Some (folder, found)
    → (is_text folder subdir && not (is_bad_part found)) ≡ false → (name : List ℕ) → IsIndexOf subdir path name → ⊥
other_cut law subdir path front folder found e cut differs name is =
    let both = some_is (folder, found) (subdir, name) (sym cut ∙ cut_of law subdir path front name e is) in
    let same_folder : folder ≡ subdir = ap (λ (p : List ℕ × List ℕ). p.0) both in
    let same_name : name ≡ found = sym (ap (λ (p : List ℕ × List ℕ). p.1) both) in
    elim (is_bad_part found) as (λ b. is_bad_part found ≡ b → ⊥) [
      | true ↦ λ bad. bad_is name (ap is_bad_part same_name ∙ bad) is.1.0
      | false ↦ λ good. true≢false (sym (ap (λ t. t && not (is_bad_part found)) ((same_text folder subdir).1 same_folder) ∙ ap not good) ∙ differs)
    ] refl

pub is_index : CutLaw → (subdir path front folder found : List ℕ) → path ≡ front ++ ending → cut_last slash front ≡ Some (folder, found)
    → (is_text folder subdir && not (is_bad_part found)) ≡ true → IsIndexOf subdir path found
is_index law subdir path front folder found e cut same =
    let parts = (law slash front folder found).0 cut in
    let same_folder : folder ≡ subdir = (same_text folder subdir).0 (first_so _ _ same) in (
      e ∙ ap (λ f. f ++ ending) (parts.0 ∙ ap (λ f. f ++ slash ∷ found) same_folder) ∙ sym (split_path subdir found),
      (good_is found (not_so _ (second_so (is_text folder subdir) _ same)), parts.1),
    )
