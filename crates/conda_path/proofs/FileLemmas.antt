-- What is cut off a package file's name is its ending.
use Rattle.std.specs.Prelude.{◌≡◌, ◌≢◌, ◌↔◌, ℕ, ◌-◌, Bool, true, false, nat_eq, if◌then◌else◌, List, ◌++◌, length, take, drop, reverse, codes, Option, None, Some}
use Rattle.std.proofs.Common.{inl, inr, refl, ap, sym, ◌∙◌}
use Rattle.std.proofs.Math.Nat.{add-sub_cancel}
use Rattle.std.proofs.Math.Seq.{drop-append_seam, take-append_seam}
use Rattle.std.proofs.lemmas.Bool.{true≢false}
use Rattle.std.proofs.lemmas.Bool.Decides.{Decides-eqb}
use Rattle.std.proofs.lemmas.List.{length-append, reverse-append, take-append-drop}
use Rattle.std.proofs.lemmas.Slice.Eq.{slice_eq-Decides}
use Rattle.std.specs.Bool.{Decides}
use Rattle.std.specs.Cmp.Lexicographic.{pointwise}
use Rattle.std.specs.List.{ends_with}
use Rattle.std.specs.Option.{option_or}
use Rattle.conda_base.specs.Texts.{begins_with}
use Rattle.conda_path.specs.Files.{IsFileOf, before_end, cut_ending}

same_text : (a b : List ℕ) → Decides (pointwise nat_eq a b) (a ≡ b)
same_text a b = slice_eq-Decides Decides-eqb a b (pointwise nat_eq a b) refl

same_some : (x y : List ℕ) → Some x ≡ Some y → x ≡ y
same_some x y e = cc e

-- ---- one ending

ended : (text ending : List ℕ) → ends_with nat_eq text ending ≡ true → text ≡ take (length text - length ending) text ++ ending
ended text ending h =
    let k = length text - length ending in
    sym (take-append-drop k text) ∙ ap (λ e. take k text ++ e) (sym ((same_text ending (drop k text)).0 h))

front_length : (front ending : List ℕ) → length (front ++ ending) - length ending ≡ length front
front_length front ending = ap (λ n. n - length ending) (length-append front ending) ∙ add-sub_cancel (length front) (length ending)

front_kept : (front ending : List ℕ) → before_end ending (front ++ ending) ≡ Some front
front_kept front ending =
    let text = front ++ ending in
    let k = length text - length ending in
    let tail : drop k text ≡ ending = ap (λ n. drop n text) (front_length front ending) ∙ drop-append_seam front ending in
    rw ((same_text ending (drop k text)).1 (sym tail))
    (ap Some (ap (λ n. take n text) (front_length front ending) ∙ take-append_seam front ending))

pub end_found : (ending text front : List ℕ) → text ≡ front ++ ending → before_end ending text ≡ Some front
end_found ending text front e = ap (before_end ending) e ∙ front_kept front ending

end_if : (b : Bool) (ending text front : List ℕ) → ends_with nat_eq text ending ≡ b
    → (if b then Some (take (length text - length ending) text) else None) ≡ Some front → text ≡ front ++ ending
end_if true ending text front is e =
    ended text ending is ∙ ap (λ f. f ++ ending) (same_some (take (length text - length ending) text) front e)
end_if false ending text front is e = cc e

pub end_cut : (ending text front : List ℕ) → before_end ending text ≡ Some front → text ≡ front ++ ending
end_cut ending text front e = end_if (ends_with nat_eq text ending) ending text front refl e

none_of : (ending text : List ℕ) (found : Option (List ℕ)) → before_end ending text ≡ found → ((front : List ℕ) → text ≢ front ++ ending) → found ≡ None
none_of ending text None e none = refl
none_of ending text (Some front) e none = absurd (none front (end_cut ending text front e))

pub no_end : (ending text : List ℕ) → ((front : List ℕ) → text ≢ front ++ ending) → before_end ending text ≡ None
no_end ending text none = none_of ending text (before_end ending text) refl none

-- ---- either ending

unlike : (a b : List ℕ) → a ++ codes ".tar.bz2" ≢ b ++ codes ".conda"
unlike a b e =
    let back = sym (reverse-append a (codes ".tar.bz2")) ∙ ap reverse e ∙ reverse-append b (codes ".conda") in
    true≢false (ap (begins_with 50) back)

either : (first second : Option (List ℕ)) (file stem : List ℕ) → before_end (codes ".tar.bz2") file ≡ first → before_end (codes ".conda") file ≡ second
    → option_or first second ≡ Some stem → IsFileOf file stem
either (Some front) second file stem e f is = inl (end_cut (codes ".tar.bz2") file stem (e ∙ is))
either None second file stem e f is = inr (end_cut (codes ".conda") file stem (f ∙ is))

file_cut : (file stem : List ℕ) → cut_ending file ≡ Some stem → IsFileOf file stem
file_cut file stem e = either (before_end (codes ".tar.bz2") file) (before_end (codes ".conda") file) file stem refl refl e

file_found : (file stem : List ℕ) → IsFileOf file stem → cut_ending file ≡ Some stem
file_found file stem (inl is) = rw (end_found (codes ".tar.bz2") file stem is) refl
file_found file stem (inr is) =
    rw (no_end (codes ".tar.bz2") file (λ front e. unlike front stem (sym e ∙ is)), end_found (codes ".conda") file stem is) refl

pub ending_law : (file stem : List ℕ) → (cut_ending file ≡ Some stem) ↔ IsFileOf file stem
ending_law file stem = (file_cut file stem, file_found file stem)
