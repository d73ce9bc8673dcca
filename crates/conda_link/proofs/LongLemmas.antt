-- Where a file of a package goes is a path, unless it is too long.
use Rattle.std.specs.Prelude.{◌≡◌, ℕ, ◌≤◌, ◌<◌, Bool, true, false, ◌&&◌, ◌||◌, ◌==◌, nat_lt, if◌then◌else◌, List, [], ◌∷◌, ◌++◌, length, codes, Option, None, Some}
use Rattle.std.proofs.Common.{refl, ap, sym, ◌∙◌, subst, arith}
use Rattle.std.proofs.Math.Dec.{leb}
use Rattle.std.proofs.lemmas.Bool.{eqb-true, leb-false, leb-true, ltb-true}
use Rattle.std.proofs.lemmas.List.{append_assoc}
use Rattle.std.specs.Char.{is_ascii_digit}
use Rattle.std.specs.Cmp.{first_so, second_so}
use Rattle.std.specs.List.{AllByRecursion, slice_split}
use Rattle.std.specs.Option.{option_map_or}
use Rattle.std.specs.Str.{all_ascii_digits}
use Rattle.conda_base.specs.Numbers.{is_digits}
use Rattle.conda_base.specs.Signs.{delete, dot, slash, space}
use Rattle.conda_base.specs.Texts.{cut_first, is_byte, is_text, IsFreeOf}
use Rattle.conda_path.specs.Paths.{IsPart, IsRelPath, is_control}
use Rattle.conda_json.specs.Shown.{found, same_some}
use Rattle.conda_link.specs.Places.{IsPython, digit_parts, placed, placed_part, with_second}
use Rattle.conda_link.proofs.RuleLemmas.{FirstCut}

-- what the halves of a cut at the first such byte are, in std's words
abbrev pub FirstWords : Type 0
FirstWords = (mark : ℕ) (text before behind : List ℕ) → cut_first mark text ≡ Some (before, behind)
    → slice_split (is_byte mark) text ≡ before ∷ slice_split (is_byte mark) behind

-- ---- X.Y holds nothing that is bad in a part of a path

not_so : (b : Bool) → (b ≡ true → ⊥) → b ≡ false
not_so true h = absurd (h refl)
not_so false h = refl

-- a byte that is no slash, and that paths hold
abbrev IsPlainByte : ℕ → Type 0
IsPlainByte b = ((b == slash) ≡ false) × (is_control b ≡ false)

digit_plain : (b : ℕ) → is_ascii_digit b ≡ true → IsPlainByte b
digit_plain b h =
    let low : 48 ≤ b = leb-true 48 b (first_so (leb 48 b) (leb b 57) h) in
    let high : b ≤ 57 = leb-true b 57 (second_so (leb 48 b) (leb b 57) h) in
    let below = not_so (nat_lt b space) (λ e. omega (arith, low, ltb-true b space e)) in
    let last = not_so (b == delete) (λ e. omega (arith, high, eqb-true b delete e)) in (
      not_so (b == slash) (λ e. omega (arith, low, eqb-true b slash e)),
      ap (λ x. x || b == delete) below ∙ last,
    )

digits_plain : (text : List ℕ) → all_ascii_digits text ≡ true → AllByRecursion IsPlainByte text
digits_plain [] h = tt
digits_plain (b ∷ rest) h =
    (digit_plain b (first_so (is_ascii_digit b) (all_ascii_digits rest) h), digits_plain rest (second_so (is_ascii_digit b) (all_ascii_digits rest) h))

number_plain : (text : List ℕ) → is_digits text ≡ true → AllByRecursion IsPlainByte text
number_plain [] h = tt
number_plain (b ∷ rest) h = digits_plain (b ∷ rest) h

both : (P : ℕ → Type 0) (xs ys : List ℕ) → AllByRecursion P xs → AllByRecursion P ys → AllByRecursion P (xs ++ ys)
both P [] ys a b = b
both P (x ∷ xs) ys a b = (a.0, both P xs ys a.1 b)

behind : (P : ℕ → Type 0) (xs ys : List ℕ) → AllByRecursion P (xs ++ ys) → AllByRecursion P ys
behind P [] ys a = a
behind P (x ∷ xs) ys a = behind P xs ys a.1

two_plain : (b : Bool) (first second python : List ℕ) → is_digits first && is_digits second ≡ b
    → (if b then Some (first ++ dot ∷ second) else None) ≡ Some python → AllByRecursion IsPlainByte python
two_plain true first second python is e =
    let one = number_plain first (first_so (is_digits first) (is_digits second) is) in
    let two = number_plain second (second_so (is_digits first) (is_digits second) is) in
    subst (AllByRecursion IsPlainByte) (same_some (first ++ dot ∷ second) python e)
    (both IsPlainByte first (dot ∷ second) one ((refl, refl), two))
two_plain false first second python is e = cc e

parts_plain : (first second python : List ℕ) → digit_parts first second ≡ Some python → AllByRecursion IsPlainByte python
parts_plain first second python e = two_plain (is_digits first && is_digits second) first second python refl e

second_plain : (first rest python : List ℕ) (cut : Option (List ℕ × List ℕ)) → with_second first rest cut ≡ Some python → AllByRecursion IsPlainByte python
second_plain first rest python None e = parts_plain first rest python e
second_plain first rest python (Some halves) e = parts_plain first halves.0 python e

python_plain : (python : List ℕ) → IsPython python → AllByRecursion IsPlainByte python
python_plain python is =
    let halves = found (cut_first dot is.0) (λ halves. with_second halves.0 halves.1 (cut_first dot halves.1)) python is.1 in
    second_plain halves.0.0 halves.0.1 python (cut_first dot halves.0.1) halves.2

free : (text : List ℕ) → AllByRecursion IsPlainByte text → IsFreeOf slash text
free [] a = tt
free (b ∷ rest) a = (a.0.0, free rest a.1)

printed : (text : List ℕ) → AllByRecursion IsPlainByte text → AllByRecursion (λ b. is_control b ≡ false) text
printed [] a = tt
printed (b ∷ rest) a = (a.0.1, printed rest a.1)

-- ---- the place

-- the bytes and the parts are those of a path
abbrev HasPathParts : List ℕ → Type 0
HasPathParts text = AllByRecursion (λ b. is_control b ≡ false) text × AllByRecursion IsPart (slice_split (is_byte slash) text)

module _ (cut : FirstCut) (words : FirstWords) where
  split_at : (front rest : List ℕ) → IsFreeOf slash front → slice_split (is_byte slash) (front ++ slash ∷ rest) ≡ front ∷ slice_split (is_byte slash) rest
  split_at front rest h = words slash (front ++ slash ∷ rest) front rest ((cut slash (front ++ slash ∷ rest) front rest).1 (refl, h))

  -- one more part in front
  led : (part rest : List ℕ) → IsPart part → IsFreeOf slash part → AllByRecursion (λ b. is_control b ≡ false) part → HasPathParts rest
      → HasPathParts (part ++ slash ∷ rest)
  led part rest is plain bytes h = (
    both (λ b. is_control b ≡ false) part (slash ∷ rest) bytes (refl, h.0),
    subst (AllByRecursion IsPart) (sym (split_at part rest plain)) (is, h.1),
  )

  of_python : (python path : List ℕ) → AllByRecursion IsPlainByte python → HasPathParts path
      → HasPathParts (codes "lib/python" ++ python ++ codes "/" ++ path)
  of_python python path plain h =
      let word : AllByRecursion IsPlainByte (codes "python") = ((refl, refl), ((refl, refl), ((refl, refl), ((refl, refl), ((refl, refl), ((refl, refl), tt)))))) in
      let name = both IsPlainByte (codes "python") python word plain in
      let inner = led (codes "python" ++ python) path (λ e. cc e, λ e. cc e, λ e. cc e) (free (codes "python" ++ python) name) (printed (codes "python" ++ python) name) h in
      let lib : AllByRecursion IsPlainByte (codes "lib") = ((refl, refl), ((refl, refl), ((refl, refl), tt))) in
      subst HasPathParts (ap (λ rest. codes "lib/python" ++ rest) (sym (append_assoc python (codes "/") path)))
      (led (codes "lib") ((codes "python" ++ python) ++ slash ∷ path) (λ e. cc e, λ e. cc e, λ e. cc e) (free (codes "lib") lib) (printed (codes "lib") lib) inner)

  of_scripts : (path front rest : List ℕ) → cut_first slash path ≡ Some (front, rest) → HasPathParts path → HasPathParts (codes "bin/" ++ rest)
  of_scripts path front rest e h =
      let whole = ((cut slash path front rest).0 e).0 in
      let bytes = behind (λ b. is_control b ≡ false) front (slash ∷ rest) (subst (AllByRecursion (λ b. is_control b ≡ false)) whole h.0) in
      let parts = subst (AllByRecursion IsPart) (words slash path front rest e) h.1 in
      let bin : AllByRecursion IsPlainByte (codes "bin") = ((refl, refl), ((refl, refl), ((refl, refl), tt))) in
      led (codes "bin") rest (λ e. cc e, λ e. cc e, λ e. cc e) (free (codes "bin") bin) (printed (codes "bin") bin) (bytes.1, parts.1)

  by_part : (site scripts : Bool) (python path front rest : List ℕ) → AllByRecursion IsPlainByte python → HasPathParts path
      → cut_first slash path ≡ Some (front, rest)
      → HasPathParts (if site then codes "lib/python" ++ python ++ codes "/" ++ path else if scripts then codes "bin/" ++ rest else path)
  by_part true scripts python path front rest plain h e = of_python python path plain h
  by_part false true python path front rest plain h e = of_scripts path front rest e h
  by_part false false python path front rest plain h e = h

  by_cut : (halves : Option (List ℕ × List ℕ)) (python path : List ℕ) → AllByRecursion IsPlainByte python → HasPathParts path
      → cut_first slash path ≡ halves → HasPathParts (option_map_or (placed_part python path) halves path)
  by_cut None python path plain h e = h
  by_cut (Some halves) python path plain h e =
      by_part (is_text halves.0 (codes "site-packages")) (is_text halves.0 (codes "python-scripts")) python path halves.0 halves.1 plain h e

  within : (text : List ℕ) (b : Bool) → HasPathParts text → (¬ IsRelPath text) → leb (length text) 1024 ≡ b → 1024 < length text
  within text true h not e = absurd (not (record { short = leb-true (length text) 1024 e; bytes = h.0; parts = h.1 }))
  within text false h not e = omega (arith, leb-false (length text) 1024 e)

  pub long_law : (python path : List ℕ) → IsPython python → IsRelPath path → (¬ IsRelPath (placed python path)) → 1024 < length (placed python path)
  long_law python path is good not =
      within (placed python path) (leb (length (placed python path)) 1024)
      (by_cut (cut_first slash path) python path (python_plain python is) (good.bytes, good.parts) refl) not refl
