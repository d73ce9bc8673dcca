-- Steps of a loop that sets marks.
use Rattle.std.proofs.Common.{◌≡◌, ℕ, ◌+◌, ◌≤◌, ◌<◌, ℤ, pos, Bool, List, [], ◌∷◌, ◌++◌, length, take, drop, get_or, sym, subst, ◌⊎◌, inl, inr}
use Rattle.std.proofs.lemmas.List.{take-append-drop, take_all, take_more}
use Rattle.std.specs.List.{Contains}
use Rattle.conda_encode.specs.Marks.{AreNumbers, Covers, Grows, OnlyThese}
use Rattle.conda_encode.specs.Sides.{variable_of}
use Rattle.conda_encode.proofs.Members.{In, from_contains, in_either, in_left, in_right, to_contains}

pub grows_then : (a b c : List Bool) → Grows a b → Grows b c → Grows a c
grows_then a b c f g n low h = g n low (f n low h)

in_more : (xs : List ℤ) (i : ℕ) (l : ℤ) → i < length xs → In l (take i xs) ⊎ (get_or xs i (pos 0) ≡ l) → Contains (take (i + 1) xs) l
in_more xs i l lt h =
    let P : List ℤ → Type 0 = λ ls. Contains ls l in
    subst P (sym (take_more xs i (pos 0) lt))
    (to_contains (take i xs ++ get_or xs i (pos 0) ∷ []) l
    (elim h [
      | inl j ↦ in_left (take i xs) (get_or xs i (pos 0) ∷ []) l j
      | inr e ↦ in_right (take i xs) (get_or xs i (pos 0) ∷ []) l (inl e)
    ]))

only_one : (x l : ℤ) → In l (x ∷ []) → x ≡ l
only_one x l (inl e) = e
only_one x l (inr i) = absurd i

more_in : (xs : List ℤ) (i : ℕ) (l : ℤ) → i < length xs → Contains (take (i + 1) xs) l → In l (take i xs) ⊎ (get_or xs i (pos 0) ≡ l)
more_in xs i l lt c =
    let P : List ℤ → Type 0 = λ ls. In l ls in
    elim (in_either (take i xs) (get_or xs i (pos 0) ∷ []) l (subst P (take_more xs i (pos 0) lt) (from_contains (take (i + 1) xs) l c))) [
      | inl j ↦ inl j
      | inr j ↦ inr (only_one (get_or xs i (pos 0)) l j)
    ]

in_taken : (xs : List ℤ) (i : ℕ) (l : ℤ) → In l (take i xs) → In l xs
in_taken xs i l j =
    let P : List ℤ → Type 0 = λ ls. In l ls in
    subst P (take-append-drop i xs) (in_left (take i xs) (drop i xs) l j)

pub only_more : (model start before after : List Bool) (xs : List ℤ) (i : ℕ) → i < length xs → OnlyThese model (take i xs) start before →
    OnlyThese model (get_or xs i (pos 0) ∷ []) before after → OnlyThese model (take (i + 1) xs) start after
only_more model start before after xs i lt was step n low h =
    elim (step n low h) [
      | inl old ↦ elim (was n low old) [
        | inl older ↦ inl older
        | inr w ↦ inr (w.0, in_more xs i w.0 lt (inl (from_contains (take i xs) w.0 w.1)), w.2, w.3)
      ]
      | inr w ↦ inr (w.0, in_more xs i w.0 lt (inr (only_one (get_or xs i (pos 0)) w.0 (from_contains (get_or xs i (pos 0) ∷ []) w.0 w.1))), w.2, w.3)
    ]

pub covers_more : (model before after : List Bool) (count : ℕ) (xs : List ℤ) (i : ℕ) → i < length xs → AreNumbers count xs → Covers model (take i xs) before →
    Grows before after → Covers model (get_or xs i (pos 0) ∷ []) after → Covers model (take (i + 1) xs) after
covers_more model before after count xs i lt numbers was grows step l c h =
    elim (more_in xs i l lt c) [
      | inl j ↦
          let k : In l xs = in_taken xs i l j in
          grows (variable_of l) (numbers l (to_contains xs l k)).0 (was l (to_contains (take i xs) l j) h)
      | inr e ↦ step l (to_contains (get_or xs i (pos 0) ∷ []) l (inl e)) h
    ]

pub covers_all : (model after : List Bool) (xs : List ℤ) (i : ℕ) → length xs ≤ i → Covers model (take i xs) after → Covers model xs after
covers_all model after xs i le was =
    let P : List ℤ → Type 0 = λ ls. Covers model ls after in
    subst P (take_all i xs le) was
