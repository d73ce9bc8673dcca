-- Filters of lists, and of lists in another order.
use Rattle.std.specs.Prelude.{◌≡◌, ℕ, ◌-◌, ◌<◌, suc, Bool, true, false, cond, ◌&&◌, List, [], ◌∷◌, ◌++◌, filter, length}
use Rattle.std.proofs.Common.{refl, ap, sym, ◌∙◌, subst, arith, get_or, take, drop, append_assoc}
use Rattle.std.proofs.Math.ListN.{set}
use Rattle.std.proofs.Math.Seq.{drop-cons, set-append_seam}
use Rattle.std.proofs.lemmas.Cmp.{by_ranked, ranked}
use Rattle.std.proofs.lemmas.List.{get_or-drop, get_or_default, length-append, length-drop, length-take-le, set-get_or, take-append-drop}
use Rattle.std.proofs.lemmas.List.Elements.{filter-append}
use Rattle.std.proofs.lemmas.List.Sorted.{IsPermutation-append_comm, IsPermutation-append_left, IsPermutation-append_right, IsPermutation-keeps, IsPermutation-refl, IsPermutation-trans}
use Rattle.std.specs.List.{AllByRecursion, swap}
use Rattle.std.specs.List.Sorted.{IsPermutation}
use Rattle.std.specs.Ordering.{nat_cmp}

module _ {X : Type 0} (p : X → Bool) where
  pub filter_none : (xs : List X) → AllByRecursion (λ x. p x ≡ false) xs → filter p xs ≡ []
  filter_none [] h = refl
  filter_none (x ∷ xs) h = ap (λ b. cond b (x ∷ filter p xs) (filter p xs)) h.0 ∙ filter_none xs h.1

  pub filter_every : (xs : List X) → AllByRecursion (λ x. p x ≡ true) xs → filter p xs ≡ xs
  filter_every [] h = refl
  filter_every (x ∷ xs) h = ap (λ b. cond b (x ∷ filter p xs) (filter p xs)) h.0 ∙ ap (λ r. x ∷ r) (filter_every xs h.1)

  pub filter_same : (q : X → Bool) (xs : List X) → AllByRecursion (λ x. p x ≡ q x) xs → filter p xs ≡ filter q xs
  filter_same q [] h = refl
  filter_same q (x ∷ xs) h =
      ap (λ b. cond b (x ∷ filter p xs) (filter p xs)) h.0 ∙ ap (λ r. cond (q x) (x ∷ r) r) (filter_same q xs h.1)

  -- a filter of a filter
  pub filter_twice : (q r : X → Bool) → ((x : X) → (q x && p x) ≡ r x) → (xs : List X) → filter p (filter q xs) ≡ filter r xs
  filter_twice q r h [] = refl
  filter_twice q r h (x ∷ xs) = by (q x) refl (filter_twice q r h xs)
    where
      by : (b : Bool) → q x ≡ b → filter p (filter q xs) ≡ filter r xs
          → filter p (cond b (x ∷ filter q xs) (filter q xs)) ≡ cond (r x) (x ∷ filter r xs) (filter r xs)
      by true e more =
          let same : p x ≡ r x = ap (λ b. b && p x) (sym e) ∙ h x in
          ap (λ b. cond b (x ∷ filter p (filter q xs)) (filter p (filter q xs))) same ∙ ap (λ l. cond (r x) (x ∷ l) l) more
      by false e more =
          let none : r x ≡ false = sym (h x) ∙ ap (λ b. b && p x) e in
          more ∙ sym (ap (λ b. cond b (x ∷ filter r xs) (filter r xs)) none)

  -- ---- lists in another order

  -- the two ends of three pieces, exchanged in front of a fourth
  ends : (u b v c : List X) → IsPermutation (u ++ (b ++ (v ++ c))) (v ++ (b ++ (u ++ c)))
  ends u b v c =
      let first : IsPermutation (u ++ (b ++ v)) ((b ++ v) ++ u) = IsPermutation-append_comm u (b ++ v) in
      let second : IsPermutation ((b ++ v) ++ u) ((v ++ b) ++ u) = IsPermutation-append_left u (b ++ v) (v ++ b) (IsPermutation-append_comm b v) in
      let all : IsPermutation ((u ++ (b ++ v)) ++ c) (((v ++ b) ++ u) ++ c) =
      IsPermutation-append_left c (u ++ (b ++ v)) ((v ++ b) ++ u)
      (IsPermutation-trans (u ++ (b ++ v)) ((b ++ v) ++ u) ((v ++ b) ++ u) first second)
      in
      let left : (u ++ (b ++ v)) ++ c ≡ u ++ (b ++ (v ++ c)) = append_assoc u (b ++ v) c ∙ ap (λ r. u ++ r) (append_assoc b v c) in
      let right : ((v ++ b) ++ u) ++ c ≡ v ++ (b ++ (u ++ c)) = append_assoc (v ++ b) u c ∙ append_assoc v b (u ++ c) in
      subst (λ l. IsPermutation l (v ++ (b ++ (u ++ c)))) left (subst (λ r. IsPermutation ((u ++ (b ++ v)) ++ c) r) right all)

  one : (x : X) (xs : List X) → filter p (x ∷ xs) ≡ filter p (x ∷ []) ++ filter p xs
  one x xs = by (p x)
    where
      by : (b : Bool) → cond b (x ∷ filter p xs) (filter p xs) ≡ cond b (x ∷ []) [] ++ filter p xs
      by true = refl
      by false = refl

  spread : (a b c : List X) (x y : X)
      → filter p (a ++ x ∷ (b ++ y ∷ c)) ≡ filter p a ++ (filter p (x ∷ []) ++ (filter p b ++ (filter p (y ∷ []) ++ filter p c)))
  spread a b c x y =
      filter-append p a (x ∷ (b ++ y ∷ c))
      ∙ ap (λ r. filter p a ++ r) (one x (b ++ y ∷ c) ∙ ap (λ r. filter p (x ∷ []) ++ r) (filter-append p b (y ∷ c) ∙ ap (λ r. filter p b ++ r) (one y c)))

  exchanged : (a b c : List X) (x y : X) → IsPermutation (filter p (a ++ x ∷ (b ++ y ∷ c))) (filter p (a ++ y ∷ (b ++ x ∷ c)))
  exchanged a b c x y =
      let parts : IsPermutation (filter p a ++ (filter p (x ∷ []) ++ (filter p b ++ (filter p (y ∷ []) ++ filter p c))))
      (filter p a ++ (filter p (y ∷ []) ++ (filter p b ++ (filter p (x ∷ []) ++ filter p c)))) =
      IsPermutation-append_right (filter p a) (filter p (x ∷ []) ++ (filter p b ++ (filter p (y ∷ []) ++ filter p c)))
      (filter p (y ∷ []) ++ (filter p b ++ (filter p (x ∷ []) ++ filter p c)))
      (ends (filter p (x ∷ [])) (filter p b) (filter p (y ∷ [])) (filter p c))
      in
      subst (λ l. IsPermutation l (filter p (a ++ y ∷ (b ++ x ∷ c)))) (sym (spread a b c x y))
      (subst (λ r. IsPermutation (filter p a ++ (filter p (x ∷ []) ++ (filter p b ++ (filter p (y ∷ []) ++ filter p c)))) r) (sym (spread a b c y x)) parts)

-- ---- an exchange of two elements

module _ {X : Type 0} where
  -- two places of a list, and what stands before, between and behind them
  record Apart (l : List X) (i j : ℕ) (x y : X) : Type 0 where
    before : List X
    between : List X
    behind : List X
    is : l ≡ before ++ x ∷ (between ++ y ∷ behind)
    first : length before ≡ i
    second : length (before ++ x ∷ between) ≡ j

  at : (l : List X) (i : ℕ) (d : X) → i < length l → l ≡ take i l ++ get_or l i d ∷ drop (suc i) l
  at l i d h = sym (take-append-drop i l) ∙ ap (λ r. take i l ++ r) (drop-cons l i d h)

  apart : (l : List X) (i j : ℕ) (d : X) → i < j → j < length l → Apart l i j (get_or l i d) (get_or l j d)
  apart l i j d h k =
      let rest = drop (suc i) l in
      let n : ℕ = j - suc i in
      let short : n < length rest = omega (arith, length-drop (suc i) l) in
      let same : get_or rest n d ≡ get_or l j d = get_or-drop (suc i) l n d ∙ ap (λ m. get_or l m d) (omega arith) in
      let inner : rest ≡ take n rest ++ get_or l j d ∷ drop (suc n) rest =
      at rest n d short ∙ ap (λ y. take n rest ++ y ∷ drop (suc n) rest) same
      in
      let front : length (take i l) ≡ i = length-take-le i l (omega arith) in
      record {
        before = take i l;
        between = take n rest;
        behind = drop (suc n) rest;
        is = at l i d (omega arith) ∙ ap (λ r. take i l ++ get_or l i d ∷ r) inner;
        first = front;
        second = length-append (take i l) (get_or l i d ∷ take n rest) ∙ (omega (arith, front, length-take-le n rest (omega (arith, short))));
      }

  -- the elements at the two places written in either order
  written : (a b c : List X) (x y : X) (i j : ℕ) → length a ≡ i → length (a ++ x ∷ b) ≡ j
      → set (set (a ++ x ∷ (b ++ y ∷ c)) i y) j x ≡ a ++ y ∷ (b ++ x ∷ c)
  written a b c x y i j h k =
      let long : length (a ++ y ∷ b) ≡ j = length-append a (y ∷ b) ∙ sym (length-append a (x ∷ b)) ∙ k in
      ap (λ r. set r j x)
      (ap (λ n. set (a ++ x ∷ (b ++ y ∷ c)) n y) (sym h) ∙ set-append_seam a x (b ++ y ∷ c) y ∙ sym (append_assoc a (y ∷ b) (y ∷ c)))
      ∙ ap (λ n. set ((a ++ y ∷ b) ++ y ∷ c) n x) (sym long)
      ∙ set-append_seam (a ++ y ∷ b) y c x
      ∙ append_assoc a (y ∷ b) (x ∷ c)

  written_back : (a b c : List X) (x y : X) (i j : ℕ) → length a ≡ i → length (a ++ x ∷ b) ≡ j
      → set (set (a ++ x ∷ (b ++ y ∷ c)) j x) i y ≡ a ++ y ∷ (b ++ x ∷ c)
  written_back a b c x y i j h k =
      ap (λ r. set r i y)
      (ap (λ r. set r j x) (sym (append_assoc a (x ∷ b) (y ∷ c)))
      ∙ ap (λ n. set ((a ++ x ∷ b) ++ y ∷ c) n x) (sym k)
      ∙ set-append_seam (a ++ x ∷ b) y c x
      ∙ append_assoc a (x ∷ b) (x ∷ c))
      ∙ ap (λ n. set (a ++ x ∷ (b ++ x ∷ c)) n y) (sym h)
      ∙ set-append_seam a x (b ++ x ∷ c) y

  swap_is : (l : List X) (i j : ℕ) (d : X) → i < length l → j < length l
      → swap l i j ≡ set (set l i (get_or l j d)) j (get_or l i d)
  swap_is [] i j d h k = absurd (omega arith)
  swap_is (e ∷ ys) i j d h k =
      ap (λ v. set (set (e ∷ ys) i v) j (get_or (e ∷ ys) i e)) (get_or_default (e ∷ ys) j e d k)
      ∙ ap (λ v. set (set (e ∷ ys) i (get_or (e ∷ ys) j d)) j v) (get_or_default (e ∷ ys) i e d h)

  module _ (p : X → Bool) (l : List X) where
    swapped_up : (i j : ℕ) (d : X) → i < j → j < length l → IsPermutation (filter p l) (filter p (swap l i j))
    swapped_up i j d h k =
        let parts = apart l i j d h k in
        let after : swap l i j ≡ parts.before ++ get_or l j d ∷ (parts.between ++ get_or l i d ∷ parts.behind) =
        swap_is l i j d (omega arith) k ∙ ap (λ r. set (set r i (get_or l j d)) j (get_or l i d)) parts.is
        ∙ written parts.before parts.between parts.behind (get_or l i d) (get_or l j d) i j parts.first parts.second
        in
        subst (λ r. IsPermutation (filter p l) (filter p r)) (sym after)
        (subst (λ r. IsPermutation (filter p r) (filter p (parts.before ++ get_or l j d ∷ (parts.between ++ get_or l i d ∷ parts.behind))))
        (sym parts.is)
        (exchanged p parts.before parts.between parts.behind (get_or l i d) (get_or l j d)))

    swapped_down : (i j : ℕ) (d : X) → j < i → i < length l → IsPermutation (filter p l) (filter p (swap l i j))
    swapped_down i j d h k =
        let parts = apart l j i d h k in
        let after : swap l i j ≡ parts.before ++ get_or l i d ∷ (parts.between ++ get_or l j d ∷ parts.behind) =
        swap_is l i j d k (omega arith) ∙ ap (λ r. set (set r i (get_or l j d)) j (get_or l i d)) parts.is
        ∙ written_back parts.before parts.between parts.behind (get_or l j d) (get_or l i d) j i parts.first parts.second
        in
        subst (λ r. IsPermutation (filter p l) (filter p r)) (sym after)
        (subst (λ r. IsPermutation (filter p r) (filter p (parts.before ++ get_or l i d ∷ (parts.between ++ get_or l j d ∷ parts.behind))))
        (sym parts.is)
        (exchanged p parts.before parts.between parts.behind (get_or l j d) (get_or l i d)))

    swapped_there : (i j : ℕ) (d : X) → i ≡ j → j < length l → IsPermutation (filter p l) (filter p (swap l i j))
    swapped_there i j d h k =
        let same : swap l i j ≡ l =
        swap_is l i j d (omega arith) k
        ∙ ap (λ n. set (set l i (get_or l n d)) j (get_or l i d)) (sym h)
        ∙ ap (λ r. set r j (get_or l i d)) (set-get_or l i d)
        ∙ ap (λ n. set l j (get_or l n d)) h
        ∙ set-get_or l j d
        in
        subst (λ r. IsPermutation (filter p l) (filter p r)) (sym same) (IsPermutation-refl (filter p l))

  swapped : (p : X → Bool) (l : List X) (i j : ℕ) → i < length l → j < length l → IsPermutation (filter p l) (filter p (swap l i j))
  swapped p [] i j h k = absurd (omega arith)
  swapped p (d ∷ ys) i j h k =
      by_ranked (i < j) (i ≡ j) (j < i) (nat_cmp i j) (ranked i j (nat_cmp i j) refl)
      (λ _ lt. swapped_up p (d ∷ ys) i j d lt k)
      (λ _ same. swapped_there p (d ∷ ys) i j d same k)
      (λ _ gt. swapped_down p (d ∷ ys) i j d gt h)

  -- lists with the same elements have the same ones that pass a test
  pub filter_permutation : (p : X → Bool) (xs ys : List X) → IsPermutation xs ys → IsPermutation (filter p xs) (filter p ys)
  filter_permutation p xs ys h =
      IsPermutation-keeps xs (λ l. IsPermutation (filter p xs) (filter p l)) (IsPermutation-refl (filter p xs))
      (λ l i j hi hj k. IsPermutation-trans (filter p xs) (filter p l) (filter p (swap l i j)) k (swapped p l i j hi hj))
      ys h
