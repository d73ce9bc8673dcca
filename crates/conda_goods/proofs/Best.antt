-- The least of what the elements of a list give, by a total order.
use Rattle.std.specs.Prelude.{◌≡◌, ◌≢◌, Bool, true, false, cond, List, [], ◌∷◌, Option, None, Some, MatchOption}
use Rattle.std.proofs.Common.{refl, ap, sym, ◌∙◌, subst, inl, inr, ◌⊎◌}
use Rattle.std.proofs.lemmas.Bool.{true≢false}
use Rattle.std.proofs.lemmas.Cmp.{upto}
use Rattle.std.specs.Cmp.{IsTotalOrder}
use Rattle.std.specs.Option.{option_map_or}
use Rattle.std.specs.Ordering.{is_gt, is_lt, ordering_reverse}
use Rattle.std.specs.declared.cmp.Ordering.{Ordering}
use Rattle.std.specs.declared.cmp.Ordering.TheVariants.{Less, Equal, Greater}
use Rattle.conda_goods.proofs.Lists.{IsIn}

-- the lesser one, where there are two
abbrev pub better : {K : Type 0} → (K → K → Ordering) → Option K → Option K → Option K
better R None b = b
better R (Some k) b = cond (option_map_or (λ o. is_lt (R k o)) b true) (Some k) b

abbrev pub best : {X K : Type 0} → (K → K → Ordering) → (X → Option K) → List X → Option K → Option K
best R key [] b = b
best R key (x ∷ xs) b = best R key xs (better R (key x) b)

not_above : {K : Type 0} {R : K → K → Ordering} (o : IsTotalOrder R) → (a b : K) → R a b ≢ Less → is_gt (R b a) ≡ false
not_above {R} o a b h = by (R a b) (o.antisymm b a) h
  where
    by : (v : Ordering) → R b a ≡ ordering_reverse v → v ≢ Less → is_gt (R b a) ≡ false
    by Less e g = absurd (g refl)
    by Equal e g = ap is_gt e
    by Greater e g = ap is_gt e

above_not : {K : Type 0} {R : K → K → Ordering} (o : IsTotalOrder R) → (a b : K) → is_gt (R b a) ≡ false → R a b ≢ Less
above_not {R} o a b h e = true≢false (sym (ap is_gt (o.antisymm b a ∙ ap ordering_reverse e)) ∙ h)

-- what isn't less than what isn't less
pub not_less : {K : Type 0} {R : K → K → Ordering} (o : IsTotalOrder R) → (a b c : K) → R a b ≢ Less → R b c ≢ Less → R a c ≢ Less
not_less {R} o a b c h g = above_not o a c (upto o c b a (not_above o b c g) (not_above o a b h))

not_lt : (o : Ordering) → is_lt o ≡ false → o ≢ Less
not_lt o h e = true≢false (sym (ap is_lt e) ∙ h)

lt : (o : Ordering) → is_lt o ≡ true → o ≡ Less
lt Less h = refl
lt Equal h = absurd (true≢false (sym h))
lt Greater h = absurd (true≢false (sym h))

-- nothing was given, or the best is given and nothing given is less
abbrev pub IsBest : {X K : Type 0} → (K → K → Ordering) → (X → Option K) → List X → Option K → Option K → Type 0
IsBest {X} {K} R key xs b found =
    MatchOption found ((b ≡ None) × ((x : X) → IsIn x xs → key x ≡ None))
    (λ k. ((b ≡ Some k) ⊎ ((x : X) × IsIn x xs × (key x ≡ Some k)))
    × ((x : X) (l : K) → IsIn x xs → key x ≡ Some l → R l k ≢ Less)
    × ((l : K) → b ≡ Some l → R l k ≢ Less))

same_some : {K : Type 0} (k l : K) → Some k ≡ Some l → k ≡ l
same_some k l e = cc

module _ {X K : Type 0} {R : K → K → Ordering} (o : IsTotalOrder R) (key : X → Option K) where
  irreflexive : (k : K) → R k k ≢ Less
  irreflexive k e = let turned : R k k ≡ Greater = o.antisymm k k ∙ ap ordering_reverse e in
      let clash : Less ≡ Greater = sym e ∙ turned in cc

  -- one more element, whose key is `given`, where the rest has found something
  step : (x : X) (xs : List X) (b : Option K) (given : Option K) → key x ≡ given → (found : Option K) → IsBest R key xs (better R given b) found → IsBest R key (x ∷ xs) b found
  step x xs b None e None h = (h.0, λ y m. nobody y m)
    where
      nobody : (y : X) → IsIn y (x ∷ xs) → key y ≡ None
      nobody y (inl s) = ap key (sym s) ∙ e
      nobody y (inr m) = h.1 y m
  step x xs b None e (Some k) h = (from h.0, λ y l m g. none y l m g, h.2)
    where
      from : (b ≡ Some k) ⊎ ((y : X) × IsIn y xs × (key y ≡ Some k)) → (b ≡ Some k) ⊎ ((y : X) × IsIn y (x ∷ xs) × (key y ≡ Some k))
      from (inl g) = inl g
      from (inr g) = inr (g.0, inr g.1, g.2)

      none : (y : X) (l : K) → IsIn y (x ∷ xs) → key y ≡ Some l → R l k ≢ Less
      none y l (inl s) g = let clash : None ≡ Some l = sym e ∙ ap key s ∙ g in cc
      none y l (inr m) g = h.1 y l m g
  step x xs None (Some k0) e None h = let clash : Some k0 ≡ None = h.0 in cc
  step x xs None (Some k0) e (Some k) h = (from h.0, λ y l m g. none y l m g, λ l g. nothing l g)
    where
      from : (Some k0 ≡ Some k) ⊎ ((y : X) × IsIn y xs × (key y ≡ Some k)) → (None ≡ Some k) ⊎ ((y : X) × IsIn y (x ∷ xs) × (key y ≡ Some k))
      from (inl g) = inr (x, inl refl, e ∙ g)
      from (inr g) = inr (g.0, inr g.1, g.2)

      none : (y : X) (l : K) → IsIn y (x ∷ xs) → key y ≡ Some l → R l k ≢ Less
      none y l (inl s) g = h.2 l (sym e ∙ ap key s ∙ g)
      none y l (inr m) g = h.1 y l m g

      nothing : (l : K) → None ≡ Some l → R l k ≢ Less
      nothing l g = cc
  step x xs (Some b0) (Some k0) e found h = by (is_lt (R k0 b0)) refl found h
    where
      by : (v : Bool) → is_lt (R k0 b0) ≡ v → (found : Option K) → IsBest R key xs (cond v (Some k0) (Some b0)) found → IsBest R key (x ∷ xs) (Some b0) found
      by true v None h = let clash : Some k0 ≡ None = h.0 in cc
      by false v None h = let clash : Some b0 ≡ None = h.0 in cc
      by true v (Some k) h = (from h.0, λ y l m g. none y l m g, λ l g. before l g)
        where
          from : (Some k0 ≡ Some k) ⊎ ((y : X) × IsIn y xs × (key y ≡ Some k)) → (Some b0 ≡ Some k) ⊎ ((y : X) × IsIn y (x ∷ xs) × (key y ≡ Some k))
          from (inl g) = inr (x, inl refl, e ∙ g)
          from (inr g) = inr (g.0, inr g.1, g.2)

          none : (y : X) (l : K) → IsIn y (x ∷ xs) → key y ≡ Some l → R l k ≢ Less
          none y l (inl s) g = h.2 l (sym e ∙ ap key s ∙ g)
          none y l (inr m) g = h.1 y l m g

          before : (l : K) → Some b0 ≡ Some l → R l k ≢ Less
          before l g less =
              let same : b0 ≡ l = same_some b0 l g in
              h.2 k0 refl (o.trans k0 b0 k (lt (R k0 b0) v) (subst (λ z. R z k ≡ Less) (sym same) less))
      by false v (Some k) h = (from h.0, λ y l m g. none y l m g, λ l g. h.2 l g)
        where
          from : (Some b0 ≡ Some k) ⊎ ((y : X) × IsIn y xs × (key y ≡ Some k)) → (Some b0 ≡ Some k) ⊎ ((y : X) × IsIn y (x ∷ xs) × (key y ≡ Some k))
          from (inl g) = inl g
          from (inr g) = inr (g.0, inr g.1, g.2)

          none : (y : X) (l : K) → IsIn y (x ∷ xs) → key y ≡ Some l → R l k ≢ Less
          none y l (inl s) g =
              let same : k0 ≡ l = same_some k0 l (sym e ∙ ap key s ∙ g) in
              subst (λ z. R z k ≢ Less) same (not_less o k0 b0 k (not_lt (R k0 b0) v) (h.2 b0 refl))
          none y l (inr m) g = h.1 y l m g

  pub best_law : (xs : List X) (b : Option K) → IsBest R key xs b (best R key xs b)
  best_law [] None = (refl, λ x m. absurd m)
  best_law [] (Some k) = (inl refl, λ x l m. absurd m, λ l g. let same : k ≡ l = same_some k l g in subst (λ z. R z k ≢ Less) same (irreflexive k))
  best_law (x ∷ xs) b = step x xs b (key x) refl (best R key xs (better R (key x) b)) (best_law xs (better R (key x) b))
