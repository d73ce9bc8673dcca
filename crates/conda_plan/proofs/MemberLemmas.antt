-- Members of lists that are made of others.
use Rattle.std.specs.Prelude.{◌≡◌, ℕ, ◌<◌, zero, suc, Bool, true, false, cond, List, [], ◌∷◌, ◌++◌, filter, length, map, slice_index_or}
use Rattle.std.proofs.Common.{refl, ap, sym, ◌∙◌, subst, arith, inl, inr, ◌⊎◌}
use Rattle.std.proofs.lemmas.Bool.{false≢true}
use Rattle.std.proofs.lemmas.List.Elements.{Contains-append_cases, Contains-append_left, Contains-append_right}
use Rattle.std.specs.List.{AllByRecursion, Contains, flat_map}

pub front : {X : Type 0} (x : X) (xs : List X) → Contains (x ∷ xs) x
front x xs = (0, omega arith, refl)

pub behind : {X : Type 0} (x : X) (xs : List X) (y : X) → Contains xs y → Contains (x ∷ xs) y
behind x xs y m = (suc m.0, omega (arith, m.1), m.2)

pub cases : {X : Type 0} (x : X) (xs : List X) (y : X) → Contains (x ∷ xs) y → (x ≡ y) ⊎ Contains xs y
cases x xs y m = by m.0 m.1 m.2
  where
    by : (k : ℕ) → k < length (x ∷ xs) → slice_index_or (x ∷ xs) k y ≡ y → (x ≡ y) ⊎ Contains xs y
    by zero q is = inl is
    by (suc k) q is = inr (k, omega (arith, q), is)

pub none : {X : Type 0} (y : X) → Contains [] y → ⊥
none y m = omega (arith, m.1)

pub all_at : {X : Type 0} (P : X → Type 0) (xs : List X) (x : X) → AllByRecursion P xs → Contains xs x → P x
all_at P [] x h m = absurd (none x m)
all_at P (y ∷ ys) x h m = by (cases y ys x m) (all_at P ys x h.1)
  where
    by : (y ≡ x) ⊎ Contains ys x → (Contains ys x → P x) → P x
    by (inl e) f = subst P e h.0
    by (inr r) f = f r

pub all_from : {X : Type 0} (P : X → Type 0) (xs : List X) → ((x : X) → Contains xs x → P x) → AllByRecursion P xs
all_from P [] f = tt
all_from P (y ∷ ys) f = (f y (front y ys), all_from P ys (λ x m. f x (behind y ys x m)))

-- ---- map

pub to_map : {X Y : Type 0} (f : X → Y) (xs : List X) (x : X) → Contains xs x → Contains (map f xs) (f x)
to_map f [] x m = absurd (none x m)
to_map f (y ∷ ys) x m = by (cases y ys x m) (to_map f ys x)
  where
    by : (y ≡ x) ⊎ Contains ys x → (Contains ys x → Contains (map f ys) (f x)) → Contains (f y ∷ map f ys) (f x)
    by (inl e) g = (0, omega arith, ap f e)
    by (inr r) g = behind (f y) (map f ys) (f x) (g r)

pub of_map : {X Y : Type 0} (f : X → Y) (xs : List X) (y : Y) → Contains (map f xs) y → (x : X) × Contains xs x × (f x ≡ y)
of_map f [] y m = absurd (none y m)
of_map {X} {Y} f (x ∷ xs) y m = by (cases (f x) (map f xs) y m) (of_map f xs y)
  where
    by : (f x ≡ y) ⊎ Contains (map f xs) y → (Contains (map f xs) y → (z : X) × Contains xs z × (f z ≡ y))
        → (z : X) × Contains (x ∷ xs) z × (f z ≡ y)
    by (inl e) h = (x, front x xs, e)
    by (inr r) h = let g = h r in (g.0, behind x xs g.0 g.1, g.2)

-- ---- filter

pub to_filter : {X : Type 0} (p : X → Bool) (xs : List X) (x : X) → Contains xs x → p x ≡ true → Contains (filter p xs) x
to_filter p [] x m h = absurd (none x m)
to_filter p (y ∷ ys) x m h = by (cases y ys x m) (p y) refl (λ r. to_filter p ys x r h)
  where
    by : (y ≡ x) ⊎ Contains ys x → (v : Bool) → p y ≡ v → (Contains ys x → Contains (filter p ys) x)
        → Contains (cond v (y ∷ filter p ys) (filter p ys)) x
    by (inl e) true g f = (0, omega arith, e)
    by (inl e) false g f = absurd (false≢true (sym g ∙ ap p e ∙ h))
    by (inr r) true g f = behind y (filter p ys) x (f r)
    by (inr r) false g f = f r

pub of_filter : {X : Type 0} (p : X → Bool) (xs : List X) (x : X) → Contains (filter p xs) x → Contains xs x × (p x ≡ true)
of_filter p [] x m = absurd (none x m)
of_filter {X} p (y ∷ ys) x m = by (p y) refl m (λ r. let g = of_filter p ys x r in (behind y ys x g.0, g.1))
  where
    first : p y ≡ true → (y ≡ x) ⊎ Contains (filter p ys) x → (Contains (filter p ys) x → Contains (y ∷ ys) x × (p x ≡ true))
        → Contains (y ∷ ys) x × (p x ≡ true)
    first g (inl e) more = ((0, omega arith, e), sym (ap p e) ∙ g)
    first g (inr r) more = more r

    by : (v : Bool) → p y ≡ v → Contains (cond v (y ∷ filter p ys) (filter p ys)) x
        → (Contains (filter p ys) x → Contains (y ∷ ys) x × (p x ≡ true)) → Contains (y ∷ ys) x × (p x ≡ true)
    by true g r more = first g (cases y (filter p ys) x r) more
    by false g r more = more r

-- ---- flat_map

pub to_flat : {X Y : Type 0} (f : X → List Y) (xs : List X) (x : X) (y : Y) → Contains xs x → Contains (f x) y → Contains (flat_map f xs) y
to_flat f [] x y m h = absurd (none x m)
to_flat f (z ∷ zs) x y m h = by (cases z zs x m) (λ r. to_flat f zs x y r h)
  where
    by : (z ≡ x) ⊎ Contains zs x → (Contains zs x → Contains (flat_map f zs) y) → Contains (f z ++ flat_map f zs) y
    by (inl e) g = Contains-append_left (f z) (flat_map f zs) y (subst (λ w. Contains (f w) y) (sym e) h)
    by (inr r) g = Contains-append_right (f z) (flat_map f zs) y (g r)

pub of_flat : {X Y : Type 0} (f : X → List Y) (xs : List X) (y : Y) → Contains (flat_map f xs) y
    → (x : X) × Contains xs x × Contains (f x) y
of_flat f [] y m = absurd (none y m)
of_flat {X} {Y} f (x ∷ xs) y m = by (Contains-append_cases (f x) (flat_map f xs) y m) (of_flat f xs y)
  where
    by : Contains (f x) y ⊎ Contains (flat_map f xs) y → (Contains (flat_map f xs) y → (z : X) × Contains xs z × Contains (f z) y)
        → (z : X) × Contains (x ∷ xs) z × Contains (f z) y
    by (inl h) g = (x, front x xs, h)
    by (inr r) g = let b = g r in (b.0, behind x xs b.0 b.1, b.2)
