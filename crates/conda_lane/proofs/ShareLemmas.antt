-- Between of a tree is between of each of its shares.
use Rattle.std.proofs.Common.{◌≡◌, ◌≢◌, ◌⊎◌, inl, inr, ℕ, zero, suc, ◌<◌, ◌↔◌, List, [], ◌∷◌, ◌++◌, true, false, refl, ap, subst, sym, ◌∙◌, arith}
use Rattle.std.specs.List.{AllByRecursion}
use Rattle.std.specs.Str.{bytes_eq}
use Rattle.conda_device.specs.Tree.{Tree}
use Rattle.conda_lane.specs.declared.change.Change.{Change}
use Rattle.conda_lane.specs.Changes.{Between, IsBetween, IsNew, at, is_named, names}
use Rattle.conda_lane.specs.Shares.{AreOwn, IsShared, all_changes}
use Rattle.conda_lane.proofs.Lists.{eq_of, none_named, or_false, unnamed}

-- ---- the same state in another tree with the same nodes

state_as : (kept start tree other_start other : Tree) (c : Change) → at other c.path ≡ at tree c.path → at other c.trash ≡ at tree c.trash → at other_start c.path ≡ at start c.path
    → IsBetween kept start tree c → IsBetween kept other_start other c
state_as kept start tree other_start other c path trash from h = elim h [
  | inl s ↦ inl (record { path = path ∙ s.path ∙ sym from; trash = trash ∙ s.trash })
  | inr r ↦ elim r [
    | inl s ↦ inr (inl (record { path = path ∙ s.path; trash = trash ∙ s.trash ∙ sym from }))
    | inr s ↦ inr (inr (record { path = subst (λ o. IsNew kept c.path c.new o) (sym path) s.path; trash = trash ∙ s.trash ∙ sym from }))
  ]
]

-- ---- lists one after another

all_append : (P : Change → Type 0) (xs ys : List Change) → AllByRecursion P xs → AllByRecursion P ys → AllByRecursion P (xs ++ ys)
all_append P [] ys h i = i
all_append P (x ∷ xs) ys h i = (h.0, all_append P xs ys h.1 i)

all_halves : (P : Change → Type 0) (xs ys : List Change) → AllByRecursion P (xs ++ ys) → AllByRecursion P xs × AllByRecursion P ys
all_halves P [] ys h = (tt, h)
all_halves P (x ∷ xs) ys h = let rest = all_halves P xs ys h.1 in ((h.0, rest.0), rest.1)

named_halves : (xs ys : List Change) (p : List ℕ) → is_named (xs ++ ys) p ≡ false → (is_named xs p ≡ false) × (is_named ys p ≡ false)
named_halves [] ys p h = (refl, h)
named_halves (x ∷ xs) ys p h =
    let first = unnamed x (xs ++ ys) p h in
    let rest = named_halves xs ys p first.2 in
    (or_false (bytes_eq p x.path) _ first.0 (or_false (bytes_eq p x.trash) (is_named xs p) first.1 rest.0), rest.1)

named_neither : (xs ys : List Change) (p : List ℕ) → is_named xs p ≡ false → is_named ys p ≡ false → is_named (xs ++ ys) p ≡ false
named_neither [] ys p h i = i
named_neither (x ∷ xs) ys p h i =
    let first = unnamed x xs p h in
    or_false (bytes_eq p x.path) _ first.0 (or_false (bytes_eq p x.trash) _ first.1 (named_neither xs ys p first.2 i))

-- two numbers are one or not
same_or_not : (a b : ℕ) → (a ≡ b) ⊎ (a ≢ b)
same_or_not zero zero = inl refl
same_or_not zero (suc b) = inr (λ e. absurd (omega (arith, e)))
same_or_not (suc a) zero = inr (λ e. absurd (omega (arith, e)))
same_or_not (suc a) (suc b) = elim (same_or_not a b) [
  | inl e ↦ inl (ap suc e)
  | inr ne ↦ inr (λ e. ne (omega (arith, e)))
]

module _ (changes : ℕ → List Change) where
  -- what holds of all holds of those of one share
  all_in : (P : Change → Type 0) (n k : ℕ) → k < n → AllByRecursion P (all_changes n changes) → AllByRecursion P (changes k)
  all_in P zero k below h = absurd (omega (arith, below))
  all_in P (suc n) k below h =
      let halves = all_halves P (all_changes n changes) (changes n) h in
      elim (same_or_not k n) [
        | inl e ↦ subst (λ j. AllByRecursion P (changes j)) (sym e) halves.1
        | inr ne ↦ all_in P n k (omega (arith, below, ne)) halves.0
      ]

  unnamed_in : (n k : ℕ) (p : List ℕ) → k < n → is_named (all_changes n changes) p ≡ false → is_named (changes k) p ≡ false
  unnamed_in zero k p below h = absurd (omega (arith, below))
  unnamed_in (suc n) k p below h =
      let halves = named_halves (all_changes n changes) (changes n) p h in
      elim (same_or_not k n) [
        | inl e ↦ subst (λ j. is_named (changes j) p ≡ false) (sym e) halves.1
        | inr ne ↦ unnamed_in n k p (omega (arith, below, ne)) halves.0
      ]

  unnamed_all : (n : ℕ) (p : List ℕ) → ((k : ℕ) → is_named (changes k) p ≡ false) → is_named (all_changes n changes) p ≡ false
  unnamed_all zero p h = refl
  unnamed_all (suc n) p h = named_neither (all_changes n changes) (changes n) p (unnamed_all n p h) (h n)

  all_each : (P : Change → Type 0) (n : ℕ) → ((k : ℕ) → k < n → AllByRecursion P (changes k)) → AllByRecursion P (all_changes n changes)
  all_each P zero h = tt
  all_each P (suc n) h = all_append P (all_changes n changes) (changes n) (all_each P n (λ k below. h k (omega (arith, below)))) (h n (omega arith))

module _ (kept tree start : Tree) (number : List ℕ → ℕ) (n : ℕ) (trees starts : ℕ → Tree) (changes : ℕ → List Change) (within : (path : List ℕ) → number path < n)
    (shared : IsShared number trees tree) (started : IsShared number starts start) (own : AreOwn number changes) where
  has : (k : ℕ) (p : List ℕ) → number p ≡ k → at tree p ≡ at (trees k) p
  has k p is = shared.own p ∙ ap (λ j. at (trees j) p) is

  had : (k : ℕ) (p : List ℕ) → number p ≡ k → at start p ≡ at (starts k) p
  had k p is = started.own p ∙ ap (λ j. at (starts j) p) is

  states_up : (k : ℕ) (cs : List Change) → AllByRecursion (λ path. number path ≡ k) (names cs) → AllByRecursion (IsBetween kept (starts k) (trees k)) cs → AllByRecursion (IsBetween kept start tree) cs
  states_up k [] mine h = tt
  states_up k (c ∷ cs) mine h =
      (state_as kept (starts k) (trees k) start tree c (has k c.path mine.0) (has k c.trash mine.1.0) (had k c.path mine.0) h.0, states_up k cs mine.1.1 h.1)

  states_down : (k : ℕ) (cs : List Change) → AllByRecursion (λ path. number path ≡ k) (names cs) → AllByRecursion (IsBetween kept start tree) cs → AllByRecursion (IsBetween kept (starts k) (trees k)) cs
  states_down k [] mine h = tt
  states_down k (c ∷ cs) mine h =
      (state_as kept start tree (starts k) (trees k) c (sym (has k c.path mine.0)) (sym (has k c.trash mine.1.0)) (sym (had k c.path mine.0)) h.0, states_down k cs mine.1.1 h.1)

  -- a path of another number is named by no change of the share
  foreign_names : (k : ℕ) (p : List ℕ) (ps : List (List ℕ)) → number p ≢ k → AllByRecursion (λ path. number path ≡ k) ps → AllByRecursion (λ q. bytes_eq p q ≡ false) ps
  foreign_names k p [] ne mine = tt
  foreign_names k p (q ∷ ps) ne mine = (
    elim (bytes_eq p q) as (λ b. bytes_eq p q ≡ b → b ≡ false) [
      | true ↦ λ e. absurd (ne (ap number (eq_of p q e) ∙ mine.0))
      | false ↦ λ e. refl
    ] refl,
    foreign_names k p ps ne mine.1,
  )

  foreign : (k : ℕ) (p : List ℕ) → number p ≢ k → is_named (changes k) p ≡ false
  foreign k p ne = none_named p (names (changes k)) (foreign_names k p (names (changes k)) ne (own k))

  shares_up : ((k : ℕ) → k < n → Between kept (trees k) (starts k) (changes k)) → Between kept tree start (all_changes n changes)
  shares_up h = record {
    each = all_each changes (IsBetween kept start tree) n (λ k below. states_up k (changes k) (own k) (h k below).each);
    others = λ p none.
        let k = number p in
        has k p refl ∙ (h k (within p)).others p (unnamed_in changes n k p (within p) none) ∙ sym (had k p refl);
  }

  others_down : (k : ℕ) (p : List ℕ) → Between kept tree start (all_changes n changes) → is_named (changes k) p ≡ false → at (trees k) p ≡ at (starts k) p
  others_down k p h none = elim (same_or_not (number p) k) [
    | inl is ↦
        let free : is_named (all_changes n changes) p ≡ false = unnamed_all changes n p (λ j. elim (same_or_not (number p) j) [
          | inl also ↦ subst (λ i. is_named (changes i) p ≡ false) (sym is ∙ also) none
          | inr ne ↦ foreign j p ne
        ]) in
        sym (has k p is) ∙ h.others p free ∙ had k p is
    | inr ne ↦ shared.others k p ne ∙ sym (started.others k p ne)
  ]

  pub shares_between : Between kept tree start (all_changes n changes) ↔ ((k : ℕ) → k < n → Between kept (trees k) (starts k) (changes k))
  shares_between = (
    λ h k below. record {
      each = states_down k (changes k) (own k) (all_in changes (IsBetween kept start tree) n k below h.each);
      others = λ p none. others_down k p h none;
    },
    shares_up,
  )
