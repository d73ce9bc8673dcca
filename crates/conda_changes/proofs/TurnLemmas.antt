-- Changes one after another, each with a path in the trash that is free then.
use Rattle.std.proofs.Common.{◌≡◌, ℕ, ◌<◌, ◌⊎◌, inl, inr, List, length, [], ◌∷◌, ◌++◌, Ordering, append-nil, append_assoc, get_or, zero, suc, arith, refl, sym, subst, ◌∙◌}
use Rattle.std.proofs.lemmas.Cmp.{nat_list_cmp_total, tied_itself}
use Rattle.std.proofs.lemmas.List.{map-append}
use Rattle.std.proofs.lemmas.List.Elements.{Contains-append_cases, Contains-append_left, Contains-append_right}
use Rattle.std.specs.Cmp.Lexicographic.{slice_cmp}
use Rattle.std.specs.List.{AllByRecursion, Contains}
use Rattle.std.specs.Ordering.{nat_cmp}
use Rattle.conda_base.specs.Texts.{Ascending, IsBeforeFirst}
use Rattle.conda_path.specs.Lanes.{trash_path}
use Rattle.conda_lane.specs.declared.change.Change.{Change}
use Rattle.conda_changes.specs.Counting.{AreFree, IsFreeFor, IsUsedSo, trash_of}
use Rattle.conda_changes.specs.Moves.{paths_of}
use Rattle.conda_changes.specs.Paths.{HasJust, Texts}
use Rattle.conda_changes.specs.Trash.{HasTrash, IsUsed}
use Rattle.conda_changes.proofs.PathLemmas.{in_set, in_texts}

-- one more change whose path in the trash is free behind those of all
pub one_free : (left : Texts) (number : ℕ) (used : List (List ℕ)) (changes : List Change) (change : Change) → AreFree left number used changes
    → IsFreeFor left number (used ++ trash_of changes) change.path change.trash → AreFree left number used (changes ++ change ∷ [])
one_free left number used [] change are here = (subst (λ all. IsFreeFor left number all change.path change.trash) (append-nil used) here, tt)
one_free left number used (one ∷ changes) change are here = (
  are.0,
  one_free left number (used ++ one.trash ∷ []) changes change are.1
      (subst (λ all. IsFreeFor left number all change.path change.trash) (sym (append_assoc used (one.trash ∷ []) (trash_of changes))) here),
)

-- ---- by path

abbrev pub IsLess : List ℕ → List ℕ → Type 0
IsLess a b = slice_cmp nat_cmp a b ≡ Ordering.Less

pub less_not_self : (a : List ℕ) → ¬ IsLess a a
less_not_self a h = cc (tied_itself nat_list_cmp_total a)

less_not_back : (a b : List ℕ) → IsLess a b → ¬ IsLess b a
less_not_back a b h i = less_not_self a (nat_list_cmp_total.trans a b a h i)

-- a path before the first of ascending ones is before each
pub before_each : (path : List ℕ) (changes : List Change) → IsBeforeFirst path (paths_of changes) → Ascending (paths_of changes)
    → AllByRecursion (λ other. IsLess path other.path) changes
before_each path [] first up = tt
before_each path (one ∷ changes) first up = (first, before_each path changes (beyond changes up.0) up.1)
  where
    beyond : (rest : List Change) → IsBeforeFirst one.path (paths_of rest) → IsBeforeFirst path (paths_of rest)
    beyond [] h = tt
    beyond (next ∷ rest) h = nat_list_cmp_total.trans path one.path next.path first h

-- ---- elements

pub at_each : {X : Type 0} (P : X → Type 0) (xs : List X) (x : X) → AllByRecursion P xs → Contains xs x → P x
at_each {X} P [] x all has = absurd (omega (arith, has.1))
at_each {X} P (y ∷ ys) x all has = by (at_each P ys x all.1) has.0 has.1 has.2
  where
    by : (Contains ys x → P x) → (i : ℕ) → i < suc (length ys) → get_or (y ∷ ys) i x ≡ x → P x
    by rest zero low is = subst P is all.0
    by rest (suc i) low is = rest (i, omega (arith, low), is)

pub the_only : {X : Type 0} (x y : X) → Contains (x ∷ []) y → x ≡ y
the_only {X} x y has = by has.0 has.1 has.2
  where
    by : (i : ℕ) → i < 1 → get_or (x ∷ []) i y ≡ y → x ≡ y
    by zero low is = is
    by (suc i) low is = absurd (omega (arith, low))

trash_among : (changes : List Change) (change : Change) → Contains changes change → Contains (trash_of changes) change.trash
trash_among [] change has = absurd (omega (arith, has.1))
trash_among (one ∷ changes) change has = by (trash_among changes change) (Contains-append_cases (one ∷ []) changes change has)
  where
    by : (Contains changes change → Contains (trash_of changes) change.trash) → Contains (one ∷ []) change ⊎ Contains changes change → Contains (one.trash ∷ trash_of changes) change.trash
    by rest (inl here) = subst (λ c. Contains (one.trash ∷ trash_of changes) c.trash) (the_only one change here) (0, omega arith, refl)
    by rest (inr there) = Contains-append_right (one.trash ∷ []) (trash_of changes) change.trash (rest there)

trash_from : (changes : List Change) (path : List ℕ) → Contains (trash_of changes) path → (change : Change) × Contains changes change × (change.trash ≡ path)
trash_from [] path has = absurd (omega (arith, has.1))
trash_from (one ∷ changes) path has = by (trash_from changes path) (Contains-append_cases (one.trash ∷ []) (trash_of changes) path has)
  where
    by : (Contains (trash_of changes) path → (change : Change) × Contains changes change × (change.trash ≡ path))
        → Contains (one.trash ∷ []) path ⊎ Contains (trash_of changes) path → (change : Change) × Contains (one ∷ changes) change × (change.trash ≡ path)
    by rest (inl here) = (one, (0, omega arith, refl), the_only one.trash path here)
    by rest (inr there) = let r = rest there in (r.0, Contains-append_right (one ∷ []) changes r.0 r.1, r.2)

-- ---- all together

-- changes whose paths in the trash are free in turn have the least unused ones, where they stand by path
pub all_have_trash : (trash : List (List ℕ)) (left : Texts) (number : ℕ) (whole before changes : List Change) → HasJust left trash
    → before ++ changes ≡ whole → ((b d : Change) → Contains before b → Contains changes d → IsLess b.path d.path) → Ascending (paths_of changes)
    → AreFree left number (trash_of before) changes → AllByRecursion (HasTrash trash number whole) changes
all_have_trash trash left number whole before [] has is less up free = tt
all_have_trash trash left number whole before (c ∷ cs) has is less up free = (
  record {
    k = free.0.k;
    stands = free.0.stands;
    small = free.0.small;
    of_path = free.0.of_path;
    unused = λ used. free.0.unused (to_turn free.0.k used);
    least = λ j below alike. from_turn j (free.0.least j below alike);
  },
  all_have_trash trash left number whole (before ++ c ∷ []) cs has (append_assoc before (c ∷ []) cs ∙ is) after up.1
      (subst (λ used. AreFree left number used cs) (sym (map-append (λ one. one.trash) before (c ∷ []))) free.1),
)
  where
    behind : AllByRecursion (λ other. IsLess c.path other.path) cs
    behind = before_each c.path cs up.0 up.1

    first : Contains (c ∷ cs) c
    first = (0, omega arith, refl)

    later : (d : Change) → Contains cs d → Contains (c ∷ cs) d
    later d there = Contains-append_right (c ∷ []) cs d there

    after : (b d : Change) → Contains (before ++ c ∷ []) b → Contains cs d → IsLess b.path d.path
    after b d has_b has_d = elim (Contains-append_cases before (c ∷ []) b has_b) [
      | inl old ↦ less b d old (later d has_d)
      | inr last ↦ subst (λ one. IsLess one.path d.path) (the_only c b last) (at_each (λ other. IsLess c.path other.path) cs d behind has_d)
    ]

    lesser : (other : Change) → Contains (before ++ c ∷ cs) other → IsLess other.path c.path → Contains before other
    lesser other among low = elim (Contains-append_cases before (c ∷ cs) other among) [
      | inl old ↦ old
      | inr rest ↦ elim (Contains-append_cases (c ∷ []) cs other rest) [
        | inl here ↦ absurd (less_not_self c.path (subst (λ one. IsLess one.path c.path) (sym (the_only c other here)) low))
        | inr there ↦ absurd (less_not_back other.path c.path low (at_each (λ one. IsLess c.path one.path) cs other behind there))
      ]
    ]

    to_turn : (k : ℕ) → IsUsed trash number whole c k → IsUsedSo left number (trash_of before) k
    to_turn k (inl over) = inl (in_set left trash (trash_path number k) has over)
    to_turn k (inr taken) =
        inr (subst (Contains (trash_of before)) taken.3
        (trash_among before taken.0 (lesser taken.0 (subst (λ all. Contains all taken.0) (sym is) taken.1) taken.2)))

    from_turn : (k : ℕ) → IsUsedSo left number (trash_of before) k → IsUsed trash number whole c k
    from_turn k (inl over) = inl (in_texts left trash (trash_path number k) has over)
    from_turn k (inr used) =
        let r = trash_from before (trash_path number k) used in
        inr (r.0, subst (λ all. Contains all r.0) is (Contains-append_left before (c ∷ cs) r.0 r.1), less r.0 c r.1 first, r.2)
