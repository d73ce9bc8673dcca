-- How far numbers are used, and how far they are after one more.
use Rattle.std.proofs.Common.{◌≡◌, ◌≢◌, ℕ, ◌+◌, ◌%◌, ◌<◌, ◌≤◌, ◌^◌, ◌⊎◌, inl, inr, Bool, true, false, List, [], ◌∷◌, ◌++◌, Some, cond, get_or, zero, suc, eqb-true, eq-eqb, arith, refl, ap, sym, subst, ◌∙◌}
use Rattle.std.proofs.lemmas.Bool.{cases_lt, true≢false}
use Rattle.std.proofs.lemmas.Fmt.{decimal_injective}
use Rattle.std.proofs.lemmas.List.{append_cancel_left}
use Rattle.std.proofs.lemmas.List.Elements.{Contains-append_cases, Contains-append_left, Contains-append_right}
use Rattle.std.specs.BTreeMap.{BTreeMap, Updates, get}
use Rattle.std.specs.Cmp.{unsigned_ties}
use Rattle.std.specs.List.{Contains}
use Rattle.std.specs.Ordering.{nat_cmp}
use Rattle.std.specs.Prelude.{codes, decimal, nat_eq, unwrap_or}
use Rattle.conda_base.specs.Signs.{dot}
use Rattle.conda_path.specs.Lanes.{trash_path}
use Rattle.conda_changes.specs.Counting.{AreCounted, AreLeftOver, IsAlike, IsFirstFree, IsFreeFor, IsUsedSo, next_at}
use Rattle.conda_changes.specs.Paths.{Texts, is_in}
use Rattle.conda_changes.specs.Trash.{IsOfPath, stride}
use Rattle.conda_changes.proofs.NumberLemmas.{near_alike, own_rest, stride_alike}

-- ---- what is left over

pub none_left_over : (left : Texts) (number start : ℕ) → AreLeftOver left number start start
none_left_over left number start = record { from_start = omega arith; alike = refl; left_over = λ j low high _. absurd (omega (arith, low, high)) }

pub more_left_over : (left : Texts) (number start k : ℕ) → AreLeftOver left number start k → is_in left (trash_path number k) ≡ true
    → AreLeftOver left number start (k + stride)
more_left_over left number start k are here = record {
  from_start = omega (arith, are.from_start);
  alike = stride_alike k ∙ are.alike;
  left_over = λ j low high alike.
      elim (cases_lt j k) [
        | inl below ↦ are.left_over j low below alike
        | inr above ↦ subst (λ i. is_in left (trash_path number i) ≡ true) (sym (near_alike j k (alike ∙ sym are.alike) above high)) here
      ];
}

-- ---- what is used

-- the paths of different numbers differ
pub trash_injective : (number k j : ℕ) → k < 2 ^ 64 → j < 2 ^ 64 → trash_path number k ≡ trash_path number j → k ≡ j
trash_injective number k j small low same =
    decimal_injective k j small low
    (append_cancel_left (dot ∷ []) (decimal k) (decimal j)
    (append_cancel_left (decimal number) (dot ∷ decimal k) (dot ∷ decimal j)
    (append_cancel_left (codes "conda-meta/.trash/") (decimal number ++ dot ∷ decimal k) (decimal number ++ dot ∷ decimal j) same)))

none_used : (path : List ℕ) → ¬ Contains [] path
none_used path has = absurd (omega (arith, has.1))

no_next : (nexts : BTreeMap ℕ ℕ) (rest : ℕ) → nexts.entries ≡ [] → next_at nexts rest ≡ rest
no_next nexts rest empty = rw empty refl

pub none_counted : (left : Texts) (number : ℕ) (nexts : BTreeMap ℕ ℕ) → nexts.entries ≡ [] → AreCounted left number [] nexts
none_counted left number nexts empty = record {
  alike = λ rest low. ap (λ n. n % stride) (no_next nexts rest empty);
  used_below = λ rest k low alike below. let next = no_next nexts rest empty in absurd (omega arith);
  unused = λ rest k low alike from small. none_used (trash_path number k);
}

-- the first number from the next one on is the least that is free
pub first_is_free : (left : Texts) (number : ℕ) (used : List (List ℕ)) (nexts : BTreeMap ℕ ℕ) (path trash : List ℕ) (rest k : ℕ) → rest < stride
    → IsOfPath path rest → AreCounted left number used nexts → IsFirstFree left number (next_at nexts rest) k → trash ≡ trash_path number k
    → IsFreeFor left number used path trash
first_is_free left number used nexts path trash rest k low of_path are first is = record {
  k = k;
  stands = is;
  small = first.small;
  of_path = first.passed.alike ∙ are.alike rest low ∙ of_path;
  unused = λ both. elim both [
    | inl over ↦ true≢false (sym over ∙ first.free)
    | inr has ↦ are.unused rest k low (first.passed.alike ∙ are.alike rest low) first.passed.from_start first.small has
  ];
  least = λ j below alike.
      let same : IsAlike j rest = alike ∙ sym of_path in
      elim (cases_lt j (next_at nexts rest)) [
        | inl before ↦ are.used_below rest j low same before
        | inr after ↦ inl (first.passed.left_over j after below (same ∙ sym (are.alike rest low)))
      ];
}

-- the next number of a rest after one was set
next_after : (nexts after : BTreeMap ℕ ℕ) (rest k other : ℕ) → Updates nat_cmp nexts after rest (Some k)
    → ((rest ≡ other) × (next_at after other ≡ k)) ⊎ ((rest ≢ other) × (next_at after other ≡ next_at nexts other))
next_after nexts after rest k other updates = by (nat_eq rest other) refl
  where
    by : (b : Bool) → nat_eq rest other ≡ b → ((rest ≡ other) × (next_at after other ≡ k)) ⊎ ((rest ≢ other) × (next_at after other ≡ next_at nexts other))
    by true e = inl (eqb-true rest other e, ap (λ o. unwrap_or o other) (updates.0 other ∙ ap (λ b. cond b (Some k) (get nat_cmp nexts other)) (sym (unsigned_ties rest other) ∙ e)))
    by false e = inr (λ same. true≢false (sym (eq-eqb rest other same) ∙ e), ap (λ o. unwrap_or o other) (updates.0 other ∙ ap (λ b. cond b (Some k) (get nat_cmp nexts other)) (sym (unsigned_ties rest other) ∙ e)))

still_used : (left : Texts) (number : ℕ) (used : List (List ℕ)) (trash : List ℕ) (k : ℕ) → IsUsedSo left number used k → IsUsedSo left number (used ++ trash ∷ []) k
still_used left number used trash k (inl over) = inl over
still_used left number used trash k (inr has) = inr (Contains-append_left used (trash ∷ []) (trash_path number k) has)

the_last : (x y : List ℕ) → Contains (x ∷ []) y → x ≡ y
the_last x y has = by has.0 has.1 has.2
  where
    by : (i : ℕ) → i < 1 → get_or (x ∷ []) i y ≡ y → x ≡ y
    by zero low is = is
    by (suc i) low is = absurd (omega (arith, low))

-- the numbers are counted on, where the first free number was used and the next one set
pub one_counted : (left : Texts) (number : ℕ) (used : List (List ℕ)) (nexts after : BTreeMap ℕ ℕ) (trash : List ℕ) (rest k : ℕ) → rest < stride
    → AreCounted left number used nexts → IsFirstFree left number (next_at nexts rest) k → trash ≡ trash_path number k
    → Updates nat_cmp nexts after rest (Some (k + stride)) → AreCounted left number (used ++ trash ∷ []) after
one_counted left number used nexts after trash rest k low are first is updates = record {
  alike = λ other small. elim (next_after nexts after rest (k + stride) other updates) [
    | inl here ↦ ap (λ n. n % stride) here.1 ∙ stride_alike k ∙ at_rest ∙ ap (λ n. n % stride) here.0
    | inr there ↦ ap (λ n. n % stride) there.1 ∙ are.alike other small
  ];
  used_below = λ other j small alike below. elim (next_after nexts after rest (k + stride) other updates) [
    | inl here ↦ till j (alike ∙ ap (λ n. n % stride) (sym here.0)) (subst (λ n. j < n) here.1 below)
    | inr there ↦ still_used left number used trash j (are.used_below other j small alike (subst (λ n. j < n) there.1 below))
  ];
  unused = λ other j small alike from fits has. elim (next_after nexts after rest (k + stride) other updates) [
    | inl here ↦ beyond j (alike ∙ ap (λ n. n % stride) (sym here.0)) (subst (λ n. n ≤ j) here.1 from) fits (Contains-append_cases used (trash ∷ []) (trash_path number j) has)
    | inr there ↦ elsewhere other j small alike there.0 (subst (λ n. n ≤ j) there.1 from) fits (Contains-append_cases used (trash ∷ []) (trash_path number j) has)
  ];
}
  where
    at_rest : IsAlike k rest
    at_rest = first.passed.alike ∙ are.alike rest low

    same_number : (j : ℕ) → j < 2 ^ 64 → Contains (trash ∷ []) (trash_path number j) → k ≡ j
    same_number j fits has = trash_injective number k j first.small fits (sym is ∙ the_last trash (trash_path number j) has)

    till : (j : ℕ) → IsAlike j rest → j < k + stride → IsUsedSo left number (used ++ trash ∷ []) j
    till j alike below = elim (cases_lt j (next_at nexts rest)) [
      | inl before ↦ still_used left number used trash j (are.used_below rest j low alike before)
      | inr after_it ↦ elim (cases_lt j k) [
        | inl under ↦ inl (first.passed.left_over j after_it under (alike ∙ sym (are.alike rest low)))
        | inr over ↦ inr (Contains-append_right used (trash ∷ []) (trash_path number j)
            (0, omega arith, is ∙ ap (trash_path number) (sym (near_alike j k (alike ∙ sym at_rest) over below))))
      ]
    ]

    beyond : (j : ℕ) → IsAlike j rest → k + stride ≤ j → j < 2 ^ 64 → Contains used (trash_path number j) ⊎ Contains (trash ∷ []) (trash_path number j) → ⊥
    beyond j alike from fits (inl old) = are.unused rest j low alike (omega (arith, first.passed.from_start, from)) fits old
    beyond j alike from fits (inr last) = let same = same_number j fits last in absurd (omega (arith, same, from))

    elsewhere : (other j : ℕ) → other < stride → IsAlike j other → rest ≢ other → next_at nexts other ≤ j → j < 2 ^ 64
        → Contains used (trash_path number j) ⊎ Contains (trash ∷ []) (trash_path number j) → ⊥
    elsewhere other j small alike differ from fits (inl old) = are.unused other j small alike from fits old
    elsewhere other j small alike differ from fits (inr last) =
        differ (sym (own_rest rest low) ∙ sym at_rest ∙ ap (λ n. n % stride) (same_number j fits last) ∙ alike ∙ own_rest other small)
