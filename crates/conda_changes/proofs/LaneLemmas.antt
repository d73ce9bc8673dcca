-- The paths of a change lie in one lane.
use Rattle.std.proofs.Common.{◌≡◌, ℕ, ◌%◌, ◌<◌, ◌≤◌, ◌^◌, ◌+◌, Bool, true, false, List, [], ◌∷◌, Option, Some, None, arith, refl, ap, sym, ◌∙◌, below_more, eqb-true, length, subst}
use Rattle.std.proofs.Math.Nat.{mod-mod_of_dvd}
use Rattle.std.proofs.lemmas.Nat.Gcd.{dvd_of_mod-eq-zero}
use Rattle.std.specs.List.{AllByRecursion}
use Rattle.std.specs.Prelude.{filter, nat_eq, sum, unwrap_or}
use Rattle.conda_base.specs.Texts.{Ascending, IsBeforeFirst}
use Rattle.conda_path.specs.Lanes.{IsTrash, lane_number, trash_number, trash_path}
use Rattle.conda_lane.specs.Changes.{names}
use Rattle.conda_lane.specs.declared.change.Change.{Change}
use Rattle.conda_changes.specs.Moves.{paths_of}
use Rattle.conda_changes.specs.Shares.{AreShares, IsShare, changes_in, share_at}
use Rattle.conda_changes.specs.Trash.{HasTrash, IsOfPath, IsOutsideTrash, stride}
use Rattle.conda_changes.proofs.TurnLemmas.{IsLess, before_each}

abbrev Divides : ℕ → Type 0
Divides n = 1 ≤ n → stride % n ≡ 0

divides : (n : ℕ) → n < 17 → Divides n
divides =
    more 16 (more 15 (more 14 (more 13 (more 12 (more 11 (more 10 (more 9 (more 8 (more 7 (more 6 (more 5 (more 4 (more 3 (more 2 (more 1 none
    (λ _. refl)) (λ _. refl)) (λ _. refl)) (λ _. refl)) (λ _. refl)) (λ _. refl)) (λ _. refl)) (λ _. refl)) (λ _. refl)) (λ _. refl)) (λ _. refl)) (λ _. refl)) (λ _. refl)) (λ _. refl)) (λ _. refl)) (λ _. refl)
  where
    more : (i : ℕ) → ((k : ℕ) → k < i → Divides k) → Divides i → (k : ℕ) → k < i + 1 → Divides k
    more i below here = below_more Divides i below here

    none : (k : ℕ) → k < 1 → Divides k
    none k low high = absurd (omega (arith, low, high))

-- numbers with one rest lie in one lane
one_lane : (a b lanes : ℕ) → a % stride ≡ b % stride → 1 ≤ lanes → lanes ≤ 16 → a % lanes ≡ b % lanes
one_lane a b lanes same low high =
    let by = dvd_of_mod-eq-zero lanes (divides lanes (omega (arith, high)) low) in
    sym (mod-mod_of_dvd lanes a by) ∙ ap (λ n. n % lanes) same ∙ mod-mod_of_dvd lanes b by

-- what the laws of the trash say here
pub record Laws : Type 0 where
  pub number : (path : List ℕ) (n k : ℕ) → IsTrash path n k → trash_number path ≡ Some k
  pub only : (path : List ℕ) (k : ℕ) → trash_number path ≡ Some k → (n : ℕ) × IsTrash path n k

no_number : (laws : Laws) (path : List ℕ) → IsOutsideTrash path → trash_number path ≡ None
no_number laws path out = by (trash_number path) refl
  where
    by : (o : Option ℕ) → trash_number path ≡ o → o ≡ None
    by None e = refl
    by (Some k) e = let r = laws.only path k e in absurd (out r.0 k r.1)

pub same_lane : (laws : Laws) (path : List ℕ) (number k lanes : ℕ) → number < 2 ^ 64 → k < 2 ^ 64 → IsOfPath path k → IsOutsideTrash path → 1 ≤ lanes → lanes ≤ 16
    → lane_number (trash_path number k) lanes ≡ lane_number path lanes
same_lane laws path number k lanes small fits of_path out low high =
    ap (λ o. unwrap_or o (sum (trash_path number k)) % lanes) (laws.number (trash_path number k) number k (small, fits, refl))
    ∙ one_lane k (sum path) lanes of_path low high
    ∙ ap (λ o. unwrap_or o (sum path) % lanes) (sym (no_number laws path out))

-- ---- the changes of a lane

-- a change of the lane lies in it with both its paths
lies_in : (laws : Laws) (trash : List (List ℕ)) (number lanes lane : ℕ) (whole : List Change) (c : Change) → number < 2 ^ 64 → 1 ≤ lanes → lanes ≤ 16
    → IsOutsideTrash c.path → HasTrash trash number whole c → nat_eq (lane_number c.path lanes) lane ≡ true
    → (lane_number c.path lanes ≡ lane) × (lane_number c.trash lanes ≡ lane)
lies_in laws trash number lanes lane whole c small low high out has is =
    let own = eqb-true (lane_number c.path lanes) lane is in
    (own, ap (λ path. lane_number path lanes) has.stands ∙ same_lane laws c.path number has.k lanes small has.small has.of_path out low high ∙ own)

inside_share : (laws : Laws) (trash : List (List ℕ)) (number lanes lane : ℕ) (whole changes : List Change) → number < 2 ^ 64 → 1 ≤ lanes → lanes ≤ 16
    → AllByRecursion (λ change. IsOutsideTrash change.path) changes → AllByRecursion (HasTrash trash number whole) changes
    → AllByRecursion (λ path. lane_number path lanes ≡ lane) (names (changes_in changes lanes lane))
inside_share laws trash number lanes lane whole [] small low high outs all = tt
inside_share laws trash number lanes lane whole (c ∷ cs) small low high outs all =
    by (inside_share laws trash number lanes lane whole cs small low high outs.1 all.1) (nat_eq (lane_number c.path lanes) lane) refl
  where
    by : AllByRecursion (λ path. lane_number path lanes ≡ lane) (names (changes_in cs lanes lane)) → (v : Bool)
        → nat_eq (lane_number c.path lanes) lane ≡ v → AllByRecursion (λ path. lane_number path lanes ≡ lane) (names (changes_in (c ∷ cs) lanes lane))
    by rest true e = let both = lies_in laws trash number lanes lane whole c small low high outs.0 all.0 e in rw e (both.0, (both.1, rest))
    by rest false e = rw e rest

first_before : (path : List ℕ) (p : Change → Bool) (cs : List Change) → AllByRecursion (λ other. IsLess path other.path) cs → IsBeforeFirst path (paths_of (filter p cs))
first_before path p [] less = tt
first_before path p (c ∷ cs) less = by (first_before path p cs less.1) (p c) refl
  where
    by : IsBeforeFirst path (paths_of (filter p cs)) → (v : Bool) → p c ≡ v → IsBeforeFirst path (paths_of (filter p (c ∷ cs)))
    by rest true e = rw e less.0
    by rest false e = rw e rest

still_ascending : (p : Change → Bool) (cs : List Change) → Ascending (paths_of cs) → Ascending (paths_of (filter p cs))
still_ascending p [] up = tt
still_ascending p (c ∷ cs) up = by (still_ascending p cs up.1) (p c) refl
  where
    by : Ascending (paths_of (filter p cs)) → (v : Bool) → p c ≡ v → Ascending (paths_of (filter p (c ∷ cs)))
    by rest true e = rw e (first_before c.path p cs (before_each c.path cs up.0 up.1), rest)
    by rest false e = rw e rest

is_share : (laws : Laws) (trash : List (List ℕ)) (number lanes lane : ℕ) (changes : List Change) → number < 2 ^ 64 → 1 ≤ lanes → lanes ≤ 16
    → Ascending (paths_of changes) → AllByRecursion (λ change. IsOutsideTrash change.path) changes → AllByRecursion (HasTrash trash number changes) changes
    → IsShare lanes lane (changes_in changes lanes lane)
is_share laws trash number lanes lane changes small low high up outs all = record {
  inside = inside_share laws trash number lanes lane changes changes small low high outs all;
  by_path = still_ascending (λ change. nat_eq (lane_number change.path lanes) lane) changes up;
}

pub are_shares : (laws : Laws) (trash : List (List ℕ)) (number lanes : ℕ) (changes : List Change) (shares : List (List Change)) → number < 2 ^ 64 → 1 ≤ lanes → lanes ≤ 16
    → Ascending (paths_of changes) → AllByRecursion (λ change. IsOutsideTrash change.path) changes → AllByRecursion (HasTrash trash number changes) changes
    → length shares ≡ lanes → ((lane : ℕ) → share_at shares lane ≡ changes_in changes lanes lane) → AreShares lanes shares
are_shares laws trash number lanes changes shares small low high up outs all count own = record {
  count = count;
  each = λ lane. subst (IsShare lanes lane) (sym (own lane)) (is_share laws trash number lanes lane changes small low high up outs all);
}
