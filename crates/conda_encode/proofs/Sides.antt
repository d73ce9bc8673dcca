-- What the clauses say of the records' variables, without the clauses: the middle between models and solutions.
use Rattle.std.proofs.Common.{◌≡◌, ℕ, Bool, true, false, not, List, filter, refl, sym, ap, true≢false}
use Rattle.std.proofs.lemmas.Bool.{and_parts, and_from}
use Rattle.std.specs.List.{Contains}
use Rattle.conda_spec.specs.Parts.{Parts}
use Rattle.conda_record.specs.declared.pkg_record.PkgRecord.{PkgRecord}
use Rattle.conda_record.specs.declared.pool.NamePool.{NamePool}
use Rattle.conda_encode.specs.Matching.{bars, is_of_name, lowered, names}
use Rattle.conda_encode.specs.Models.{chosen}
use Rattle.conda_encode.specs.Solution.{IsBound, Pins, Wants}
use Rattle.conda_encode.specs.Variables.{variables}
use Rattle.conda_encode.specs.declared.asked.Asked.{Asked}
use Rattle.conda_encode.proofs.Members.{In, from_contains, to_contains, of_filter, of_map, in_filter, in_map}

-- a record with its variable
abbrev pub Numbered : Type 0
Numbered = ℕ × PkgRecord

-- the variable is one of a record, and true
abbrev pub IsTrueOf : List NamePool → (ℕ → Bool) → Numbered → Type 0
IsTrueOf pools v x = In x (variables pools) × (v x.0 ≡ true)

-- a record that the specification names has a true variable
abbrev pub IsMetBy : List NamePool → (ℕ → Bool) → Parts → Type 0
IsMetBy pools v spec = (y : Numbered) × IsTrueOf pools v y × (names spec y.1 ≡ true)

abbrev pub WantedMet : List NamePool → List Asked → (ℕ → Bool) → Type 0
WantedMet pools items v = (spec : Parts) → Wants items spec → IsMetBy pools v spec

abbrev pub NeededMet : List NamePool → (ℕ → Bool) → Type 0
NeededMet pools v = (x : Numbered) → IsTrueOf pools v x → (spec : Parts) → In spec x.1.depends → IsMetBy pools v spec

abbrev pub NoneBarred : List NamePool → (ℕ → Bool) → Type 0
NoneBarred pools v =
    (x y : Numbered) → IsTrueOf pools v x → IsTrueOf pools v y → (spec : Parts) → In spec x.1.constrains → bars spec y.1 ≡ true → x.0 ≡ y.0

abbrev pub NoneTwice : List NamePool → (ℕ → Bool) → Type 0
NoneTwice pools v =
    (x y : Numbered) → IsTrueOf pools v x → IsTrueOf pools v y → lowered x.1.name ≡ lowered y.1.name → x.0 ≡ y.0

abbrev pub PinsKept : List NamePool → List Asked → (ℕ → Bool) → Type 0
PinsKept pools items v = (spec : Parts) → Pins items spec → (y : Numbered) → IsTrueOf pools v y → bars spec y.1 ≡ true → ⊥

pub record AreSides (pools : List NamePool) (items : List Asked) (v : ℕ → Bool) : Type 0 where
  pub wanted : WantedMet pools items v
  pub needed : NeededMet pools v
  pub barred : NoneBarred pools v
  pub once : NoneTwice pools v
  pub pinned : PinsKept pools items v

-- ---- the chosen records

pub in_chosen : (pools : List NamePool) (v : ℕ → Bool) (x : Numbered) → IsTrueOf pools v x → Contains (chosen pools v) x.1
in_chosen pools v x t =
    to_contains (chosen pools v) x.1
    (in_map (λ (u : Numbered). u.1) (filter (λ u. v u.0) (variables pools)) x (in_filter (λ u. v u.0) (variables pools) x t.0 t.1))

pub of_chosen : (pools : List NamePool) (v : ℕ → Bool) (m : PkgRecord) → Contains (chosen pools v) m → (x : Numbered) × IsTrueOf pools v x × (x.1 ≡ m)
of_chosen pools v m c =
    let w : (x : Numbered) × In x (filter (λ u. v u.0) (variables pools)) × (x.1 ≡ m)
    = of_map (λ (u : Numbered). u.1) (filter (λ u. v u.0) (variables pools)) m (from_contains (chosen pools v) m c) in
    (w.0, of_filter (λ u. v u.0) (variables pools) w.0 w.1, w.2)

-- ---- names and bars

pub bars_from : (spec : Parts) (m : PkgRecord) → is_of_name spec m ≡ true → names spec m ≡ false → bars spec m ≡ true
bars_from spec m own fails = and_from (is_of_name spec m) (not (names spec m)) own (ap not fails)

not_both : (b : Bool) → b ≡ true → not b ≡ true → ⊥
not_both true h k = true≢false (sym k)
not_both false h k = true≢false (sym h)

pub bound_or_barred : (spec : Parts) (m : PkgRecord) → IsBound spec m → bars spec m ≡ true → ⊥
bound_or_barred spec m bound bar =
    let parts : (is_of_name spec m ≡ true) × (not (names spec m) ≡ true) = and_parts (is_of_name spec m) (not (names spec m)) bar in
    not_both (names spec m) (bound parts.0) parts.1

true_or : (b : Bool) → (b ≡ false → ⊥) → b ≡ true
true_or true h = refl
true_or false h = absurd (h refl)

pub bound_from : (spec : Parts) (m : PkgRecord) → (bars spec m ≡ true → ⊥) → IsBound spec m
bound_from spec m free own = true_or (names spec m) (λ fails. free (bars_from spec m own fails))
