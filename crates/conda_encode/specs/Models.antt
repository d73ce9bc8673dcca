-- What sides of the variables say of the records.
use Rattle.std.specs.Prelude.{◌≡◌, ◌↔◌, ℕ, Bool, true, List, filter, map}
use Rattle.std.specs.List.{Contains, list_all}
use Rattle.conda_refute.specs.Literals.{clause_true}
use Rattle.conda_record.specs.declared.pkg_record.PkgRecord.{PkgRecord}
use Rattle.conda_record.specs.declared.pool.NamePool.{NamePool}
use Rattle.conda_encode.specs.Clauses.{clauses}
use Rattle.conda_encode.specs.Matching.{lowered}
use Rattle.conda_encode.specs.Solution.{IsReached}
use Rattle.conda_encode.specs.Variables.{variables}
use Rattle.conda_encode.specs.declared.asked.Asked.{Asked}

-- all clauses are true
abbrev pub IsModel : List NamePool → List Asked → (ℕ → Bool) → Type 0
IsModel pools items v = list_all (clause_true v) (clauses pools items) ≡ true

-- the records whose variables are true
abbrev pub chosen : List NamePool → (ℕ → Bool) → List PkgRecord
chosen pools v = map (λ x. x.1) (filter (λ x. v x.0) (variables pools))

-- of what is chosen, the set has what is reached, in the same order
abbrev pub IsCut : List NamePool → List Asked → (ℕ → Bool) → List PkgRecord → Type 0
IsCut pools items v set =
    (w : ℕ → Bool) × (set ≡ chosen pools w) ×
    ((x : ℕ × PkgRecord) → Contains (variables pools) x →
    (w x.0 ≡ true) ↔ ((v x.0 ≡ true) × IsReached items (chosen pools v) x.1))

-- the variables choose the members of the set, each by one variable
pub record Chooses (pools : List NamePool) (v : ℕ → Bool) (set : List PkgRecord) : Type 0 where
  pub only : (x : ℕ × PkgRecord) → Contains (variables pools) x → v x.0 ≡ true → Contains set x.1
  pub all : (m : PkgRecord) → Contains set m → (n : ℕ) × Contains (variables pools) (n, m) × (v n ≡ true)
  pub once : (x y : ℕ × PkgRecord) → Contains (variables pools) x → Contains (variables pools) y →
      v x.0 ≡ true → v y.0 ≡ true → lowered x.1.name ≡ lowered y.1.name → x.0 ≡ y.0
