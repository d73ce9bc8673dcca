-- Marks on variables, which a search sets: this project's own.
use Rattle.std.specs.Prelude.{◌≡◌, ◌≤◌, ℕ, ◌⊎◌, ℤ, true, List, Bool, filter, map}
use Rattle.std.specs.List.{Contains}
use Rattle.conda_spec.specs.Parts.{Parts}
use Rattle.conda_record.specs.declared.pkg_record.PkgRecord.{PkgRecord}
use Rattle.conda_record.specs.declared.pool.NamePool.{NamePool}
use Rattle.conda_encode.specs.Matching.{names}
use Rattle.conda_encode.specs.Models.{chosen}
use Rattle.conda_encode.specs.Sides.{side_of, variable_of}
use Rattle.conda_encode.specs.Solution.{IsReached}
use Rattle.conda_encode.specs.Variables.{IsPlain, numbered, variables}
use Rattle.conda_encode.specs.declared.asked.Asked.{Asked}
use Rattle.conda_encode.specs.declared.asked.AskKind.TheVariants.{Wanted}

-- each literal is of one of so many variables
abbrev pub AreNumbers : ℕ → List ℤ → Type 0
AreNumbers count literals = (l : ℤ) → Contains literals l → (1 ≤ variable_of l) × (variable_of l ≤ count)

-- what was marked is marked
abbrev pub Grows : List Bool → List Bool → Type 0
Grows before after = (n : ℕ) → 1 ≤ n → side_of before n ≡ true → side_of after n ≡ true

-- what is marked now was marked before, or is the variable of one of these literals, and true
abbrev pub OnlyThese : List Bool → List ℤ → List Bool → List Bool → Type 0
OnlyThese model literals before after =
    (n : ℕ) → 1 ≤ n → side_of after n ≡ true →
    (side_of before n ≡ true) ⊎ ((l : ℤ) × Contains literals l × (variable_of l ≡ n) × (side_of model n ≡ true))

-- the variables of these literals that are true are marked
abbrev pub Covers : List Bool → List ℤ → List Bool → Type 0
Covers model literals after = (l : ℤ) → Contains literals l → side_of model (variable_of l) ≡ true → side_of after (variable_of l) ≡ true

-- ---- marks on the records that are reached

-- what is marked is true in the model, and reached among what the model chooses
abbrev pub AreSound : List NamePool → List Asked → List Bool → List Bool → Type 0
AreSound pools items model marks =
    (x : ℕ × PkgRecord) → Contains (variables pools) x → side_of marks x.0 ≡ true →
    (side_of model x.0 ≡ true) × IsReached items (chosen pools (side_of model)) x.1

-- each record that the model chooses and the specification names is marked
abbrev pub IsMarked : List NamePool → List Bool → List Bool → Parts → Type 0
IsMarked pools model marks spec =
    (x : ℕ × PkgRecord) → Contains (variables pools) x → names spec x.1 ≡ true → side_of model x.0 ≡ true → side_of marks x.0 ≡ true

-- each record that the model chooses and the specification names is reached
abbrev pub Reaches : List NamePool → List Asked → List Bool → Parts → Type 0
Reaches pools items model spec =
    (m : PkgRecord) → Contains (chosen pools (side_of model)) m → names spec m ≡ true → IsReached items (chosen pools (side_of model)) m

-- what these records need is marked, where they were marked before
abbrev pub NeedsAreMarked : List NamePool → List Bool → List Bool → List Bool → List (ℕ × PkgRecord) → Type 0
NeedsAreMarked pools model before after xs =
    (x : ℕ × PkgRecord) → Contains xs x → side_of before x.0 ≡ true → (spec : Parts) → Contains x.1.depends spec → IsMarked pools model after spec

-- what wanted items of these name is marked
abbrev pub WantedAreMarked : List NamePool → List Bool → List Bool → List Asked → Type 0
WantedAreMarked pools model marks items =
    (item : Asked) → Contains items item → item.kind ≡ Wanted → IsMarked pools model marks item.spec

-- no specification that a record depends on has a star
abbrev pub DependsArePlain : List PkgRecord → Type 0
DependsArePlain recs = (pkg : PkgRecord) → Contains recs pkg → (spec : Parts) → Contains pkg.depends spec → IsPlain spec

-- the records that are marked
abbrev pub marked_of : List Bool → List PkgRecord → List PkgRecord
marked_of marks recs = map (λ x. x.1) (filter (λ x. side_of marks x.0) (numbered 1 recs))
