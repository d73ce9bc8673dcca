-- What is asked of the solver while names are decided.
use Rattle.std.specs.Prelude.{◌≡◌, ℕ, ℤ, Bool, true, if◌then◌else◌, List, [], ◌∷◌, ◌++◌, filter, find, length, map, Option, None, Some}
use Rattle.std.specs.Cmp.Lexicographic.{slice_cmp}
use Rattle.std.specs.List.{Contains, list_all}
use Rattle.std.specs.List.Sorted.{IsPermutation, IsSorted}
use Rattle.std.specs.Map.{keys_of}
use Rattle.std.specs.Ordering.{nat_cmp}
use Rattle.conda_refute.specs.Literals.{clause_true, literal_true}
use Rattle.conda_record.specs.declared.pkg_record.PkgRecord.{PkgRecord}
use Rattle.conda_record.specs.declared.pool.NamePool.{NamePool}
use Rattle.conda_encode.specs.Clauses.{on}
use Rattle.conda_encode.specs.Matching.{lowered}
use Rattle.conda_encode.specs.Sides.{is_within, side_of}
use Rattle.conda_encode.specs.Variables.{variables}
use Rattle.conda_encode.specs.declared.asked.Asked.{Asked}
use Rattle.conda_resolve.specs.Choice.{IsFirst, LeadsTo, has_name, is_fresh, is_installed}

-- some sides make all clauses true, and these literals, and the variable
abbrev pub IsOpen : List (List ℤ) → List ℤ → ℕ → Type 0
IsOpen clauses assumed n =
    (v : ℕ → Bool) × (list_all (clause_true v) clauses ≡ true) × (list_all (literal_true v) (assumed ++ on n ∷ []) ≡ true)

-- the sides of so many variables make all clauses true, and these literals
pub record IsModelWith (vars : ℕ) (clauses : List (List ℤ)) (assumed : List ℤ) (sides : List Bool) : Type 0 where
  pub count : length sides ≡ vars
  pub clauses_true : list_all (clause_true (side_of sides)) clauses ≡ true
  pub assumed_true : list_all (literal_true (side_of sides)) assumed ≡ true

-- the installed one of these numbered records of a name, if it comes before the others
abbrev pub installed_variable : List Asked → List PkgRecord → List ℕ → List (ℕ × PkgRecord) → Option (ℕ × PkgRecord)
installed_variable items installed name xs =
    if is_fresh items name then None else find (λ x. is_installed (filter (has_name name) installed) x.1) xs

abbrev pub in_front_of : Option (ℕ × PkgRecord) → List (ℕ × PkgRecord) → List (ℕ × PkgRecord)
in_front_of None xs = xs
in_front_of (Some x) xs = x ∷ xs

-- the records of the name in the order in which they are tried, with their variables
abbrev pub ranked_variables : List NamePool → List Asked → List PkgRecord → List ℕ → List (ℕ × PkgRecord)
ranked_variables pools items installed name =
    let xs = filter (λ x. has_name name x.1) (variables pools) in
    in_front_of (installed_variable items installed name xs) xs

-- these variables, each behind the name of its record, are those of the records that are decided in the end
pub record AreDecided (pools : List NamePool) (items : List Asked) (installed : List PkgRecord) (entries : List (List ℕ × ℕ)) : Type 0 where
  pub xs : List (ℕ × PkgRecord)
  pub named : entries ≡ map (λ x. (lowered x.1.name, x.0)) xs
  pub numbered : (x : ℕ × PkgRecord) → Contains xs x → Contains (variables pools) x
  pub leads : LeadsTo pools items installed [] (map (λ x. x.1) xs)

-- the same entries in the order of their names
pub record AreOrdered (pools : List NamePool) (items : List Asked) (installed : List PkgRecord) (entries : List (List ℕ × ℕ)) : Type 0 where
  pub decided : List (List ℕ × ℕ)
  pub are : AreDecided pools items installed decided
  pub moved : IsPermutation decided entries
  pub sorted : IsSorted (slice_cmp nat_cmp) (keys_of entries)

-- the literals are of so many variables
abbrev pub AreWithin : ℕ → List ℤ → Type 0
AreWithin vars literals = list_all (is_within vars) literals ≡ true

-- of these variables, this one is the first that can be true with the literals that were assumed; it is assumed now, and true
pub record IsFound (vars : ℕ) (clauses : List (List ℤ)) (before after : List ℤ) (sides : List Bool) (candidates : List ℕ) (n : ℕ) : Type 0 where
  pub first : IsFirst (IsOpen clauses before) candidates n
  pub more : after ≡ before ++ on n ∷ []
  pub within : AreWithin vars after
  pub model : IsModelWith vars clauses after sides

-- none of these variables can be true
abbrev pub NoneOpen : List (List ℤ) → List ℤ → List ℕ → Type 0
NoneOpen clauses assumed candidates = (n : ℕ) → Contains candidates n → IsOpen clauses assumed n → ⊥
