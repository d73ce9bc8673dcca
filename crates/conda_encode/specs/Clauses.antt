-- A request as clauses: this project's own. Each clause stands beside the reason for it.
use Rattle.std.specs.Prelude.{ℕ, ◌+◌, nat_lt, ℤ, pos, neg_ℤ, Bool, not, List, [], ◌∷◌, ◌++◌, length, map, filter, drop, if◌then◌else◌}
use Rattle.std.specs.List.{flat_map}
use Rattle.std.specs.Ordering.{int_eq}
use Rattle.conda_spec.specs.Parts.{Parts}
use Rattle.conda_record.specs.declared.pkg_record.PkgRecord.{PkgRecord}
use Rattle.conda_record.specs.declared.pool.NamePool.{NamePool}
use Rattle.conda_encode.specs.Matching.{bars, names}
use Rattle.conda_encode.specs.Variables.{helpers_of, numbered, records, variables, vars_of}
use Rattle.conda_encode.specs.declared.asked.Asked.{Asked}
use Rattle.conda_encode.specs.declared.asked.AskKind.{AskKind}
use Rattle.conda_encode.specs.declared.asked.AskKind.TheVariants.{Pinned, Wanted}
use Rattle.conda_encode.specs.declared.encoded.Encoded.{Encoded}
use Rattle.conda_encode.specs.declared.encoded.Why.{Why}

-- a clause and why it is there
abbrev pub Reason : Type 0
Reason = Why × List ℤ

-- a variable is true; it is false
abbrev pub on : ℕ → ℤ
on n = pos n

abbrev pub off : ℕ → ℤ
off n = neg_ℤ (pos n)

-- a record that the specification names is chosen
abbrev pub some_named : List NamePool → Parts → List ℤ
some_named pools spec = map (λ x. on x.0) (filter (λ x. names spec x.1) (variables pools))

-- the records that the specification bars, each as one that isn't chosen
abbrev pub each_barred : List NamePool → Parts → List ℤ
each_barred pools spec = map (λ x. off x.0) (filter (λ x. bars spec x.1) (variables pools))

-- ---- what is wanted, a clause for each wanted item

abbrev pub wanted_at : List NamePool → AskKind → Parts → ℕ → List Reason
wanted_at pools Wanted spec place = (Why.Asked place, some_named pools spec) ∷ []
wanted_at pools Pinned spec place = []

abbrev pub wanted_item : List NamePool → ℕ × Asked → List Reason
wanted_item pools i = wanted_at pools i.1.kind i.1.spec i.0

abbrev pub wanted : List NamePool → List Asked → List Reason
wanted pools items = flat_map (wanted_item pools) (numbered 0 items)

-- ---- what is needed, a clause for each dependency of a record

abbrev pub needed_entry : List NamePool → ℕ → ℕ × Parts → Reason
needed_entry pools n d = (Why.Needs n d.0, off n ∷ some_named pools d.1)

abbrev pub needed_by : List NamePool → ℕ × PkgRecord → List Reason
needed_by pools x = map (needed_entry pools x.0) (numbered 0 x.1.depends)

abbrev pub needed : List NamePool → List Reason
needed pools = flat_map (needed_by pools) (variables pools)

-- ---- what is barred, a clause for each entry of a record and each other record that it bars

-- the literal is another record's
abbrev pub is_other : ℕ → ℤ → Bool
is_other n l = not (int_eq l (off n))

abbrev pub barred_pair : ℕ → ℕ → ℤ → Reason
barred_pair n place l = (Why.Constrains n place, off n ∷ l ∷ [])

abbrev pub barred_entry : List NamePool → ℕ → ℕ × Parts → List Reason
barred_entry pools n c = map (barred_pair n c.0) (filter (is_other n) (each_barred pools c.1))

abbrev pub barred_by : List NamePool → ℕ × PkgRecord → List Reason
barred_by pools x = flat_map (barred_entry pools x.0) (numbered 0 x.1.constrains)

abbrev pub barred : List NamePool → List Reason
barred pools = flat_map (barred_by pools) (variables pools)

-- ---- at most one record of a name

-- Of k records in a row, n is the variable of one that has a next one, and s its helper, which is true where a record up to this one
-- is chosen. `more` says whether the next one has a helper too.
abbrev pub one_step : List ℕ → ℕ → ℕ → Bool → List Reason
one_step name n s more =
    (Why.One name, off n ∷ on s ∷ []) ∷
    ((if more then (Why.One name, off s ∷ on (s + 1) ∷ []) ∷ [] else []) ++
    (Why.One name, off (n + 1) ∷ off s ∷ []) ∷ [])

-- the same where n and s are those of the first of k records, and x is the place before a next one
abbrev pub one_at : List ℕ → ℕ → ℕ → ℕ → ℕ × PkgRecord → List Reason
one_at name n s k x = one_step name (n + x.0) (s + x.0) (nat_lt (x.0 + 2) k)

abbrev pub one_of : List ℕ → ℕ → ℕ → List PkgRecord → List Reason
one_of name n s recs = flat_map (one_at name n s (length recs)) (numbered 0 (drop 1 recs))

-- of each pool, where n and s are the first variable and the first helper that are left
abbrev pub ones : ℕ → ℕ → List NamePool → List Reason
ones n s [] = []
ones n s (pool ∷ rest) = one_of pool.name n s pool.recs ++ ones (n + length pool.recs) (s + helpers_of pool) rest

-- ---- what is pinned, a clause for each pinned item and each record that it bars

abbrev pub pinned_literal : ℕ → ℤ → Reason
pinned_literal place l = (Why.Pinned place, l ∷ [])

abbrev pub pinned_at : List NamePool → AskKind → Parts → ℕ → List Reason
pinned_at pools Wanted spec place = []
pinned_at pools Pinned spec place = map (pinned_literal place) (each_barred pools spec)

abbrev pub pinned_item : List NamePool → ℕ × Asked → List Reason
pinned_item pools i = pinned_at pools i.1.kind i.1.spec i.0

abbrev pub pinned : List NamePool → List Asked → List Reason
pinned pools items = flat_map (pinned_item pools) (numbered 0 items)

-- ---- the whole

abbrev pub reasons : List NamePool → List Asked → List Reason
reasons pools items =
    wanted pools items ++ needed pools ++ barred pools ++ ones 1 (length (records pools) + 1) pools ++ pinned pools items

abbrev pub clauses : List NamePool → List Asked → List (List ℤ)
clauses pools items = map (λ r. r.1) (reasons pools items)

-- the pools and items as clauses
abbrev pub encoded_of : List NamePool → List Asked → Encoded
encoded_of pools items =
    record {
      pools = pools;
      asked = items;
      vars = vars_of pools;
      clauses = clauses pools items;
      whys = map (λ r. r.0) (reasons pools items);
    }
