-- What the answers of the solver to the whole request say.
use Rattle.std.proofs.Common.{◌≡◌, ℕ, ℤ, Bool, true, List, [], refl, ap, ◌∙◌, subst}
use Rattle.std.specs.List.{list_all}
use Rattle.conda_refute.specs.Literals.{clause_true}
use Rattle.conda_record.specs.declared.pkg_record.PkgRecord.{PkgRecord}
use Rattle.conda_record.specs.declared.pool.NamePool.{NamePool}
use Rattle.conda_encode.specs.Clauses.{clauses}
use Rattle.conda_encode.specs.Solution.{IsSolution}
use Rattle.conda_encode.specs.Sides.{side_of}
use Rattle.conda_encode.specs.Variables.{IsRequest, vars_of}
use Rattle.conda_encode.specs.declared.asked.Asked.{Asked}
use Rattle.conda_encode.proofs.Requests.{solution_model}
use Rattle.conda_sat.specs.Answers.{IsDenied, IsVerdict}
use Rattle.conda_sat.specs.declared.verdict.Verdict.{Verdict}
use Rattle.conda_sat.specs.declared.verdict.Verdict.TheVariants.{Denied, Model}
use Rattle.conda_resolve.specs.Asking.{IsModelWith}

pub no_solution : (pools : List NamePool) (items : List Asked) (cs : List (List ℤ)) → IsRequest pools items → cs ≡ clauses pools items → IsDenied cs [] →
    (set : List PkgRecord) → IsSolution set items pools → ⊥
no_solution pools items cs request e denied set solution =
    let m = solution_model pools items request set solution in
    denied m.0 (ap (list_all (clause_true m.0)) e ∙ m.1) refl

-- the same of a verdict that is a denial
pub denied_solution : (pools : List NamePool) (items : List Asked) (vars : ℕ) (cs : List (List ℤ)) (verdict : Verdict) → IsRequest pools items → cs ≡ clauses pools items →
    IsVerdict vars cs [] verdict → verdict ≡ Denied → (set : List PkgRecord) → IsSolution set items pools → ⊥
denied_solution pools items vars cs verdict request e right f =
    let P : Verdict → Type 0 = λ w. IsVerdict vars cs [] w in
    no_solution pools items cs request e (subst P f right)

pub first_model : (pools : List NamePool) (items : List Asked) (vars : ℕ) (cs : List (List ℤ)) (sides : List Bool) → vars ≡ vars_of pools → cs ≡ clauses pools items →
    IsVerdict vars cs [] (Model sides) → IsModelWith (vars_of pools) (clauses pools items) [] sides
first_model pools items vars cs sides e f (count, (model, assumed)) =
    let P : List (List ℤ) → Type 0 = λ c. list_all (clause_true (side_of sides)) c ≡ true in
    record { count = count ∙ e; clauses_true = subst P f model; assumed_true = refl }
