use Rattle.std.proofs.Common.{subst, sym}
use Rattle.conda_clause.specs.Beside.{IsBesideBuild}
use Rattle.conda_clause.proofs.BuildLemmas.{beside_holds, is_beside, only_beside}
use Rattle.conda_clause.proofs.laws.beside_laws.Goals as goal

pub returns : goal.returns
returns c = record {
  written = λ text beside good. (
    only_beside c.grammar_laws.ensures.end text beside good,
    λ e. subst (IsBesideBuild text) (sym e) (is_beside c.grammar_laws.ensures.end text good),
  );
  holds = beside_holds c.grammar_laws.ensures.end;
}
