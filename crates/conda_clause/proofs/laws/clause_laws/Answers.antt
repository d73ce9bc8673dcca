use Rattle.conda_clause.proofs.EndLemmas.{begins_well, clause_chars, ends_well}
use Rattle.conda_clause.proofs.FaultLemmas.{some_text}
use Rattle.conda_clause.proofs.laws.clause_laws.Goals as goal

pub returns : goal.returns
returns c =
    record {
      some = some_text;
      chars = clause_chars c.grammar_laws.ensures.end;
      front = begins_well;
      back = ends_well c.grammar_laws.ensures.end;
    }
