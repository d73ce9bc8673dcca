use Rattle.conda_clause.proofs.GrammarLemmas.{clause_all, clause_only}
use Rattle.conda_clause.proofs.laws.grammar_laws.Goals as goal

pub returns : goal.returns
returns c = record { only = clause_only; all = clause_all c.grammar_laws.ensures.end }
