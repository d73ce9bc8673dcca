use Rattle.conda_spec.proofs.LowerLaws.{Laws}
use Rattle.conda_spec.proofs.GivesLemmas.{spec_gives}
use Rattle.conda_spec.proofs.OnlyLemmas.{spec_only}
use Rattle.conda_spec.proofs.laws.grammar_laws.Goals as goal

laws : goal.After-beside_laws → Laws
laws c = record {
  first = c.cut_laws.ensures.first;
  last = c.cut_laws.ensures.last;
  no_first = c.cut_laws.ensures.no_first;
  no_last = c.cut_laws.ensures.no_last;
  number = c.number_laws.ensures.number;
  digits = c.number_laws.ensures.digits;
  some = c.clause_laws.ensures.some;
  chars = c.clause_laws.ensures.chars;
  front = c.clause_laws.ensures.front;
  back = c.clause_laws.ensures.back;
  clause = c.grammar_laws.ensures.only;
  right = c.grammar_laws.ensures.all;
  beside = c.beside_laws.ensures.written;
}

pub returns-clause-only : goal.returns-clause-only
returns-clause-only c = spec_only (laws c)

pub returns-clause-all : goal.returns-clause-all
returns-clause-all c = spec_gives (laws c)
