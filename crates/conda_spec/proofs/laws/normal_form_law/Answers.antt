use Rattle.conda_spec.proofs.LawLemmas.{read_again}
use Rattle.conda_spec.proofs.laws.normal_form_law.Goals as goal

pub returns : goal.returns
returns c = read_again (record {
  first = c.cut_laws.ensures.first;
  last = c.cut_laws.ensures.last;
  no_first = c.cut_laws.ensures.no_first;
  no_last = c.cut_laws.ensures.no_last;
  number = c.number_laws.ensures.number;
  digits = c.number_laws.ensures.digits;
  some = c.clause_laws.ensures.some;
  chars = c.clause_laws.ensures.chars;
  front = c.clause_laws.ensures.front;
  back = c.clause_laws.ensures.back;
  clause = c.grammar_laws.ensures.only;
  right = c.grammar_laws.ensures.all;
  beside = c.beside_laws.ensures.written;
})
