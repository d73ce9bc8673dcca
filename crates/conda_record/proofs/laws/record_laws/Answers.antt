use Rattle.conda_record.proofs.BackLemmas.{reads_back, well_formed}
use Rattle.conda_record.proofs.ReadLemmas.{Laws, record_law}
use Rattle.conda_record.proofs.laws.record_laws.Goals as goal

laws : goal.After-trimmed_law → Laws
laws c = record {
  dist = c.dist_laws.ensures.rule;
  parts = c.dist_laws.ensures.parts;
  ending = c.ending_laws.ensures;
  only = c.grammar_laws.ensures.only;
  all = c.grammar_laws.ensures.all;
  version = c.grammar_laws-2.ensures.read;
  no_offence = c.grammar_laws-2.ensures.only;
  twice = c.trimmed_law.ensures.twice;
}

pub returns-clause-read : goal.returns-clause-read
returns-clause-read c = record_law (laws c)

pub returns-clause-well_formed : goal.returns-clause-well_formed
returns-clause-well_formed c = well_formed (laws c)

pub returns-clause-reads_back : goal.returns-clause-reads_back
returns-clause-reads_back c = reads_back (laws c)
