use Rattle.conda_meta.proofs.ReadLemmas.{Laws, good_revision, prefix_law, revision_law}
use Rattle.conda_meta.proofs.laws.meta_laws.Goals as goal

laws : goal.After-record_laws → Laws
laws c = record {
  dist = c.dist_laws.ensures.rule;
  ending = c.ending_laws.ensures;
  path = c.path_laws.ensures.rule;
  only = c.grammar_laws.ensures.only;
  all = c.grammar_laws.ensures.all;
  record_is = c.record_laws.ensures.read;
  well_formed = c.record_laws.ensures.well_formed;
}

pub returns-clause-revision : goal.returns-clause-revision
returns-clause-revision c = revision_law (laws c)

pub returns-clause-prefix : goal.returns-clause-prefix
returns-clause-prefix c = prefix_law (laws c)

pub returns-clause-good : goal.returns-clause-good
returns-clause-good c = good_revision (laws c)
