use Rattle.conda_version.proofs.TextLemmas.{trimmed_bare, trimmed_twice, trimmed_whole}
use Rattle.conda_version.proofs.laws.trimmed_law.Goals as goal

pub returns-clause-whole : goal.returns-clause-whole
returns-clause-whole c = trimmed_whole

pub returns-clause-bare : goal.returns-clause-bare
returns-clause-bare c = trimmed_bare

pub returns-clause-twice : goal.returns-clause-twice
returns-clause-twice c = trimmed_twice
