use Rattle.conda_version.proofs.CutLemmas.{cuts}
use Rattle.conda_version.specs.Text.{plain}
use Rattle.conda_version.proofs.VersionLemmas.{version_again, version_chars, version_end, version_sound}
use Rattle.conda_version.proofs.laws.grammar_laws.Goals as goal

pub returns-clause-read : goal.returns-clause-read
returns-clause-read c = λ text good. version_sound (cuts c.cut_laws.ensures.first c.cut_laws.ensures.no_first) (plain text) good

pub returns-clause-only : goal.returns-clause-only
returns-clause-only c = λ text version h.
    let found = version_again (cuts c.cut_laws.ensures.first c.cut_laws.ensures.no_first) (plain text) version h in
    (found.good, found.value)

pub returns-clause-chars : goal.returns-clause-chars
returns-clause-chars c = λ text good. version_chars (plain text) good

pub returns-clause-end : goal.returns-clause-end
returns-clause-end c = version_end (cuts c.cut_laws.ensures.first c.cut_laws.ensures.no_first)
