use Rattle.conda_clause.proofs.FormLemmas.{read_table, table_read}
use Rattle.conda_clause.proofs.TestLemmas.{version_chars}
use Rattle.conda_clause.proofs.laws.test_laws.Goals as goal

pub returns : goal.returns
returns c = record { only = read_table; all = table_read c.grammar_laws.ensures.end; chars = version_chars }
