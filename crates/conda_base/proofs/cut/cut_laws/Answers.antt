use Rattle.conda_base.proofs.CutLemmas.{first_law, first_words_law, free_words_law, last_law, last_words_law, no_first_law, no_last_law}
use Rattle.conda_base.proofs.cut.cut_laws.Goals as goal

pub returns : goal.returns
returns c = record {
  first = first_law;
  last = last_law;
  no_first = no_first_law;
  no_last = no_last_law;
  first_words = first_words_law;
  last_words = last_words_law;
  free_words = free_words_law;
}
