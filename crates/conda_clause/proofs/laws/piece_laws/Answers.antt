use Rattle.conda_clause.proofs.PieceLemmas.{pieces_first}
use Rattle.conda_clause.proofs.laws.piece_laws.Goals as goal

pub returns : goal.returns
returns c = pieces_first
