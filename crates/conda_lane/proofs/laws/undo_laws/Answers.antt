use Rattle.conda_lane.proofs.UndoLemmas.{undone_exact, undone_halves, undone_only, undone_start}
use Rattle.conda_lane.proofs.laws.undo_laws.Goals as goal

pub returns : goal.returns
returns c = record { start = undone_start; exact = undone_exact; only = undone_only; halves = undone_halves }
