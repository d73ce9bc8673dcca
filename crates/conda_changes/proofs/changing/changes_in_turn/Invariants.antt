use Rattle.std.proofs.Common.{◌≡◌, ◌++◌, [], map}
use Rattle.conda_changes.specs.Counting.{AreCounted, AreFree, trash_of}
use Rattle.conda_changes.specs.Moves.{said_by_change, said_by_move}
use Rattle.std.specs.BTreeMap.{values}
use Rattle.conda_changes.proofs.changing.changes_in_turn.Given as goal

abbrev pub invariant-loop-one : goal.invariant-loop-one
invariant-loop-one l = record {
  said : map said_by_change l.changes.items ++ map said_by_move l.one-iterator ≡ map said_by_move (values l.fn.moves);
  free : AreFree l.left l.number [] l.changes.items;
  counted : AreCounted l.left l.number (trash_of l.changes.items) l.nexts;
}
