use Rattle.std.proofs.Common.{◌≡◌, ◌+◌, drop, not}
use Rattle.std.specs.List.{prefix_len}
use Rattle.conda_clause.specs.Pieces.{is_mark}
use Rattle.conda_clause.proofs.token.piece_len.Given as goal

abbrev pub invariant-loop-at : goal.invariant-loop-at
invariant-loop-at l = l.at + prefix_len (λ b. not (is_mark b)) (drop l.at l.text) ≡ prefix_len (λ b. not (is_mark b)) l.text
