use Rattle.std.proofs.Common.{arith, rules, ◌<◌, length, sym, ◌∙◌}
use Rattle.conda_clause.proofs.PieceLemmas.{cut_at, reads_on, stops, tokens_on}
use Rattle.conda_clause.proofs.reading.left_fault.Goals as goal

pub loop-left-preserved : goal.loop-left-preserved
loop-left-preserved c =
    let some : 0 < length c.loop-left.left.now = search rules in
    let cut =
    cut_at c.loop-left.left.now c.split_at.result.0.now c.split_at.result.1.now c.piece_len.result some c.piece_len.ensures.len
    c.piece_len.ensures.some
    c.piece_len.ensures.inside c.split_at.ensures.front c.split_at.ensures.back in
    record {
      lengths = omega (arith, cut.lengths, c.loop-left.invariant.lengths);
      fault =
          reads_on c.loop-left.wanted c.in-Ok.next c.loop-left.depth c.in-Ok.deep c.loop-left.at c.loop-left.left.now
          c.split_at.result.0.now c.split_at.result.1.now
          cut (sym c.in-Ok.is ∙ c.in_ok-next.ensures.step)
          ∙ c.loop-left.invariant.fault;
      made =
          tokens_on c.loop-left.made.items c.read_next.new.made.items c.loop-left.left.now c.split_at.result.0.now c.split_at.result.1.now
          cut c.in_ok-next.ensures.made
          ∙ c.loop-left.invariant.made;
    }

pub returns-in-Err-clause-fault : goal.returns-in-Err-clause-fault
returns-in-Err-clause-fault c =
    let some : 0 < length c.loop-left.left.now = search rules in
    let cut =
    cut_at c.loop-left.left.now c.split_at.result.0.now c.split_at.result.1.now c.piece_len.result some c.piece_len.ensures.len
    c.piece_len.ensures.some
    c.piece_len.ensures.inside c.split_at.ensures.front c.split_at.ensures.back in
    stops c.loop-left.wanted c.loop-left.depth c.loop-left.at c.in-Err.why c.loop-left.left.now c.split_at.result.0.now
    c.split_at.result.1.now cut
    (sym c.in-Err.is ∙ c.in_ok-next.ensures.step)
    ∙ c.loop-left.invariant.fault
