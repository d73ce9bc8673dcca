use Rattle.std.proofs.Common.{◌+◌, ◌≡◌, sym, arith}
use Rattle.conda_encode.specs.Clauses.{needed_entry}
use Rattle.conda_encode.proofs.Walks.{map_more_numbered}
use Rattle.conda_encode.proofs.write.write_needed_by.Goals as goal

pub loop-entry-preserved : goal.loop-entry-preserved
loop-entry-preserved c = record {
  known = c.in_ok-write_needed_entry.ensures.known;
  written =
      let e : c.loop-entry.entry ≡ 0 + c.loop-entry.entry = omega arith in
      map_more_numbered (needed_entry c.args.pools.now c.args.rec) 0 c.args.depends.now c.loop-entry.entry c.loop-entry.entry c.index-depends-entry.result _ _ _ c.loop-entry-test.true e
      (sym c.index-depends-entry.is) c.loop-entry.invariant.written c.in_ok-write_needed_entry.ensures.written;
}
