use Rattle.std.proofs.Common.{◌+◌, ◌≡◌, sym, arith}
use Rattle.conda_encode.specs.Clauses.{barred_entry}
use Rattle.conda_encode.proofs.Walks.{flat_more}
use Rattle.conda_encode.proofs.write.write_barred_by.Goals as goal

pub loop-entry-preserved : goal.loop-entry-preserved
loop-entry-preserved c = record {
  known = c.in_ok-write_barred_entry.ensures.known;
  written =
      let e : c.loop-entry.entry ≡ 0 + c.loop-entry.entry = omega arith in
      flat_more (barred_entry c.args.pools.now c.args.rec) 0 c.args.constrains.now c.loop-entry.entry c.loop-entry.entry c.index-constrains-entry.result _ _ _ c.loop-entry-test.true e
      (sym c.index-constrains-entry.is) c.loop-entry.invariant.written c.in_ok-write_barred_entry.ensures.written;
}
