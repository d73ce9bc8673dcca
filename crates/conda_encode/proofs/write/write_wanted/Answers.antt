use Rattle.std.proofs.Common.{◌+◌, ◌≡◌, sym, arith}
use Rattle.conda_encode.specs.Clauses.{wanted_item}
use Rattle.conda_encode.proofs.Walks.{flat_more}
use Rattle.conda_encode.proofs.write.write_wanted.Goals as goal

pub loop-place-preserved : goal.loop-place-preserved
loop-place-preserved c = record {
  known = c.in_ok-write_wanted_at.ensures.known;
  written =
      let e : c.loop-place.place ≡ 0 + c.loop-place.place = omega arith in
      flat_more (wanted_item c.args.pools.now) 0 c.args.items.now c.loop-place.place c.loop-place.place c.index-items-place.result _ _ _ c.loop-place-test.true e
      (sym c.index-items-place.is) c.loop-place.invariant.written c.in_ok-write_wanted_at.ensures.written;
}
