use Rattle.std.proofs.Common.{◌≡◌, ◌<◌, ◌+◌, ◌∙◌, ◌++◌, List, ap, arith, length}
use Rattle.std.specs.List.{flat_map}
use Rattle.conda_spec.specs.Parts.{Parts}
use Rattle.conda_record.specs.declared.pkg_record.PkgRecord.{PkgRecord}
use Rattle.conda_encode.specs.Clauses.{barred_by, barred_entry}
use Rattle.conda_encode.specs.Variables.{numbered, records}
use Rattle.conda_encode.proofs.Lent.{lent_at, lent_length, lent_plain}
use Rattle.conda_encode.proofs.Walks.{flat_more}
use Rattle.conda_encode.proofs.write.write_barred.Goals as goal

pub write_barred_by-requires-clause-plain : goal.write_barred_by-requires-clause-plain
write_barred_by-requires-clause-plain c =
    lent_plain (λ (p : PkgRecord). p.constrains) c.args.recs.now (records c.args.pools.now) c.loop-at.at c.index-recs-at.result _ c.requires.recs c.loop-at-test.true
    c.index-recs-at.is c.as_slice.ensures c.requires.plain

pub loop-at-preserved : goal.loop-at-preserved
loop-at-preserved c = record {
  known = c.in_ok-write_barred_by.ensures.known;
  written =
      let recs = records c.args.pools.now in
      let e : c.loop-at.at + 1 ≡ 1 + c.loop-at.at = omega arith in
      let lt : c.loop-at.at < length recs = omega (arith, c.loop-at-test.true, lent_length c.args.recs.now recs c.requires.recs) in
      flat_more (barred_by c.args.pools.now) 1 recs c.loop-at.at (c.loop-at.at + 1) c.index-recs-at.result.now _ _ _ lt e
      (lent_at c.args.recs.now recs c.loop-at.at c.index-recs-at.result c.requires.recs c.loop-at-test.true c.index-recs-at.is)
      c.loop-at.invariant.written
      (c.in_ok-write_barred_by.ensures.written ∙ ap (λ (d : List Parts). c.loop-at.written ++ flat_map (barred_entry c.args.pools.now (c.loop-at.at + 1)) (numbered 0 d)) c.as_slice.ensures);
}
