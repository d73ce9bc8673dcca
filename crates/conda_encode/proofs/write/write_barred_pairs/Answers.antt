use Rattle.std.proofs.Common.{get_or, pos}
use Rattle.std.proofs.lemmas.List.{get_or_default}
use Rattle.conda_encode.specs.Clauses.{barred_pair, is_other}
use Rattle.conda_encode.proofs.Walks.{filter_step}
use Rattle.conda_encode.proofs.write.write_barred_pairs.Goals as goal

pub loop-literal-preserved : goal.loop-literal-preserved
loop-literal-preserved c =
    let barred = c.args.barred.now in
    let i = c.loop-literal.literal-index in
    filter_step (is_other c.args.rec) (barred_pair c.args.rec c.args.entry) barred i (get_or barred i (pos 0)) _ _ _ c.loop-literal-test.true
    (get_or_default barred i _ (pos 0) c.loop-literal-test.true) c.loop-literal.invariant c.in_ok-write_barred_pair.ensures
