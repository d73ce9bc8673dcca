use Rattle.std.proofs.Common.{Some, ap, ◌∙◌}
use Rattle.std.specs.Prelude.{◌||◌, option_copied}
use Rattle.std.specs.BTreeMap.{get_by}
use Rattle.std.specs.Cmp.Lexicographic.{slice_cmp}
use Rattle.std.specs.Ordering.{nat_cmp}
use Rattle.std.proofs.lemmas.Map.Text.{btree_map_updates_str}
use Rattle.conda_goods.proofs.Holding.{holders_step}
use Rattle.conda_goods.specs.Claims.{differ, held_by_other}
use Rattle.conda_goods.proofs.conflict.holders.Goals as goal

pub loop-claim-preserved : goal.loop-claim-preserved
loop-claim-preserved c = λ path holder.
    holders_step c.args.claims.now c.loop-claim.claim-index c.claim-item.result
    (λ q. get_by (λ k. slice_cmp nat_cmp q k.now) c.loop-claim.at) (λ q. get_by (λ k. slice_cmp nat_cmp q k.now) c.insert.new.self)
    c.as_str-path.result.now c.joined-held.result c.loop-claim-test.true c.claim-item.is c.as_str-path.ensures.same
    (btree_map_updates_str c.as_str-path.result.now c.loop-claim.at c.insert.new.self (Some c.joined-held.result) c.in_ok-insert.ensures.updates)
    (λ other. c.joined-held.ensures other ∙ ap (λ h. held_by_other other h || differ (option_copied c.claim-item.result.holder) other) (c.copied.ensures ∙ c.get.ensures.value))
    path holder
    ∙ c.loop-claim.invariant path holder
