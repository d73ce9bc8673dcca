use Rattle.std.proofs.Common.{◌++◌, ap, sym, ◌∙◌}
use Rattle.conda_changes.specs.Shares.{changes_in, share_at}
use Rattle.conda_changes.proofs.ShareLemmas.{next_dealt}
use Rattle.conda_changes.proofs.shares.shares_of.Goals as goal

pub loop-change-preserved : goal.loop-change-preserved
loop-change-preserved c = record {
  count = c.in_ok-deal.ensures.count;
  own = λ lane.
      let before = c.loop-change.shares.items in
      next_dealt before c.deal.new.shares.items c.in-Some.change c.next.new.self.rest.items c.args.changes.items c.args.lanes lane (c.in_ok-deal.ensures.own lane)
      (ap (λ left. share_at before lane ++ changes_in left c.args.lanes lane) (sym c.in-Some.ensures.steps.0) ∙ c.loop-change.invariant.own lane);
}
