use Rattle.std.proofs.Common.{◌≡◌, [], ◌∷◌, ◌++◌, ◌<◌, length, set, cond, arith, subst}
use Rattle.std.specs.Prelude.{nat_eq}
use Rattle.conda_changes.specs.Shares.{share_at}
use Rattle.conda_changes.proofs.ShareLemmas.{one_dealt}
use Rattle.conda_changes.proofs.shares.deal.Goals as goal

pub returns-clause-own : goal.returns-clause-own
returns-clause-own c = λ lane.
    let at = c.lane_of-lane.result in
    let within : at < length c.args.shares.now.items = omega arith in
    subst (λ n. share_at (set c.args.shares.now.items at c.push.new.self) lane ≡ share_at c.args.shares.now.items lane ++ cond (nat_eq n lane) (c.args.change ∷ []) [])
    c.lane_of-lane.ensures.exact
    (one_dealt c.args.shares.now.items at c.index_mut.result.now c.push.new.self c.args.change within c.index_mut.ensures.value c.in_ok-push.ensures.ok lane)
