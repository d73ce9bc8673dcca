use Rattle.std.proofs.Common.{◌≡◌, false, is_none, not, ap, ◌∙◌}
use Rattle.conda_lane.proofs.StepLemmas.{leads_new, node_is_new, on_err, went_new}
use Rattle.conda_lane.proofs.putting.put_one.Goals as goal

pub returns-in_err-put_given-clause-err : goal.returns-in_err-put_given-clause-err
returns-in_err-put_given-clause-err g c =
    let change = c.args.change.now in
    let state = g.S.Supply.state c.args.supply.now in
    let node = c.in_ok-given.given.node in
    let some : is_none change.new ≡ false = ap not c.is_none.ensures ∙ ap (λ b. not (not b)) c.if-is_none.false in
    let new = node_is_new state change node c.in_ok-given.ensures.node c.requires.good some in
    on_err c.from_residual-in_err-put_given.result (went_new state.kept change node _ _ new c.in_err-put_given.ensures.err)

pub returns-clause-ok : goal.returns-clause-ok
returns-clause-ok g c =
    let change = c.args.change.now in
    let state = g.S.Supply.state c.args.supply.now in
    let node = c.in_ok-given.given.node in
    let some : is_none change.new ≡ false = ap not c.is_none.ensures ∙ ap (λ b. not (not b)) c.if-is_none.false in
    let new = node_is_new state change node c.in_ok-given.ensures.node c.requires.good some in
    leads_new state.kept change node _ _ new c.in_ok-put_given.ensures.ok
