use Rattle.conda_lane.specs.Steps.{IsPutNode}
use Rattle.conda_lane.proofs.StepLemmas.{goes_as, on_err_map, on_ok_map, put_leads, stays_or_goes}
use Rattle.conda_lane.proofs.putting.put_given.Goals as goal

pub returns-in-Some-clause-ok : goal.returns-in-Some-clause-ok
returns-in-Some-clause-ok g c =
    let change = c.args.change.now in
    let node = c.args.given.now.node in
    on_ok_map c.put_hard.result (λ is. goes_as (IsPutNode node) change _ _ _ is (put_leads (g.L.Lane.told c.args.lane.now) change node c.requires.change.apart)) c.put_hard.ensures.ok

pub returns-in-Some-clause-err : goal.returns-in-Some-clause-err
returns-in-Some-clause-err g c =
    let change = c.args.change.now in
    let node = c.args.given.now.node in
    on_err_map c.put_hard.result (λ is. stays_or_goes (IsPutNode node) change _ _ _ is (put_leads (g.L.Lane.told c.args.lane.now) change node c.requires.change.apart)) c.put_hard.ensures.err

pub returns-in-None-clause-ok : goal.returns-in-None-clause-ok
returns-in-None-clause-ok g c =
    let change = c.args.change.now in
    let node = c.args.given.now.node in
    on_ok_map c.put.result (λ is. goes_as (IsPutNode node) change _ _ _ is (put_leads (g.L.Lane.told c.args.lane.now) change node c.requires.change.apart)) c.put.ensures.ok

pub returns-in-None-clause-err : goal.returns-in-None-clause-err
returns-in-None-clause-err g c =
    let change = c.args.change.now in
    let node = c.args.given.now.node in
    on_err_map c.put.result (λ is. stays_or_goes (IsPutNode node) change _ _ _ is (put_leads (g.L.Lane.told c.args.lane.now) change node c.requires.change.apart)) c.put.ensures.err
