use Rattle.std.proofs.Common.{rules, refl, arith, sym, subst, ap, ◌∙◌}
use Rattle.conda_lane.specs.Calls.{Leads}
use Rattle.conda_lane.specs.Changes.{IsMovedOut, at}
use Rattle.conda_lane.specs.Steps.{Goes, IsPut}
use Rattle.conda_lane.specs.Supplies.{HasGood}
use Rattle.conda_lane.proofs.EffectLemmas.{free_at, put_between, put_finished, put_local}
use Rattle.conda_lane.proofs.SupplyLemmas.{keeps_self, keeps_then, put_kept, stopped_since, went_kept}
use Rattle.conda_lane.proofs.WalkLemmas.{Plain, all_at, change_later, found_so, leads_map, step_off, step_on, walk_first, walk_halted, walk_whole}
use Rattle.conda_lane.proofs.putting.put_in.Goals as goal

pub loop-change-init : goal.loop-change-init
loop-change-init g c = record {
  told = walk_first (Plain (IsPut (g.S.Supply.state c.args.supply.now).kept)) c.args.changes.now (g.L.Lane.told c.args.lane.now);
  share = refl;
  later = omega arith;
  keeps = keeps_self (g.S.Supply.state c.args.supply.now);
}

pub put_one-requires-clause-change : goal.put_one-requires-clause-change
put_one-requires-clause-change g c κs within =
    change_later _ _ c.loop-change.change-index c.change-item.result c.args.changes.now c.loop-change.invariant.share c.requires.changes c.loop-change-test.true c.change-item.is

pub put_one-requires-clause-good : goal.put_one-requires-clause-good
put_one-requires-clause-good g c κs within =
    let change = c.change-item.result in
    subst (λ goods. HasGood goods change.path change.new) (sym c.loop-change.invariant.keeps.goods)
    (all_at (λ d. HasGood (g.S.Supply.state c.args.supply.now).goods d.path d.new) c.loop-change.change-index change c.args.changes.now c.loop-change-test.true c.change-item.is c.requires.goods)

pub put_one-requires-clause-free : goal.put_one-requires-clause-free
put_one-requires-clause-free g c κs within =
    let change = c.change-item.result in
    found_so IsMovedOut (IsPut (g.S.Supply.state c.args.supply.now).kept) c.loop-change.change-index change c.args.changes.now _ _ (λ before now same h. free_at before now change same h) c.loop-change-test.true
    c.change-item.is c.requires.moved c.loop-change.invariant.told

pub returns-in_err-put_one-clause-between : goal.returns-in_err-put_one-clause-between
returns-in_err-put_one-clause-between g c = λ start.
    let changes = c.args.changes.now in
    let kept = (g.S.Supply.state c.args.supply.now).kept in
    leads_map (λ before now h. put_between kept start before now changes h) _ _
    (step_off (IsPut kept) (put_local kept) c.loop-change.change-index c.change-item.result changes c.requires.changes.apart c.loop-change-test.true c.change-item.is _ _ _ c.loop-change.invariant.told
    (went_kept _ kept c.change-item.result _ _ c.loop-change.invariant.keeps.kept c.in_err-put_one.ensures.err))

pub loop-change-preserved : goal.loop-change-preserved
loop-change-preserved g c =
    let kept = (g.S.Supply.state c.args.supply.now).kept in
    record {
      told =
          step_on (IsPut kept) (put_local kept) c.loop-change.change-index c.change-item.result c.args.changes.now c.requires.changes.apart c.loop-change-test.true c.change-item.is _ _ _ c.loop-change.invariant.told
          (put_kept _ kept c.change-item.result _ _ c.loop-change.invariant.keeps.kept c.in_ok-put_one.ensures.ok);
      share = c.in_ok-put_one.ensures.share ∙ c.loop-change.invariant.share;
      later = omega (arith, c.loop-change.invariant.later, c.in_ok-put_one.ensures.later);
      keeps = keeps_then _ _ _ c.loop-change.invariant.keeps c.in_ok-put_one.ensures.keeps;
    }

pub returns-clause-ok : goal.returns-clause-ok
returns-clause-ok g c = λ start.
    let changes = c.args.changes.now in
    let kept = (g.S.Supply.state c.args.supply.now).kept in
    leads_map (λ before now h. put_finished kept start before now changes h) _ _
    (walk_whole (IsPut kept) c.loop-change.change-index changes _ _ c.loop-change-test.false c.loop-change.invariant.told)

pub returns-clause-between : goal.returns-clause-between
returns-clause-between g c = λ start.
    let changes = c.args.changes.now in
    let kept = (g.S.Supply.state c.args.supply.now).kept in
    leads_map (λ before now h. put_between kept start before now changes h) _ _
    (walk_halted (IsPut kept) c.loop-change.change-index changes _ _ c.loop-change.invariant.told)

pub returns-in_err-put_one-clause-keeps : goal.returns-in_err-put_one-clause-keeps
returns-in_err-put_one-clause-keeps g c = keeps_then _ _ _ c.loop-change.invariant.keeps c.in_err-put_one.ensures.keeps

pub returns-in_err-put_one-clause-cause : goal.returns-in_err-put_one-clause-cause
returns-in_err-put_one-clause-cause g c =
    let since = stopped_since c.in_err-put_one.field-0.0.cause (g.L.Lane.faults c.args.lane.now) (g.L.Lane.faults c.loop-change.lane) (g.L.Lane.faults c.put_one.new.lane)
    (g.S.Supply.state c.args.supply.now) (g.S.Supply.state c.loop-change.supply) (g.S.Supply.state c.put_one.new.supply) c.loop-change.invariant.later c.loop-change.invariant.keeps c.in_err-put_one.ensures.cause in
    search (rules, since)
