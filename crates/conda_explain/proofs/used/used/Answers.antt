use Rattle.std.proofs.Common.{◌≡◌, ◌<◌, ◌≤◌, ◌||◌, ℕ, ℤ, List, ap, get_or, length, subst, sym, take_all, ◌∙◌}
use Rattle.std.specs.List.{filter_map, flat_map}
use Rattle.conda_refute.specs.Refutation.{named}
use Rattle.conda_refute.specs.declared.log.Step.{Step}
use Rattle.conda_explain.specs.Shown.{holds}
use Rattle.conda_explain.proofs.Keys.{held_step, lists}
use Rattle.conda_explain.proofs.used.used.Goals as goal

pub loop-step-preserved : goal.loop-step-preserved
loop-step-preserved c = λ clause.
    let inputs : List (List ℤ) = c.args.log.now.inputs in
    let steps : List Step = c.args.log.now.steps in
    let i : ℕ = c.loop-step.step-index in
    let step : Step = c.step-item.result in
    let before : List (List ℤ) = lists c.loop-step.set.keys in
    let lt : i < length steps = subst (λ (l : List Step). i < length l) c.as_slice-step-items.ensures c.loop-step-test.true in
    let at : step ≡ get_or steps i step = subst (λ (l : List Step). step ≡ get_or l i step) c.as_slice-step-items.ensures c.step-item.is in
    let now : holds (lists c.add_named.new.set.keys) clause ≡ (holds before clause || holds (filter_map (named inputs) step.hints) clause)
    = c.in_ok-add_named.ensures clause
    ∙ ap (λ (l : List (List ℤ)). holds before clause || holds (filter_map (named l) c.as_slice-in-loop-step.result.now) clause) c.as_slice.ensures
    ∙ ap (λ (l : List ℕ). holds before clause || holds (filter_map (named inputs) l) clause) c.as_slice-in-loop-step.ensures in
    held_step inputs steps i step before (lists c.add_named.new.set.keys) clause lt (sym at) (c.loop-step.invariant clause) now

pub returns : goal.returns
returns c = λ clause.
    let inputs : List (List ℤ) = c.args.log.now.inputs in
    let steps : List Step = c.args.log.now.steps in
    let i : ℕ = c.loop-step.step-index in
    let le : length steps ≤ i = subst (λ (l : List Step). length l ≤ i) c.as_slice-step-items.ensures c.loop-step-test.false in
    c.loop-step.invariant clause
    ∙ ap (λ (l : List Step). holds (filter_map (named inputs) (flat_map (λ (s : Step). s.hints) l)) clause) (take_all i steps le)
