use Rattle.std.proofs.Common.{arith, ◌∙◌}
use Rattle.conda_resolve.proofs.Asks.{at_contains, found_so, none_all, none_so}
use Rattle.conda_resolve.proofs.asking.first_open.Goals as goal

pub can_be_true-requires-clause-low : goal.can_be_true-requires-clause-low
can_be_true-requires-clause-low c =
    let i = at_contains c.args.candidates.now c.loop-candidate.candidate-index (omega arith) in
    (c.requires.candidates _ i).0

pub can_be_true-requires-clause-high : goal.can_be_true-requires-clause-high
can_be_true-requires-clause-high c =
    let i = at_contains c.args.candidates.now c.loop-candidate.candidate-index (omega arith) in
    let high = (c.requires.candidates _ i).1 in
    omega (arith, high, c.loop-candidate.invariant.vars)

pub returns-then-branch-clause-found : goal.returns-then-branch-clause-found
returns-then-branch-clause-found c =
    let inv = c.loop-candidate.invariant in
    found_so c.loop-candidate.solver.vars c.args.solver.now.vars c.loop-candidate.solver.clauses c.args.solver.now.clauses c.loop-candidate.assumed.items c.args.assumed.now.items
    c.can_be_true.new.assumed.items c.can_be_true.new.sides c.args.candidates.now c.loop-candidate.candidate-index inv.vars inv.clauses inv.assumed (omega arith) inv.none
    (c.can_be_true.ensures.open (cc)) (c.can_be_true.ensures.more (cc)) (c.can_be_true.ensures.within (cc)) (c.can_be_true.ensures.model (cc))

pub loop-candidate-preserved : goal.loop-candidate-preserved
loop-candidate-preserved c =
    let inv = c.loop-candidate.invariant in
    record {
      vars = c.can_be_true.ensures.vars ∙ inv.vars;
      clauses = c.can_be_true.ensures.clauses ∙ inv.clauses;
      assumed = c.can_be_true.ensures.assumed (cc) ∙ inv.assumed;
      sides = c.can_be_true.ensures.sides (cc) ∙ inv.sides;
      none = none_so c.loop-candidate.solver.clauses c.args.solver.now.clauses c.loop-candidate.assumed.items c.args.assumed.now.items c.args.candidates.now c.loop-candidate.candidate-index
          inv.clauses inv.assumed (omega arith) inv.none (c.can_be_true.ensures.none (cc));
    }

pub returns-clause-found : goal.returns-clause-found
returns-clause-found c =
    none_all c.args.solver.now.clauses c.args.assumed.now.items c.args.candidates.now c.loop-candidate.candidate-index (omega arith) c.loop-candidate.invariant.none
