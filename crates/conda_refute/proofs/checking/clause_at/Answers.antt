use Rattle.conda_refute.proofs.Lists.{named_step, named_none}
use Rattle.conda_refute.proofs.checking.clause_at.Goals as goal

pub returns-then-at-before : goal.returns-then-at-before
returns-then-at-before c = named_step c.args.inputs.now c.args.before.now c.args.number c.index-before-at.result c.if-number-eq0.false c.if-at-inputs.false c.if-at-before.true

pub returns : goal.returns
returns c = named_none c.args.inputs.now c.args.before.now c.args.number c.if-number-eq0.false c.if-at-inputs.false c.if-at-before.false
