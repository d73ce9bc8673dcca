use Rattle.std.proofs.Common.{ap, sym, ◌∙◌}
use Rattle.std.specs.FinMap as map
use Rattle.conda_dev.proofs.TreeLemmas.{moved_copy, moved_nothing}
use Rattle.conda_dev.proofs.tree.Tree.shift.Goals as goal

pub returns-in-None-clause-ok : goal.returns-in-None-clause-ok
returns-in-None-clause-ok c = moved_nothing c.args.self.now c.args.from.now c.args.to.now (sym c.in-None.ensures)

pub returns-in_ok-put-in-Some-clause-ok : goal.returns-in_ok-put-in-Some-clause-ok
returns-in_ok-put-in-Some-clause-ok c =
    c.erase.ensures
    ∙ ap (λ tree. map.remove tree c.args.from.now)
    (c.in_ok-put-in-Some.ensures.ok ∙ ap (λ p. map.insert c.args.self.now p c.in_ok-node-in-Some.node) c.in_ok-copy-in-Some.ensures ∙ ap (λ n. map.insert c.args.self.now c.args.to.now n) c.in_ok-node-in-Some.ensures)
    ∙ moved_copy c.args.self.now c.args.from.now c.args.to.now c.in-Some.node.now (sym c.in-Some.ensures) c.requires
