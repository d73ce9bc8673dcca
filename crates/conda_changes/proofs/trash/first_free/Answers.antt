use Rattle.std.proofs.Common.{◌≡◌, true, ap, subst, sym, ◌∙◌}
use Rattle.conda_path.specs.Lanes.{trash_path}
use Rattle.conda_changes.specs.Counting.{AreLeftOver}
use Rattle.conda_changes.specs.Paths.{is_in}
use Rattle.conda_changes.proofs.CountLemmas.{more_left_over}
use Rattle.conda_changes.proofs.trash.first_free.Goals as goal

pub loop-preserved : goal.loop-preserved
loop-preserved c =
    let here : is_in c.args.left.now (trash_path c.args.number c.loop.k) ≡ true
    = ap (is_in c.args.left.now) (sym (c.as_str.ensures.same ∙ c.in_ok-path.ensures)) ∙ sym c.contains.ensures ∙ c.if-not-contains.false in
    subst (AreLeftOver c.args.left.now c.args.number c.args.start) (sym c.in-Some.ensures.1)
    (more_left_over c.args.left.now c.args.number c.args.start c.loop.k c.loop.invariant here)
