use Rattle.std.proofs.Common.{sym, ◌∙◌}
use Rattle.conda_placing.specs.Placing.{script_place}
use Rattle.conda_placing.specs.declared.placing.Origin.{Origin}
use Rattle.conda_placing.proofs.PutLemmas.{allowed_after, no_script_link}
use Rattle.conda_placing.proofs.rows.put_script.Goals as goal

pub returns-clause-allowed : goal.returns-clause-allowed
returns-clause-allowed c =
    let place = script_place c.args.entry.now in
    allowed_after c.put.result c.args.abilities c.args.made.now.items c.put.new.made.items
    (record { path = place; kind = c.as_able-kind.result; from = Origin.Entry c.args.at }) c.requires.allowed
    (c.put.ensures.made place c.in_ok-place.ensures) (c.put.ensures.short place c.in_ok-place.ensures) (c.put.ensures.new place c.in_ok-place.ensures)
    (λ link. no_script_link c.args.abilities.exec (sym c.as_able-kind.ensures ∙ link.kind))
