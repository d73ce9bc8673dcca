use Rattle.std.proofs.Common.{◌≡◌, ◌∙◌, false, cond, filter, position, None, sym, ap}
use Rattle.conda_resolve.specs.Choice.{has_name, is_fresh, is_installed}
use Rattle.conda_resolve.proofs.ranking.installed_place.Goals as goal

pub returns : goal.returns
returns c =
    let own : c.as_slice.result.now ≡ filter (has_name c.args.name.now) c.args.installed.now = c.as_slice.ensures.value ∙ c.in_ok-own.ensures in
    let fresh : is_fresh c.args.asked.now c.args.name.now ≡ false = (let a = c.is_fresh.ensures in let b = c.if-is_fresh.false in cc) in
    c.first_installed.ensures ∙ ap (λ list. position (is_installed list) c.args.recs.now) own
    ∙ sym (ap (λ b. cond b None (position (is_installed (filter (has_name c.args.name.now) c.args.installed.now)) c.args.recs.now)) fresh)
