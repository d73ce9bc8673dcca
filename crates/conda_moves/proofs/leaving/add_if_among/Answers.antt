use Rattle.std.proofs.Common.{◌≡◌, true, cond, [], ◌∷◌, ◌++◌, map, ap, sym, ◌∙◌}
use Rattle.std.proofs.lemmas.List.{map-append}
use Rattle.conda_changes.specs.Paths.{is_in}
use Rattle.conda_moves.proofs.leaving.add_if_among.Goals as goal

pub returns-in_ok-push : goal.returns-in_ok-push
returns-in_ok-push c =
    let before = map (λ r. r.now) c.args.going.now.items in
    let among : is_in c.args.dists.now c.args.one.now.rec.dist ≡ true = ap (is_in c.args.dists.now) (sym c.text.ensures.same)
    ∙ sym c.contains.ensures ∙ c.if-contains.true in
    ap (map (λ r. r.now)) c.in_ok-push.ensures.items ∙ map-append (λ r. r.now) c.args.going.now.items (c.args.one ∷ [])
    ∙ ap (λ b. before ++ cond b (c.args.one.now ∷ []) []) (sym among)
