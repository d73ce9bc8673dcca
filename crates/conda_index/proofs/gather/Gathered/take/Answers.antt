use Rattle.std.proofs.Common.{[], ◌∷◌, ◌++◌, ◌∙◌, ap, cond, sym}
use Rattle.std.proofs.lemmas.List.{append-nil}
use Rattle.conda_index.specs.declared.gather.Gathered.{Gathered}
use Rattle.conda_index.proofs.GatherLemmas.{gathered_more}
use Rattle.conda_index.proofs.gather.Gathered.take.Goals as goal

pub returns-in_ok-push : goal.returns-in_ok-push
returns-in_ok-push c =
    let new : Gathered = record { firsts = c.is_kept.new.firsts; records = c.push.new.self } in
    λ before g.
    gathered_more before c.args.pkg c.args.self.now new g c.in_ok-is_kept.ensures.known c.in_ok-is_kept.field-0 c.in_ok-is_kept.ensures.kept
    (c.in_ok-push.ensures.items ∙ ap (λ b. c.args.self.now.records.items ++ cond b (c.args.pkg ∷ []) []) (sym c.if-branch.true))

pub returns-else-branch : goal.returns-else-branch
returns-else-branch c =
    let new : Gathered = record { firsts = c.is_kept.new.firsts; records = c.args.self.now.records } in
    λ before g.
    gathered_more before c.args.pkg c.args.self.now new g c.in_ok-is_kept.ensures.known c.in_ok-is_kept.field-0 c.in_ok-is_kept.ensures.kept
    (sym (append-nil c.args.self.now.records.items)
    ∙ ap (λ b. c.args.self.now.records.items ++ cond b (c.args.pkg ∷ []) []) (sym c.if-branch.false))
