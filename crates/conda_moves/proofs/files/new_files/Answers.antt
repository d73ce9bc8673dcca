use Rattle.std.proofs.Common.{◌≡◌, ◌++◌, ◌∷◌, [], ◌+◌, map, take, arith, ap, subst, sym, ◌∙◌}
use Rattle.conda_moves.specs.Coming.{file_part}
use Rattle.conda_moves.proofs.ListLemmas.{next_mapped}
use Rattle.conda_moves.proofs.files.new_files.Goals as goal

pub loop-one-preserved : goal.loop-one-preserved
loop-one-preserved c =
    let i = c.loop-one.one-index in
    subst (λ linked. c.push.new.self.items ≡ map file_part (take (i + 1) linked)) c.as_slice-one-items.ensures
    (c.in_ok-push.ensures.items
    ∙ ap (λ parts. parts ++ c.in_ok-file_part.field-0 ∷ [])
    (c.loop-one.invariant ∙ ap (λ linked. map file_part (take i linked)) (sym c.as_slice-one-items.ensures))
    ∙ next_mapped file_part c.as_slice-one-items.result.now i c.one-item.result c.in_ok-file_part.field-0
    (omega arith) c.one-item.is c.in_ok-file_part.ensures)
