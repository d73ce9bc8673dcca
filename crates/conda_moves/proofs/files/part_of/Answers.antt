use Rattle.std.proofs.Common.{[], ◌∷◌, ◌++◌, ap, subst, ◌∙◌}
use Rattle.std.specs.List.Sorted.{IsPermutation}
use Rattle.conda_moves.proofs.ListLemmas.{alone}
use Rattle.conda_moves.proofs.files.part_of.Goals as goal

pub returns : goal.returns
returns c =
    ap (λ goods. record { owner = c.args.owner; goods = goods })
    (alone c.args.good c.in_ok-make.field-0
    (subst (λ goods. IsPermutation goods c.in_ok-make.field-0)
    (c.in_ok-push.ensures.items ∙ ap (λ goods. goods ++ c.args.good ∷ []) c.new-goods.ensures.items) c.in_ok-make.ensures.same))
