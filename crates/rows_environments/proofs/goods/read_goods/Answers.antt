use Rattle.std.proofs.Common.{◌≡◌, ◌≢◌, ℕ, List, sym, subst, ◌∙◌}
use Rattle.std.proofs.lemmas.Slice.Eq.{bytes_eq-Decides}
use Rattle.std.specs.List.{AllPairs}
use Rattle.conda_base.specs.Texts.{is_text}
use Rattle.conda_path.specs.declared.values.Good.{Good}
use Rattle.rows_environments.proofs.Apart.{pushed}
use Rattle.rows_environments.proofs.goods.read_goods.Goals as goal

pub loop-size-preserved : goal.loop-size-preserved
loop-size-preserved c =
    let path_of : Good → List ℕ = λ good. good.path in
    let none = rw c.as_slice.ensures.value at (sym c.has_path.ensures ∙ c.if-has_path.false) in
    subst (AllPairs (λ (a : Good) (b : Good). a.path ≢ b.path)) (sym c.in_ok-push.ensures.items)
    (pushed path_of is_text (λ a b e. (bytes_eq-Decides a b).1 e) (λ a b. ⊥) c.loop-size.goods.items _ c.loop-size.invariant none)
