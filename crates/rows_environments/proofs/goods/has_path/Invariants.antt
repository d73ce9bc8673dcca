use Rattle.std.proofs.Common.{◌≡◌, drop}
use Rattle.std.specs.List.{list_any}
use Rattle.conda_base.specs.Texts.{is_text}
use Rattle.rows_environments.proofs.goods.has_path.Given as goal

abbrev pub invariant-loop-good : goal.invariant-loop-good
invariant-loop-good l = list_any (λ good. is_text good.path l.path) (drop l.good-index l.goods) ≡ list_any (λ good. is_text good.path l.path) l.goods
