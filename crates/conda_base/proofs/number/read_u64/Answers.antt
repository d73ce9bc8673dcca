use Rattle.std.proofs.Common.{◌^◌, arith, sym, ◌∙◌}
use Rattle.conda_base.proofs.NumberLemmas.{number_means, number_none}
use Rattle.conda_base.proofs.number.read_u64.Goals as goal

pub returns-then-has_leading_zero-clause-only : goal.returns-then-has_leading_zero-clause-only
returns-then-has_leading_zero-clause-only c =
    number_none (2 ^ 64) c.args.text.now (omega arith) (sym c.has_leading_zero.ensures ∙ c.if-has_leading_zero.true)

pub returns-clause-decimal : goal.returns-clause-decimal
returns-clause-decimal c =
    (number_means (2 ^ 64) c.args.text.now c.digits_u64.result (omega arith) (sym c.has_leading_zero.ensures ∙ c.if-has_leading_zero.false) (sym c.digits_u64.ensures)).0

pub returns-clause-only : goal.returns-clause-only
returns-clause-only c =
    (number_means (2 ^ 64) c.args.text.now c.digits_u64.result (omega arith) (sym c.has_leading_zero.ensures ∙ c.if-has_leading_zero.false) (sym c.digits_u64.ensures)).1
