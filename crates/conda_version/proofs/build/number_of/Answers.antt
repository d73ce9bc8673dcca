use Rattle.std.proofs.Common.{◌<◌, arith, get_or}
use Rattle.conda_version.proofs.RunLemmas.{digit_at, digits_fit}
use Rattle.conda_version.proofs.build.number_of.Goals as goal

pub overflow_mul-n : goal.overflow_mul-n
overflow_mul-n c =
    let fits = digits_fit c.loop-digit.n c.loop-digit.digit-index c.loop-digit.invariant.0 (omega (arith, c.requires.few)) in
    omega (arith, fits)

pub overflow_add-n : goal.overflow_add-n
overflow_add-n c =
    let fits = digits_fit c.loop-digit.n c.loop-digit.digit-index c.loop-digit.invariant.0 (omega (arith, c.requires.few)) in
    let digit : get_or c.args.digits.now c.loop-digit.digit-index 0 < 58 = digit_at _ _ c.loop-digit.invariant.1 c.loop-digit-test.true in
    omega (arith, fits, digit, c.from.ensures)
