use Rattle.std.proofs.Common.{◌≡◌, ◌∙◌, ap, arith, length, min, sym}
use Rattle.std.specs.Cmp.Lexicographic.{slice_cmp}
use Rattle.std.specs.Ordering.{nat_cmp}
use Rattle.conda_encode.specs.Matching.{lowered}
use Rattle.conda_index.proofs.NameLemmas.{shorter_first}
use Rattle.conda_index.proofs.names.compare_names.Goals as goal

pub returns : goal.returns
returns c =
    let left = c.as_bytes-left.result.now in
    let right = c.as_bytes-right.result.now in
    let end : c.loop-at.at ≡ min (length left) (length right) =
    omega (arith, c.min-at-end.ensures, c.loop-at.auto.at-end, c.loop-at-test.false)
    in
    c.cmp.ensures ∙ sym (shorter_first left right c.loop-at.at end) ∙ c.loop-at.invariant
    ∙ ap (λ l. slice_cmp nat_cmp (lowered l) (lowered right)) c.as_bytes-left.ensures.value
    ∙ ap (λ l. slice_cmp nat_cmp (lowered c.args.first.now) (lowered l)) c.as_bytes-right.ensures.value
