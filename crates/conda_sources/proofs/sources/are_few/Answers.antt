use Rattle.std.proofs.Common.{arith, sym, true≢false}
use Rattle.conda_index.proofs.PartLemmas.{with_one}
use Rattle.conda_sources.proofs.sources.are_few.Goals as goal

pub returns-then-more-gt-INDEX_LIMIT : goal.returns-then-more-gt-INDEX_LIMIT
returns-then-more-gt-INDEX_LIMIT c =
    let all = with_one c.args.parts.now c.loop-part.part-index c.part-item.result c.loop-part-test.true (sym c.part-item.is) in
    (λ h. absurd (true≢false (sym h)), λ h. absurd (omega (arith, all, h, c.len-more.ensures)))
