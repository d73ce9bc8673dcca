use Rattle.std.proofs.Common.{ℕ, List, Bool, sym, ap, ◌∙◌}
use Rattle.std.specs.Prelude.{map, option_copied}
use Rattle.std.proofs.lemmas.Bool.{and_left, and_right}
use Rattle.std.specs.BTreeMap.{get_by}
use Rattle.std.specs.Cmp.Lexicographic.{slice_cmp}
use Rattle.std.specs.Ordering.{nat_cmp}
use Rattle.conda_goods.specs.Claims.{claimed, is_least_yet, other_above}
use Rattle.conda_goods.proofs.Holding.{meets_is}
use Rattle.conda_goods.proofs.Naming.{least_step, left, taken}
use Rattle.conda_goods.proofs.conflict.least_conflict.Goals as goal
use Rattle.conda_goods.proofs.conflict.least_conflict.Goals.{then-is_less+then-meets_other, else-is_less, else-is_less-via-then-is_less+else-meets_other, else-is_less-via-else-is_less}

pub loop-claim-preserved : goal.loop-claim-preserved
loop-claim-preserved c =
    let claims = map claimed c.args.claims.now in
    let item = c.claim-item.result in
    let holder = option_copied item.holder in
    let path : List ℕ = item.path.now in
    let least = option_copied c.loop-claim.least in
    let first : Bool = is_least_yet path least in
    let meets : Bool = other_above claims holder path in
    let is_meets = meets_is claims (λ q. get_by (λ k. slice_cmp nat_cmp q k.now) c.in_ok-at.at) holder in
    let step = least_step c.args.claims.now c.loop-claim.claim-index item least (option_copied c.if-is_less.least) c.loop-claim-test.true c.claim-item.is in
    elim c.if-is_less.branch [
      | then-is_less+then-meets_other w ↦ step (taken first meets path least (option_copied c.if-is_less.least) (sym c.is_less.ensures ∙ w.if-is_less.true) (ap (other_above claims holder) (sym w.as_str.ensures.same) ∙ sym (is_meets w.as_str.result.now w.meets_other.result c.in_ok-at.ensures w.meets_other.ensures) ∙ w.if-meets_other.true) (ap option_copied w.least-is)) ∙ c.loop-claim.invariant
      | else-is_less w ↦ elim w.else-is_less.branch [
        | else-is_less-via-then-is_less+else-meets_other v ↦ step (left first meets path least (option_copied c.if-is_less.least) (and_right first meets (ap (other_above claims holder) (sym v.as_str.ensures.same) ∙ sym (is_meets v.as_str.result.now v.meets_other.result c.in_ok-at.ensures v.meets_other.ensures) ∙ v.if-meets_other.false)) (ap option_copied w.least-is)) ∙ c.loop-claim.invariant
        | else-is_less-via-else-is_less v ↦ step (left first meets path least (option_copied c.if-is_less.least) (and_left first meets (sym c.is_less.ensures ∙ v.if-is_less.false)) (ap option_copied w.least-is)) ∙ c.loop-claim.invariant
      ]
    ]
