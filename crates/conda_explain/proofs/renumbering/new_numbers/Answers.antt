use Rattle.std.proofs.Common.{◌≡◌, ◌+◌, ℤ, Global, Vec, arith, length}
use Rattle.std.proofs.lemmas.List.{length-map}
use Rattle.conda_explain.proofs.Keys.{lists, range_step}
use Rattle.conda_explain.proofs.renumbering.new_numbers.Goals as goal

pub loop-at-preserved : goal.loop-at-preserved
loop-at-preserved c =
    let few : length (lists c.args.places.now.keys) ≡ c.len.result = omega (arith, length-map c.args.places.now.keys (λ (k : Vec ℤ Global). k.items), c.len.ensures.len) in
    let e : c.len.result + 1 + c.loop-at.at ≡ length (lists c.args.places.now.keys) + 1 + c.loop-at.at = omega arith in
    range_step c.loop-input.numbers.items c.loop-at.numbers.items c.push-in-loop-at.new.self.items (length (lists c.args.places.now.keys) + 1) c.loop-at.at
    (c.len.result + 1 + c.loop-at.at) c.loop-at.invariant e c.in_ok-push-2.ensures.items
