use Rattle.conda_prefix.proofs.PieceLemmas.{goes_on_behind, all_replaced, shorter_rest}
use Rattle.conda_prefix.proofs.text.append_replaced.Goals as goal

pub loop-found-preserved : goal.loop-found-preserved
loop-found-preserved c =
    let cut = rw c.in-Some.is at c.loop-found.invariant.found in
    record {
      goes_on = rw (c.in_ok-extend_from_slice-2.ensures.items, c.in_ok-extend_from_slice.ensures.items)
          (goes_on_behind c.args.placeholder.now c.args.prefix.now c.args.bytes.now c.args.made.now.items c.loop-found.made.items c.loop-found.rest.now _ _ c.loop-found.invariant.goes_on cut);
      found = c.first_cut-found.ensures;
    }

pub loop-found-smaller : goal.loop-found-smaller
loop-found-smaller c = shorter_rest c.args.placeholder.now c.loop-found.rest.now _ _ c.requires.some (rw c.in-Some.is at c.loop-found.invariant.found)

pub returns : goal.returns
returns c =
    let whole = all_replaced c.args.placeholder.now c.args.prefix.now c.args.bytes.now c.args.made.now.items c.loop-found.made.items c.loop-found.rest.now c.loop-found.invariant.goes_on
    (rw c.in_default.is at c.loop-found.invariant.found) in
    rw c.in_ok-extend_from_slice-3.ensures.items whole
