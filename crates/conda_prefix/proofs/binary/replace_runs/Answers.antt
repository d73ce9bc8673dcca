use Rattle.conda_prefix.proofs.RunLemmas.{goes_on, goes_on_behind, all_replaced, shorter_rest, length_stays}
use Rattle.conda_prefix.proofs.binary.replace_runs.Goals as goal

pub loop-found-init : goal.loop-found-init
loop-found-init c = record {
  goes_on = rw c.in_ok-made.ensures.items (goes_on c.args.placeholder.now c.args.prefix.now c.args.bytes.now);
  found = c.requires.first;
}

pub loop-found-preserved : goal.loop-found-preserved
loop-found-preserved c =
    let put = c.in_ok-append_padded.ensures in
    record {
      goes_on = rw (c.in_ok-push.ensures.items, put.2, c.in_ok-extend_from_slice.ensures.items)
          (goes_on_behind c.args.placeholder.now c.args.prefix.now c.args.bytes.now c.loop-found.made.items c.loop-found.rest.now _ _ _ put.0 c.loop-found.invariant.goes_on
          (rw c.in-Some.is at c.loop-found.invariant.found) put.1);
      found = c.first_run-found.ensures;
    }

pub loop-found-smaller : goal.loop-found-smaller
loop-found-smaller c = shorter_rest c.args.placeholder.now c.loop-found.rest.now _ _ _ (rw c.in-Some.is at c.loop-found.invariant.found)

pub returns-clause-replaced : goal.returns-clause-replaced
returns-clause-replaced c =
    rw c.in_ok-extend_from_slice-2.ensures.items
    (all_replaced c.args.placeholder.now c.args.prefix.now c.args.bytes.now c.loop-found.made.items c.loop-found.rest.now c.loop-found.invariant.goes_on (rw c.in_default.is at c.loop-found.invariant.found))

pub returns-clause-length : goal.returns-clause-length
returns-clause-length c =
    rw c.in_ok-extend_from_slice-2.ensures.items
    (length_stays c.args.placeholder.now c.args.prefix.now c.args.bytes.now _ (rw c.requires.width at c.requires.short)
    (all_replaced c.args.placeholder.now c.args.prefix.now c.args.bytes.now c.loop-found.made.items c.loop-found.rest.now c.loop-found.invariant.goes_on (rw c.in_default.is at c.loop-found.invariant.found)))
