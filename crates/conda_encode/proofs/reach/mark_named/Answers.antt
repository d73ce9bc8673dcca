use Rattle.conda_encode.proofs.Nonzero.{list_named}
use Rattle.conda_encode.proofs.Reaching.{named_marked, named_numbers, named_sound}
use Rattle.conda_encode.proofs.reach.mark_named.Goals as goal

pub mark_all-requires-clause-numbers : goal.mark_all-requires-clause-numbers
mark_all-requires-clause-numbers c =
    named_numbers c.args.pools.now c.args.spec.now _ c.as_slice.result.now
    (list_named c.args.pools.now c.args.spec.now c.split.new.self c.in_ok-at.at c.index.result.now c.as_slice.result.now c.in_ok-at.ensures.split c.index.ensures c.as_slice.ensures.value)
    c.requires.count

pub returns-clause-sound : goal.returns-clause-sound
returns-clause-sound c =
    named_sound c.args.pools.now c.args.items.now c.args.model.now c.args.marks.now c.mark_all.new.marks c.args.spec.now c.as_slice.result.now
    (list_named c.args.pools.now c.args.spec.now c.split.new.self c.in_ok-at.at c.index.result.now c.as_slice.result.now c.in_ok-at.ensures.split c.index.ensures c.as_slice.ensures.value)
    c.requires.sound c.requires.reaches c.mark_all.ensures.only

pub returns-clause-marked : goal.returns-clause-marked
returns-clause-marked c =
    named_marked c.args.pools.now c.args.model.now c.mark_all.new.marks c.args.spec.now c.as_slice.result.now
    (list_named c.args.pools.now c.args.spec.now c.split.new.self c.in_ok-at.at c.index.result.now c.as_slice.result.now c.in_ok-at.ensures.split c.index.ensures c.as_slice.ensures.value)
    c.mark_all.ensures.covers
