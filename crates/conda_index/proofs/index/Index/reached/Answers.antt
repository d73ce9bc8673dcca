use Rattle.std.proofs.Common.{◌∙◌, ap, arith, sym}
use Rattle.std.specs.Prelude.{nat_eq}
use Rattle.std.specs.Cmp.Lexicographic.{pointwise}
use Rattle.std.proofs.lemmas.Option.{get_or_from_slice_get, slice_get_within}
use Rattle.indexmap.specs.IndexSet.{insert_all}
use Rattle.conda_index.specs.Pools.{pool_of}
use Rattle.conda_index.specs.Walk.{needs_of}
use Rattle.conda_index.proofs.ReachLemmas.{begins, ends, past, walks}
use Rattle.conda_index.proofs.index.Index.reached.Goals as goal

pub loop-at-init : goal.loop-at-init
loop-at-init c = begins c.args.self.now c.args.asked.now _ c.in_ok-names.ensures

pub loop-at-preserved : goal.loop-at-preserved
loop-at-preserved c =
    walks c.args.self.now c.args.asked.now c.loop-at.names.keys c.add_needs.new.names.keys c.loop-at.at c.in-Some.name.now
    (slice_get_within c.loop-at.names.keys c.loop-at.at c.in-Some.name.now (sym c.in-Some.ensures.key))
    (sym (get_or_from_slice_get c.loop-at.names.keys c.loop-at.at c.in-Some.name.now c.in-Some.name.now (sym c.in-Some.ensures.key)))
    (c.in_ok-add_needs.ensures ∙ ap (λ p. insert_all (pointwise nat_eq) c.loop-at.names.keys (needs_of p))
    (c.pool-pool.ensures.pool ∙ ap (pool_of c.args.self.now) c.as_str.ensures))
    c.loop-at.invariant

pub returns-in-None : goal.returns-in-None
returns-in-None c =
    ends c.args.self.now c.args.asked.now c.loop-at.names.keys c.loop-at.at (past c.loop-at.names.keys c.loop-at.at (sym c.in-None.ensures.key))
    c.loop-at.invariant

pub returns : goal.returns
returns c =
    ends c.args.self.now c.args.asked.now c.loop-at.names.keys c.loop-at.at (omega (arith, c.len.ensures.small, c.len.ensures.len)) c.loop-at.invariant
