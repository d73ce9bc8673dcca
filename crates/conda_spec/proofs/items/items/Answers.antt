use Rattle.std.proofs.Common.{None, sym, ap, subst, ◌∙◌, arith, rules}
use Rattle.conda_spec.specs.declared.given.Given.{Given}
use Rattle.conda_base.specs.Reads.{Gives}
use Rattle.conda_clause.specs.Faults.{spec_fault_of}
use Rattle.conda_spec.specs.Reading.{SpecRead}
use Rattle.conda_spec.proofs.ItemLemmas.{Fails}
use Rattle.conda_spec.specs.Reading.{items_of, items_read}
use Rattle.conda_spec.proofs.ItemLemmas.{items_fail, items_last, items_next}
use Rattle.conda_spec.proofs.items.items.Goals as goal

pub returns-clause-read : goal.returns-clause-read
returns-clause-read c =
    let P : SpecRead Given → Type 0 = Gives spec_fault_of c.item-2.result in
    subst P (ap (items_read c.loop-first.given c.loop-first.at) (sym c.in_default.ensures.items) ∙ c.loop-first.invariant.3)
    (items_last c.item-2.result c.loop-first.given c.loop-first.at c.loop-first.left.now c.item-2.ensures.read)

pub returns-in-Err-clause-read : goal.returns-in-Err-clause-read
returns-in-Err-clause-read c =
    let P : SpecRead Given → Type 0 = Fails c.in-Err.e in
    subst P (ap (items_read c.loop-first.given c.loop-first.at) (sym c.in-Some.ensures.items) ∙ c.loop-first.invariant.3)
    (items_fail c.in-Err.e c.loop-first.given c.loop-first.at c.in-Some.first.now (items_of None c.in-Some.rest.now) c.in-Err.ensures.read)

pub loop-first-preserved : goal.loop-first-preserved
loop-first-preserved c = (
  search rules,
  omega (arith, c.loop-first.invariant.1, c.in-Some.ensures.len),
  c.in-Ok.ensures.good,
  sym (items_next c.loop-first.given c.in-Ok.next c.loop-first.at c.in-Some.first.now
      (items_of None c.in-Some.rest.now) c.in-Ok.ensures.read)
      ∙ ap (items_read c.loop-first.given c.loop-first.at) (sym c.in-Some.ensures.items)
      ∙ c.loop-first.invariant.3,
)
