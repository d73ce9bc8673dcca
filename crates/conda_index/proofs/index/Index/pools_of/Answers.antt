use Rattle.std.proofs.Common.{◌≡◌, ◌∙◌, Contains, subst, sym}
use Rattle.std.proofs.lemmas.List.{take_all}
use Rattle.std.proofs.lemmas.List.Sorted.{Contains-permutation, IsPermutation-sym}
use Rattle.conda_base.specs.Texts.{Ascending}
use Rattle.conda_index.specs.Reached.{names_of}
use Rattle.conda_index.proofs.RequestLemmas.{ascends}
use Rattle.conda_index.proofs.index.Index.pools_of.Goals as goal

pub returns-clause-names : goal.returns-clause-names
returns-clause-names c =
    let all : names_of c.loop-name.pools.items ≡ c.sort.new.self.keys =
    c.loop-name.invariant.names ∙ take_all c.loop-name.name-index c.as_slice-name-items.result.now c.loop-name-test.false ∙ c.as_slice-name-items.ensures.keys
    in
    let order = c.in_ok-sort.ensures.reordered.0 in
    λ name. (
      λ h.
          Contains-permutation c.sort.new.self.keys c.args.names.keys name
          (IsPermutation-sym c.args.names.keys c.sort.new.self.keys order) (subst (λ l. Contains l name) all h),
      λ h. subst (λ l. Contains l name) (sym all) (Contains-permutation c.args.names.keys c.sort.new.self.keys name order h),
    )

pub returns-clause-ascending : goal.returns-clause-ascending
returns-clause-ascending c =
    let all : names_of c.loop-name.pools.items ≡ c.sort.new.self.keys =
    c.loop-name.invariant.names ∙ take_all c.loop-name.name-index c.as_slice-name-items.result.now c.loop-name-test.false ∙ c.as_slice-name-items.ensures.keys
    in
    subst Ascending (sym all) (ascends c.sort.new.self.keys c.in_ok-sort.ensures.sorted c.in_ok-sort.ensures.unique)

pub returns-clause-records : goal.returns-clause-records
returns-clause-records c = c.loop-name.invariant.records
