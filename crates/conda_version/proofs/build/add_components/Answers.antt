use Rattle.std.proofs.Common.{◌≡◌, ◌+◌, ◌∷◌, ◌++◌, [], List, ℕ, drop, map, take, append_assoc, sym, subst, ap, ◌∙◌}
use Rattle.std.specs.List.{slice_split}
use Rattle.conda_version.specs.Grammar.{HasShortRuns, component_of}
use Rattle.conda_version.proofs.PieceLemmas.{is_dot, split_at_place, split_without}
use Rattle.conda_version.proofs.RunLemmas.{short_of_drop, short_of_take}
use Rattle.conda_version.proofs.build.add_components.Goals as goal

pub put_runs-requires-clause-short : goal.put_runs-requires-clause-short
put_runs-requires-clause-short c =
    subst HasShortRuns (sym c.split_at.ensures.front) (short_of_take c.in-Some.end c.loop-end.left.now c.loop-end.invariant.1)

pub loop-end-preserved : goal.loop-end-preserved
loop-end-preserved c =
    let left : List ℕ = c.loop-end.left.now in
    let end : ℕ = c.in-Some.end in
    let made = c.loop-end.made in
    let piece : c.put_runs.new.runs.items ≡ component_of (take end left) =
    c.in_ok-put_runs.ensures ∙ ap component_of c.split_at.ensures.front in
    let added : c.add.new.self ≡ made ++ component_of (take end left) ∷ [] = c.in_ok-add.ensures.ok ∙ ap (λ p. made ++ p ∷ []) piece in
    let back : c.split_at-in-Some.result.1.now ≡ drop (end + 1) left = c.split_at-in-Some.ensures.back in (
      c.in_ok-add.ensures.taken,
      subst HasShortRuns (sym back) (short_of_drop (end + 1) left c.loop-end.invariant.1),
      ap (λ xs. xs ++ map component_of (slice_split is_dot c.split_at-in-Some.result.1.now)) added
          ∙ ap (λ bs. (made ++ component_of (take end left) ∷ []) ++ map component_of (slice_split is_dot bs)) back
          ∙ append_assoc made (component_of (take end left) ∷ []) (map component_of (slice_split is_dot (drop (end + 1) left)))
          ∙ ap (λ ps. made ++ map component_of ps) (sym (split_at_place left end c.in-Some.ensures))
          ∙ c.loop-end.invariant.2,
    )

pub returns : goal.returns
returns c =
    let left : List ℕ = c.loop-end.left.now in
    let made = c.loop-end.made in
    c.in_ok-add-2.ensures.ok
    ∙ ap (λ p. made ++ p ∷ []) c.in_ok-put_runs-2.ensures
    ∙ ap (λ ps. made ++ map component_of ps) (sym (split_without left c.in_default.ensures))
    ∙ c.loop-end.invariant.2
