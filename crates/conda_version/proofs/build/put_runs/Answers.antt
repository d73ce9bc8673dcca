use Rattle.std.proofs.Common.{◌≡◌, ◌<◌, ◌∷◌, ◌++◌, [], List, ℕ, drop, length, map, take, append_assoc, arith, sym, subst, ap, ◌∙◌}
use Rattle.std.proofs.lemmas.Bool.Decides.{nat_tests}
use Rattle.conda_version.specs.Grammar.{HasShortRuns, HasValue, run_len, runs_of}
use Rattle.conda_version.specs.Versions.{run_of}
use Rattle.conda_version.proofs.RunLemmas.{first_run_value, runs_first, short_of_drop}
use Rattle.conda_version.proofs.build.put_runs.Goals as goal

pub run_of-requires : goal.run_of-requires
run_of-requires c =
    let left : List ℕ = c.loop-left.left.now in
    let front : c.split_at.result.0.now ≡ take (run_len left) left =
    c.split_at.ensures.front ∙ ap (λ n. take n left) c.run_len.ensures.value in
    subst HasValue (sym front) (first_run_value left c.loop-left.invariant.0)

pub loop-left-preserved : goal.loop-left-preserved
loop-left-preserved c =
    let left : List ℕ = c.loop-left.left.now in
    let n : ℕ = run_len left in
    let runs = c.loop-left.runs.items in
    let some : 0 < length left = grind (arith, nat_tests, c.loop-left-test.ensures) in
    let front : c.split_at.result.0.now ≡ take n left = c.split_at.ensures.front ∙ ap (λ k. take k left) c.run_len.ensures.value in
    let back : c.split_at.result.1.now ≡ drop n left = c.split_at.ensures.back ∙ ap (λ k. drop k left) c.run_len.ensures.value in
    let pushed : c.push-in-loop-left.new.self.items ≡ runs ++ run_of (take n left) ∷ [] =
    c.in_ok-push-2.ensures.items ∙ ap (λ r. runs ++ r ∷ []) (c.in_ok-run_of.ensures ∙ ap run_of front) in (
      subst HasShortRuns (sym back) (short_of_drop n left c.loop-left.invariant.0),
      ap (λ xs. xs ++ map run_of (runs_of c.split_at.result.1.now)) pushed
          ∙ ap (λ bs. (runs ++ run_of (take n left) ∷ []) ++ map run_of (runs_of bs)) back
          ∙ append_assoc runs (run_of (take n left) ∷ []) (map run_of (runs_of (drop n left)))
          ∙ ap (λ rs. runs ++ map run_of rs) (sym (runs_first left some))
          ∙ c.loop-left.invariant.1,
    )
