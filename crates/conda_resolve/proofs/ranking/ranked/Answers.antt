use Rattle.std.proofs.Common.{◌≡◌, ◌∙◌, ℕ, List, None, cond, filter, length, position, sym, ap, subst, arith}
use Rattle.conda_encode.proofs.Starts.{length-starts}
use Rattle.conda_resolve.specs.Choice.{has_name, is_fresh, is_installed}
use Rattle.conda_resolve.proofs.Ranks.{first_fits, front_empty, front_of, front_pushed, place_within, ranked_listed, ranked_nowhere}
use Rattle.conda_resolve.proofs.ranking.ranked.Goals.{in-Some-2+in_ok-push, in_default-2}
use Rattle.conda_resolve.proofs.ranking.ranked.Goals as goal

pub returns-in_default : goal.returns-in_default
returns-in_default c =
    c.new-list.ensures.items ∙ sym (ranked_nowhere c.args.pools.now c.args.asked.now c.args.installed.now c.args.name.now c.requires.request c.in_default.ensures)

pub index-first-requires : goal.index-first-requires
index-first-requires c =
    omega (arith, c.in-Some.ensures.0, ap length c.requires.starts, length-starts 1 c.args.pools.now)

pub overflow_cast-place : goal.overflow_cast-place
overflow_cast-place c =
    let fits = first_fits c.args.pools.now c.args.asked.now c.args.places.now.starts.items c.in-Some.at c.index-first.result.now c.index-pools-at.result c.as_slice-recs.result.now
    c.requires.request c.requires.starts c.in-Some.ensures.0 c.index-first.ensures c.as_slice-recs.ensures in
    let within = place_within (is_installed (filter (has_name c.as_str.result.now) c.args.installed.now)) (is_fresh c.args.asked.now c.as_str.result.now) c.as_slice-recs.result.now
    c.in_ok-place.field-0 c.in-Some-2.place c.in_ok-place.ensures c.in-Some-2.is in
    omega (arith, fits, within)

pub overflow_add-first : goal.overflow_add-first
overflow_add-first c =
    let fits = first_fits c.args.pools.now c.args.asked.now c.args.places.now.starts.items c.in-Some.at c.index-first.result.now c.index-pools-at.result c.as_slice-recs.result.now
    c.requires.request c.requires.starts c.in-Some.ensures.0 c.index-first.ensures c.as_slice-recs.ensures in
    let within = place_within (is_installed (filter (has_name c.as_str.result.now) c.args.installed.now)) (is_fresh c.args.asked.now c.as_str.result.now) c.as_slice-recs.result.now
    c.in_ok-place.field-0 c.in-Some-2.place c.in_ok-place.ensures c.in-Some-2.is in
    omega (arith, fits, within)

pub add_variables-requires : goal.add_variables-requires
add_variables-requires c =
    first_fits c.args.pools.now c.args.asked.now c.args.places.now.starts.items c.in-Some.at c.index-first.result.now c.index-pools-at.result c.as_slice-recs.result.now
    c.requires.request c.requires.starts c.in-Some.ensures.0 c.index-first.ensures c.as_slice-recs.ensures

pub returns : goal.returns
returns c =
    let front : c.match-branch-2.list.items ≡ front_of c.index-first.result.now c.in_ok-place.field-0 = elim c.match-branch-2.branch [
      | in-Some-2+in_ok-push w ↦
          front_pushed c.index-first.result.now w.in-Some-2.place c.in_ok-place.field-0 c.new-list.result.items c.match-branch-2.list.items w.in-Some-2.is c.new-list.ensures.items
          (let is = w.list-is in let put = w.in_ok-push.ensures.items in cc)
      | in_default-2 w ↦
          front_empty c.index-first.result.now c.in_ok-place.field-0 c.match-branch-2.list.items w.in_default-2.is
          (let is = w.list-is in let empty = c.new-list.ensures.items in cc)
    ] in
    let Place : List ℕ → Type 0
    = λ name. c.in_ok-place.field-0 ≡ cond (is_fresh c.args.asked.now name) None (position (is_installed (filter (has_name name) c.args.installed.now)) c.as_slice-recs.result.now) in
    let place : Place c.args.name.now = subst Place c.as_str.ensures c.in_ok-place.ensures in
    ranked_listed c.args.pools.now c.args.asked.now c.args.installed.now c.args.name.now c.args.places.now.starts.items c.in-Some.at c.index-first.result.now c.index-pools-at.result
    c.as_slice-recs.result.now c.in_ok-place.field-0 c.match-branch-2.list.items c.add_variables.new.list.items c.requires.request c.requires.starts c.in-Some.ensures.0
    (c.in-Some.ensures.1 c.index-pools-at.result) c.index-first.ensures c.as_slice-recs.ensures place front c.in_ok-add_variables.ensures
