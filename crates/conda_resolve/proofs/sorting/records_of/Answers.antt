use Rattle.std.proofs.Common.{◌≡◌, ◌≤◌, ◌++◌, [], ◌∷◌, None, Some, length, slice_get, sym, refl, arith}
use Rattle.conda_resolve.proofs.Gathered.{entry_fits, gathered, match_all, match_start, match_step, none_past}
use Rattle.conda_resolve.proofs.sorting.records_of.Goals.{in-Some+in_ok-copy+in_ok-push, in_default}
use Rattle.conda_resolve.proofs.sorting.records_of.Goals as goal

pub loop-at-init : goal.loop-at-init
loop-at-init c = match_start c.args.pools.now c.args.decided.now.entries c.new-set.result.items c.new-set.ensures.items

pub overflow_sub-variable : goal.overflow_sub-variable
overflow_sub-variable c =
    let d = c.requires.decided in
    let here : slice_get c.args.decided.now.entries c.loop-at.at ≡ Some (c.in-Some.field-0-0.now, c.in-Some.variable.now) = sym c.in-Some.ensures.entry in
    let fits = entry_fits c.args.pools.now c.args.asked.now c.args.installed.now d.decided c.args.decided.now.entries c.args.recs.now c.loop-at.at
    (c.in-Some.field-0-0.now, c.in-Some.variable.now) d.are d.moved c.requires.recs here in
    fits.0

pub bounds-recs-variable : goal.bounds-recs-variable
bounds-recs-variable c =
    let d = c.requires.decided in
    let here : slice_get c.args.decided.now.entries c.loop-at.at ≡ Some (c.in-Some.field-0-0.now, c.in-Some.variable.now) = sym c.in-Some.ensures.entry in
    let fits = entry_fits c.args.pools.now c.args.asked.now c.args.installed.now d.decided c.args.decided.now.entries c.args.recs.now c.loop-at.at
    (c.in-Some.field-0-0.now, c.in-Some.variable.now) d.are d.moved c.requires.recs here in
    let low : 1 ≤ c.in-Some.variable.now = fits.0 in
    let high : c.in-Some.variable.now ≤ length c.args.recs.now = fits.1 in
    omega (arith, low, high)

pub loop-at-preserved : goal.loop-at-preserved
loop-at-preserved c =
    let d = c.requires.decided in
    let count : c.len-at-end.result ≡ length c.args.decided.now.entries = c.len-at-end.ensures.len in
    elim c.match-get_index.branch [
      | in-Some+in_ok-copy+in_ok-push w ↦
          let here : slice_get c.args.decided.now.entries c.loop-at.at ≡ Some (w.in-Some.field-0-0.now, w.in-Some.variable.now) = sym w.in-Some.ensures.entry in
          let r = w.index-recs-variable.result in
          let put : c.match-get_index.set.items ≡ c.loop-at.set.items ++ r.now ∷ []
          = (let is = w.set-is in let pushed = w.in_ok-push.ensures.items in let same = w.in_ok-copy.ensures in cc) in
          match_step c.args.pools.now c.args.asked.now c.args.installed.now d.decided c.args.decided.now.entries c.args.recs.now c.loop-at.at
          (w.in-Some.field-0-0.now, w.in-Some.variable.now) r r.now c.loop-at.set.items c.match-get_index.set.items d.are d.moved c.requires.recs here
          w.index-recs-variable.is refl c.loop-at.invariant put
      | in_default w ↦
          let none : slice_get c.args.decided.now.entries c.loop-at.at ≡ None = sym w.in_default.ensures.entry in
          absurd (none_past c.args.decided.now.entries c.loop-at.at (omega (arith, count)) none)
    ]

pub returns : goal.returns
returns c =
    let d = c.requires.decided in
    let count : c.len-at-end.result ≡ length c.args.decided.now.entries = c.len-at-end.ensures.len in
    gathered c.args.pools.now c.args.asked.now c.args.installed.now d.decided c.args.decided.now.entries c.loop-at.set.items d.are d.moved d.sorted c.len-at-end.ensures.unique
    (match_all c.args.pools.now c.args.decided.now.entries c.loop-at.at c.loop-at.set.items (omega (arith, count)) c.loop-at.invariant)
