use Rattle.std.proofs.Common.{◌≡◌, ◌+◌, ◌≤◌, length, map, sym, ap, ◌∙◌, Bor, arith}
use Rattle.std.proofs.lemmas.List.{append-nil, length-map}
use Rattle.conda_record.specs.declared.pkg_record.PkgRecord.{PkgRecord}
use Rattle.conda_encode.specs.Variables.{records}
use Rattle.conda_resolve.specs.Choice.{names_wanted}
use Rattle.conda_resolve.proofs.Progress.{at_spec, called_of, decides, ends_so, few_vars, fits, found_fits, never, none_found, one_found, put_so, walk_so}
use Rattle.conda_resolve.proofs.Steps.{passed, starts}
use Rattle.conda_resolve.proofs.deciding.decided.Goals as goal
use Rattle.conda_resolve.proofs.deciding.decided.Goals.{then-not-contains_key+in_ok-candidates+in_ok-found+in-Some-found+in_ok-add_needs+in_ok-insert, else-not-contains_key}

pub loop-at-init : goal.loop-at-init
loop-at-init c = record {
  vars = c.requires.vars;
  clauses = c.requires.clauses;
  walk = starts c.args.pools.now c.args.asked.now c.args.installed.now (called_of c.in_ok-specs.specs.items) c.new-variables.result.entries c.new-assumed.result.items c.args.first
      (c.in_ok-specs.ensures ∙ sym (append-nil (names_wanted c.args.asked.now))) c.new-variables.ensures.empty c.new-assumed.ensures.items c.requires.model;
}

pub returns-in_default : goal.returns-in_default
returns-in_default c =
    let e : length c.deref.result.now ≡ length c.loop-at.specs.items = ap length c.deref.ensures.value in
    let le : length c.deref.result.now ≤ c.loop-at.at = c.in_default.ensures.lookup.3 in
    ends_so c.args.pools.now c.args.asked.now c.args.installed.now c.loop-at.specs.items c.loop-at.at c.loop-at.variables.entries c.loop-at.assumed.items c.loop-at.sides (omega arith)
    c.loop-at.invariant.walk

pub first_open-requires-clause-candidates : goal.first_open-requires-clause-candidates
first_open-requires-clause-candidates c =
    fits c.args.pools.now c.args.asked.now c.args.installed.now c.in_ok-name.name c.as_slice.result.now c.loop-at.solver.vars c.requires.request c.loop-at.invariant.vars
    (c.as_slice.ensures.value ∙ c.in_ok-candidates.ensures)

pub first_open-requires-clause-few : goal.first_open-requires-clause-few
first_open-requires-clause-few c = (few_vars c.args.pools.now c.args.asked.now c.loop-at.solver.vars c.requires.request c.loop-at.invariant.vars).0

pub unreachable-requires : goal.unreachable-requires
unreachable-requires c =
    let here = at_spec c.deref.result.now c.loop-at.specs.items c.loop-at.at c.in-Some.spec c.in_ok-name.name c.deref.ensures.value c.in-Some.ensures.lookup (c.in_ok-name.ensures ∙ c.name.ensures) in
    never c.args.pools.now c.args.asked.now c.args.installed.now (called_of c.loop-at.specs.items) c.loop-at.at c.loop-at.variables.entries c.loop-at.assumed.items c.loop-at.sides
    c.in_ok-name.name c.as_slice.result.now c.loop-at.solver.clauses c.requires.request c.loop-at.invariant.walk here (sym c.contains_key.ensures ∙ c.if-not-contains_key.true)
    (c.as_slice.ensures.value ∙ c.in_ok-candidates.ensures) c.loop-at.invariant.clauses
    (none_found c.loop-at.solver.vars c.loop-at.solver.clauses c.loop-at.assumed.items c.first_open.new.assumed.items c.first_open.new.sides c.as_slice.result.now c.in_ok-found.found
    c.in_default-found.is c.in_ok-found.ensures.found)

pub bounds-recs-variable : goal.bounds-recs-variable
bounds-recs-variable c =
    let found = one_found c.loop-at.solver.vars c.loop-at.solver.clauses c.loop-at.assumed.items c.first_open.new.assumed.items c.first_open.new.sides c.as_slice.result.now c.in_ok-found.found
    c.in-Some-found.variable c.in-Some-found.is c.in_ok-found.ensures.found in
    let fit = found_fits c.args.pools.now c.args.asked.now c.args.installed.now c.in_ok-name.name c.loop-at.solver.vars c.loop-at.solver.clauses c.loop-at.assumed.items
    c.first_open.new.assumed.items c.first_open.new.sides c.as_slice.result.now c.in-Some-found.variable (c.as_slice.ensures.value ∙ c.in_ok-candidates.ensures) found in
    let low : 1 ≤ c.in-Some-found.variable = fit.0 in
    let high : c.in-Some-found.variable ≤ length (records c.args.pools.now) = fit.1 in
    let long : length (map (λ (r : Bor PkgRecord). r.now) c.args.recs.now) ≡ length c.args.recs.now = length-map c.args.recs.now (λ (r : Bor PkgRecord). r.now) in
    let same : length (map (λ (r : Bor PkgRecord). r.now) c.args.recs.now) ≡ length (records c.args.pools.now) = ap length c.requires.recs in
    omega arith

pub loop-at-preserved : goal.loop-at-preserved
loop-at-preserved c =
    let inv = c.loop-at.invariant in
    let here = at_spec c.deref.result.now c.loop-at.specs.items c.loop-at.at c.in-Some.spec c.in_ok-name.name c.deref.ensures.value c.in-Some.ensures.lookup (c.in_ok-name.ensures ∙ c.name.ensures) in
    elim c.if-not-contains_key.branch [
      | then-not-contains_key+in_ok-candidates+in_ok-found+in-Some-found+in_ok-add_needs+in_ok-insert w ↦
          let free = sym c.contains_key.ensures ∙ w.if-not-contains_key.true in
          let are = w.as_slice.ensures.value ∙ w.in_ok-candidates.ensures in
          let found = one_found c.loop-at.solver.vars c.loop-at.solver.clauses c.loop-at.assumed.items w.first_open.new.assumed.items w.first_open.new.sides w.as_slice.result.now
          w.in_ok-found.found w.in-Some-found.variable w.in-Some-found.is w.in_ok-found.ensures.found in
          let walk = decides c.args.pools.now c.args.asked.now c.args.installed.now (called_of c.loop-at.specs.items) (called_of w.add_needs.new.specs.items) c.loop-at.at
          c.loop-at.variables.entries w.insert.new.self.entries c.loop-at.assumed.items w.first_open.new.assumed.items c.loop-at.sides w.first_open.new.sides c.in_ok-name.name
          w.as_slice.result.now w.in-Some-found.variable w.index-recs-variable.result c.args.recs.now c.loop-at.solver.vars c.loop-at.solver.clauses c.requires.request inv.walk here free
          are inv.vars inv.clauses found c.requires.recs w.index-recs-variable.is w.in_ok-add_needs.ensures
          (w.in_ok-insert.ensures.entries ∙ put_so c.loop-at.variables.entries c.in_ok-name.name w.in-Some-found.variable free) in
          record {
            vars = ap (λ s. s.vars) w.solver-is ∙ w.first_open.ensures.vars ∙ inv.vars;
            clauses = ap (λ s. s.clauses) w.solver-is ∙ w.first_open.ensures.clauses ∙ inv.clauses;
            walk = walk_so c.args.pools.now c.args.asked.now c.args.installed.now (c.loop-at.at + 1) w.add_needs.new.specs.items c.if-not-contains_key.specs.items w.insert.new.self.entries
                c.if-not-contains_key.variables.entries w.first_open.new.assumed.items c.if-not-contains_key.assumed.items w.first_open.new.sides c.if-not-contains_key.sides
                (ap (λ s. s.items) w.specs-is) (ap (λ s. s.entries) w.variables-is) (ap (λ s. s.items) w.assumed-is) w.sides-is walk;
          }
      | else-not-contains_key w ↦
          let walk = passed c.args.pools.now c.args.asked.now c.args.installed.now (called_of c.loop-at.specs.items) c.loop-at.at c.loop-at.variables.entries c.loop-at.assumed.items
          c.loop-at.sides c.in_ok-name.name inv.walk here.0 here.1 (sym c.contains_key.ensures ∙ w.if-not-contains_key.false) in
          record {
            vars = ap (λ s. s.vars) w.solver-is ∙ inv.vars;
            clauses = ap (λ s. s.clauses) w.solver-is ∙ inv.clauses;
            walk = walk_so c.args.pools.now c.args.asked.now c.args.installed.now (c.loop-at.at + 1) c.loop-at.specs.items c.if-not-contains_key.specs.items c.loop-at.variables.entries
                c.if-not-contains_key.variables.entries c.loop-at.assumed.items c.if-not-contains_key.assumed.items c.loop-at.sides c.if-not-contains_key.sides (ap (λ s. s.items) w.specs-is)
                (ap (λ s. s.entries) w.variables-is) (ap (λ s. s.items) w.assumed-is) w.sides-is walk;
          }
    ]

pub returns : goal.returns
returns c =
    ends_so c.args.pools.now c.args.asked.now c.args.installed.now c.loop-at.specs.items c.loop-at.at c.loop-at.variables.entries c.loop-at.assumed.items c.loop-at.sides (omega arith)
    c.loop-at.invariant.walk
