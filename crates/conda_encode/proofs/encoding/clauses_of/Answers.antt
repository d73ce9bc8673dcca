use Rattle.std.proofs.Common.{◌≡◌, ◌+◌, ◌∙◌, ℕ, ℤ, List, ap, arith, length, map}
use Rattle.std.specs.List.{list_all, sum_by}
use Rattle.conda_encode.specs.Sides.{is_within}
use Rattle.conda_encode.specs.Clauses.{Reason, clauses}
use Rattle.conda_encode.specs.Variables.{helpers_of, records}
use Rattle.conda_encode.proofs.Bounds.{helpers_le}
use Rattle.conda_encode.proofs.Within.{clauses_within}
use Rattle.conda_encode.proofs.encoding.clauses_of.Goals as goal

pub returns-clause-few : goal.returns-clause-few
returns-clause-few c =
    let vars : c.in_ok-written.vars ≡ length (records c.args.pools.now) + sum_by helpers_of c.args.pools.now = c.in_ok-written.ensures.vars in
    omega (arith, vars, c.requires.few, helpers_le c.args.pools.now)

pub returns-clause-within : goal.returns-clause-within
returns-clause-within c =
    let made : List (List ℤ) = c.into_parts-clauses.result.1 in
    let same : made ≡ clauses c.args.pools.now c.args.asked.now
    = c.into_parts-clauses.ensures.clauses ∙ ap (map (λ (r : Reason). r.1)) c.in_ok-written.ensures.written in
    ap (λ (v : ℕ). list_all (list_all (is_within v)) made) c.in_ok-written.ensures.vars
    ∙ ap (λ (cs : List (List ℤ)). list_all (list_all (is_within (length (records c.args.pools.now) + sum_by helpers_of c.args.pools.now))) cs) same
    ∙ clauses_within c.args.pools.now c.args.asked.now
