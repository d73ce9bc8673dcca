use Rattle.std.proofs.Common.{ap, sym, ◌∙◌}
use Rattle.std.specs.Char.{to_ascii_lowercase}
use Rattle.conda_clause.specs.Clause.{beside_build, clause_fault}
use Rattle.conda_clause.specs.Pieces.{tokens}
use Rattle.std.specs.Prelude.{map}
use Rattle.conda_clause.proofs.BesideLemmas.{is_beside_build}
use Rattle.conda_clause.proofs.clause.VersionClause.beside_build.Goals as goal

pub returns-clause-good : goal.returns-clause-good
returns-clause-good c =
    let beside = is_beside_build c.grammar_laws.ensures.end c.self.inside.text c.self.invariant.0 c.self.invariant.1 in
    ap clause_fault c.in_ok-text.ensures ∙ beside.good

pub returns-clause-fixed : goal.returns-clause-fixed
returns-clause-fixed c =
    let beside = is_beside_build c.grammar_laws.ensures.end c.self.inside.text c.self.invariant.0 c.self.invariant.1 in
    ap beside_build c.in_ok-text.ensures ∙ beside.fixed ∙ sym c.in_ok-text.ensures

pub invariant_of-result : goal.invariant_of-result
invariant_of-result c =
    let beside = is_beside_build c.grammar_laws.ensures.end c.self.inside.text c.self.invariant.0 c.self.invariant.1 in (
      ap clause_fault c.in_ok-text.ensures ∙ beside.good,
      ap (map to_ascii_lowercase) c.in_ok-text.ensures ∙ beside.lower ∙ sym c.in_ok-text.ensures,
      c.in_ok-tokens.ensures ∙ c.self.invariant.2 ∙ sym beside.same ∙ ap tokens (sym c.in_ok-text.ensures),
    )

pub returns-clause-lowered : goal.returns-clause-lowered
returns-clause-lowered c =
    let beside = is_beside_build c.grammar_laws.ensures.end c.self.inside.text c.self.invariant.0 c.self.invariant.1 in
    ap (map to_ascii_lowercase) c.in_ok-text.ensures ∙ beside.lower ∙ sym c.in_ok-text.ensures
