use Rattle.std.proofs.Common.{◌≡◌, ◌++◌, List, ℕ, map, ap, sym, ◌∙◌}
use Rattle.std.specs.Char.{to_ascii_lowercase}
use Rattle.conda_clause.specs.Clause.{clause_fault}
use Rattle.conda_clause.specs.Pieces.{tokens}
use Rattle.conda_clause.proofs.ClauseLemmas.{lowered_twice}
use Rattle.conda_clause.proofs.clause.VersionClause.of_kept.Goals as goal

pub invariant_of-result : goal.invariant_of-result
invariant_of-result c =
    let text : List ℕ = c.from_string-text.result in
    let same : c.as_bytes.result.now ≡ text = c.as_bytes.ensures.value ∙ c.as_str.ensures in
    let lower : text ≡ map to_ascii_lowercase c.args.kept.now = c.from_string-text.ensures ∙ c.in_ok-to_ascii_lowercase.ensures.ok in (
      ap clause_fault (sym same) ∙ sym c.in_ok-read_tokens.ensures.fault ∙ c.in-None.is,
      ap (map to_ascii_lowercase) lower ∙ lowered_twice c.args.kept.now ∙ sym lower,
      c.from_vec.ensures ∙ c.in_ok-read_tokens.ensures.tokens c.in-None.is
          ∙ ap (λ made. made ++ tokens c.as_bytes.result.now) c.new-tokens.ensures.items ∙ ap tokens same,
    )
