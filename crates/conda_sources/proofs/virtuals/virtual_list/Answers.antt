use Rattle.std.proofs.Common.{◌≡◌, ◌∙◌, ◌++◌, All, Ok, ap, map, subst, sym}
use Rattle.std.proofs.lemmas.List.{take_all}
use Rattle.std.proofs.lemmas.Result.{IfOk-weaker}
use Rattle.conda_version.specs.Grammar.{version_read}
use Rattle.conda_sources.specs.Virtuals as virtuals
use Rattle.conda_sources.specs.Virtuals.{IsGiven}
use Rattle.conda_sources.proofs.GivenLemmas.{HasDist, given_reads, list_dists}
use Rattle.conda_sources.proofs.virtuals.virtual_list.Goals as goal

pub virtual_of-requires : goal.virtual_of-requires
virtual_of-requires c =
    subst (λ text. version_read text ≡ Ok text) (sym c.as_str-in-loop-one.ensures)
    (given_reads c.trimmed_law.ensures.twice c.one-item.result
    (subst IsGiven (sym c.one-item.is) (c.requires c.loop-one.one-index c.one-item.result c.loop-one-test.true)))

pub returns-clause-dists : goal.returns-clause-dists
returns-clause-dists c =
    IfOk-weaker c.last_of_each.result _ (λ list. All HasDist list.items) (λ list is.
    subst (All HasDist) (sym (is ∙ ap virtuals.last_of_each (c.as_slice.ensures.value ∙ c.loop-one.invariant
    ∙ ap (λ given. virtuals.usual ++ map virtuals.of_words given) (take_all c.loop-one.one-index c.args.given.now c.loop-one-test.false))))
    (list_dists (record {
      rule = c.dist_laws.ensures.rule;
      endings = c.ending_laws.ensures;
      chars = c.grammar_laws.ensures.chars;
      twice = c.trimmed_law.ensures.twice;
    }) c.args.given.now c.requires)) c.last_of_each.ensures
