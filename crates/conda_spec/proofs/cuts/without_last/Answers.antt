use Rattle.std.proofs.lemmas.Str.Pattern.{strip_suffix_char}
use Rattle.conda_spec.proofs.CutLemmas.{end_is}
use Rattle.conda_spec.proofs.cuts.without_last.Goals as goal

pub returns-clause-text : goal.returns-clause-text
returns-clause-text c =
    end_is c.args.mark c.args.text.now c.strip_suffix.result
    (strip_suffix_char c.args.mark c.args.text.now c.strip_suffix.result c.strip_suffix.ensures.cases c.requires)
