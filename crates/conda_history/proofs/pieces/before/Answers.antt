use Rattle.std.proofs.lemmas.Str.Pattern.{strip_suffix_char}
use Rattle.conda_history.proofs.EndLemmas.{before_cases}
use Rattle.conda_history.proofs.pieces.before.Goals as goal

pub returns : goal.returns
returns c =
    before_cases c.args.mark c.args.text.now c.strip_suffix.result
    (strip_suffix_char c.args.mark c.args.text.now c.strip_suffix.result c.strip_suffix.ensures.cases c.requires)
