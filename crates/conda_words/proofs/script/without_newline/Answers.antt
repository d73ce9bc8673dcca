use Rattle.std.proofs.Common.{lit<, sym, ap, ◌∙◌}
use Rattle.std.proofs.lemmas.Str.Pattern.{strip_suffix_char}
use Rattle.conda_words.specs.Scripts.{without_newline}
use Rattle.conda_words.proofs.TextLemmas.{newline_cut, newline_none}
use Rattle.conda_words.proofs.script.without_newline.Goals as goal

pub returns-in-Some : goal.returns-in-Some
returns-in-Some c =
    let cut = rw c.in-Some.is at (strip_suffix_char 10 c.args.text.now c.strip_suffix.result c.strip_suffix.ensures.cases (lit< tt)) in
    sym (ap without_newline cut ∙ newline_cut c.in-Some.rest.now)

pub returns-in-None : goal.returns-in-None
returns-in-None c =
    let none = rw c.in-None.is at (strip_suffix_char 10 c.args.text.now c.strip_suffix.result c.strip_suffix.ensures.cases (lit< tt)) in
    sym (newline_none c.args.text.now none)
