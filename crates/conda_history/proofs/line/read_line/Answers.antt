use Rattle.std.proofs.Common.{ap, sym, ◌∙◌}
use Rattle.conda_history.specs.Lines.{said_of}
use Rattle.conda_history.proofs.LineLemmas.{line_is, line_none, said_as}
use Rattle.conda_history.proofs.line.read_line.Goals as goal

pub returns-in-Some : goal.returns-in-Some
returns-in-Some c =
    said_as c.read_said.result _ _
    (line_is c.args.raw.now c.in-Some.text.now c.in-Some.ensures.0 c.in-Some.ensures.1 ∙ ap said_of (sym c.without_ends.ensures))
    c.read_said.ensures

pub returns-in-None : goal.returns-in-None
returns-in-None c = sym (line_none c.args.raw.now c.in-None.ensures)
