use Rattle.std.proofs.Common.{[], Err, Ok, ap, subst, sym}
use Rattle.conda_cli.proofs.SourceLemmas.{index_answers, sources_fail}
use Rattle.conda_cli.specs.Answers.{refusal}
use Rattle.conda_cli.specs.Sourcing.{IsSolved, IsSourcedAnswer, sources_of}
use Rattle.conda_cli.proofs.sourcing.solve_sources.Goals as goal

pub returns-in-Ok-clause-answer : goal.returns-in-Ok-clause-answer
returns-in-Ok-clause-answer g c =
    let found = c.in-Ok.ensures.index in
    index_answers IsSolved _ (sources_of c.args.command.now) (g.H.Host.state c.args.host.now) (g.H.Host.state c.index_of.new.host) found.0 found.2.0 _
    c.solve_index.result found.1 found.2.1 found.2.2 c.solve_index.ensures

pub returns-in-Err-clause-answer : goal.returns-in-Err-clause-answer
returns-in-Err-clause-answer g c =
    let found = c.in-Err.ensures.index in
    let before = g.H.Host.state c.args.host.now in
    let now = g.H.Host.state c.index_of.new.host in
    subst (λ fault. IsSourcedAnswer IsSolved (Ok c.args.specs) (sources_of c.args.command.now) before now (refusal fault [])) (sym c.source_fault.ensures)
    (sources_fail IsSolved c.args.specs (sources_of c.args.command.now) before now found.0 c.in-Err.error found.1 found.2
    (λ e. c.in-Err.ensures.cause.chan (ap Err e)) (λ e. c.in-Err.ensures.cause.host (ap Err e)))
