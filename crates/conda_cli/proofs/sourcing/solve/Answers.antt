use Rattle.std.proofs.Common.{[], ◌≡◌, Err, Ok, subst, sym}
use Rattle.std.specs.Prelude.{IfSome}
use Rattle.conda_requests.specs.Words.{plain_words_read, word_fault_of}
use Rattle.conda_cli.proofs.SourceLemmas.{words_fail, words_read_as}
use Rattle.conda_cli.specs.Answers.{refusal}
use Rattle.conda_cli.specs.Sourcing.{IsSolved, IsSourcedAnswer, solve_read, sources_of}
use Rattle.conda_cli.proofs.sourcing.solve.Goals as goal

pub returns-in-Ok-clause-answer : goal.returns-in-Ok-clause-answer
returns-in-Ok-clause-answer g c =
    words_read_as IsSolved (plain_words_read c.args.command.now.words) c.in-Ok.specs (sources_of c.args.command.now) (g.H.Host.state c.args.host.now)
    (g.H.Host.state c.solve_sources.new.host) _
    (subst (λ words. plain_words_read words ≡ Ok c.in-Ok.specs) c.as_slice.ensures c.in-Ok.ensures.read) c.solve_sources.ensures.answer

pub returns-in-Err-clause-answer : goal.returns-in-Err-clause-answer
returns-in-Err-clause-answer g c =
    let host = g.H.Host.state c.args.host.now in
    let words = c.args.command.now.words in
    subst (λ fault. IsSourcedAnswer IsSolved (solve_read words) (sources_of c.args.command.now) host host (refusal fault []))
    (sym c.word_fault.ensures)
    (words_fail IsSolved (plain_words_read words) (sources_of c.args.command.now) host host c.in-Err.error
    (subst (λ words. IfSome (word_fault_of c.in-Err.error) (λ fault. plain_words_read words ≡ Err fault)) c.as_slice.ensures c.in-Err.ensures.read))
