use Rattle.std.proofs.Common.{[], subst, sym}
use Rattle.conda_requests.specs.Words.{word_read}
use Rattle.conda_cli.proofs.SourceLemmas.{words_fail, words_read_as}
use Rattle.conda_cli.specs.Answers.{refusal}
use Rattle.conda_cli.specs.Sourcing.{IsSearched, IsSourcedAnswer, search_read, sources_of}
use Rattle.conda_cli.proofs.sourcing.search.Goals as goal

pub returns-in-Ok-clause-answer : goal.returns-in-Ok-clause-answer
returns-in-Ok-clause-answer g c =
    words_read_as IsSearched (word_read c.args.word.now) _ (sources_of c.args.command.now) (g.H.Host.state c.args.host.now)
    (g.H.Host.state c.search_sources.new.host) _ c.in-Ok.ensures c.search_sources.ensures.answer

pub returns-in-Err-clause-answer : goal.returns-in-Err-clause-answer
returns-in-Err-clause-answer g c =
    let host = g.H.Host.state c.args.host.now in
    subst (λ fault. IsSourcedAnswer IsSearched (search_read c.args.word.now) (sources_of c.args.command.now) host host (refusal fault []))
    (sym c.word_fault.ensures)
    (words_fail IsSearched (word_read c.args.word.now) (sources_of c.args.command.now) host host c.in-Err.error c.in-Err.ensures)
