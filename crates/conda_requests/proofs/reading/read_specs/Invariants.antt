use Rattle.std.proofs.Common.{All}
use Rattle.conda_encode.specs.Variables.{IsPlain}
use Rattle.conda_requests.proofs.ReadLemmas.{IsReadTo}
use Rattle.conda_requests.proofs.reading.read_specs.Given as goal

abbrev pub invariant-loop-word : goal.invariant-loop-word
invariant-loop-word l = record { read : IsReadTo l.specs l.word-index l.words; plain : All IsPlain l.specs }
