-- the channels so far, with those that are left, give each its files
use Rattle.conda_mem.proofs.GivenLemmas.{AreGiven}
use Rattle.conda_mem.proofs.files.channels_of.Given as goal

abbrev pub invariant-loop-name : goal.invariant-loop-name
invariant-loop-name l = AreGiven l.name-iterator.rest.items l.fn.channels.items l.made.entries
