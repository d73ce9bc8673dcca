use Rattle.std.proofs.Common.{◌≡◌, ◌++◌, drop, map}
use Rattle.std.specs.Prelude.{string_bytes}
use Rattle.conda_words.proofs.words.texts_of.Given as goal

-- the texts so far and those of the words that are left are those of all
abbrev pub invariant-loop-word : goal.invariant-loop-word
invariant-loop-word l = l.made.items ++ map string_bytes (drop l.word-index l.words) ≡ map string_bytes l.words
