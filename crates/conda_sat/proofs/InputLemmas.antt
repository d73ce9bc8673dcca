-- The inputs of a log.
use Rattle.std.proofs.Common.{List}
use Rattle.std.specs.Prelude.{All, Contains}
use Rattle.std.proofs.lemmas.List.Elements.{Contains-get_or}

-- a list contains its elements
pub all_of_itself : {X : Type 0} (xs : List X) → All (Contains xs) xs
all_of_itself xs = λ k d here. Contains-get_or xs k d here
