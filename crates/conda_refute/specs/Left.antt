use Rattle.std.specs.Prelude.{ℤ, List, [], ◌∷◌}
use Rattle.conda_refute.specs.declared.checking.Left.{Left}
use Rattle.conda_refute.specs.declared.checking.Left.TheVariants.{Nothing, One, More}

-- the literal of a list of one
abbrev pub left_in : List ℤ → Left
left_in [] = Nothing
left_in (l ∷ []) = One l
left_in (l ∷ m ∷ ls) = More
