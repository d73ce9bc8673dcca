-- Lists put in the order of keys.
use Rattle.std.specs.Prelude.{List, map}
use Rattle.std.specs.FinMap.{from_entries, values}
use Rattle.std.specs.declared.cmp.Ordering.{Ordering}

-- each element under its key
abbrev pub keyed : {K X : Type 0} → (X → K) → List X → List (K × X)
keyed key xs = map (λ x. (key x, x)) xs

-- the elements in the order of their keys; of several with one key the first alone
abbrev pub ascending : {K X : Type 0} → (K → K → Ordering) → (X → K) → List X → List X
ascending R key xs = values (from_entries {R = R} (keyed key xs))
