-- What the fields of an object have to be. A reader of an object is said as its fields in order, by `>>=`; the fault is the
-- name of the first field that is absent or of another kind. Of a value that is no object each field is absent.
use Rattle.std.specs.Prelude.{ℕ, ◌+◌, List, [], ◌∷◌, ◌++◌, Bool, false, not, is_some, Option, Some, None, Ok, Err, if◌then◌else◌}
use Rattle.std.specs.Option.{ok_or, option_map_or}
use Rattle.serde_json.specs.Data.{Data, Items, no_items, item}
use Rattle.serde_json.specs.Find.{get, as_null, as_str}
use Rattle.conda_base.specs.Reads.{Read, ◌>>=◌}
use Rattle.conda_json.specs.Json.{list_at}
use Rattle.conda_json.specs.declared.optional.Null.{Null}

-- the same value, or this fault in place of another
abbrev pub or_fault : {A Other Fault : Type 0} → Read A Other → Fault → Read A Fault
or_fault (Ok x) fault = Ok x
or_fault (Err other) fault = Err fault

-- a field that has to be there: what the look-up gives, or else its name
abbrev pub required : {A : Type 0} → (Data → List ℕ → Option A) → List ℕ → Data → Read A (List ℕ)
required at name value = ok_or (at value name) name

-- the value is null where null means an absent field
abbrev pub is_absent : Null → Data → Bool
is_absent Null.Absent value = is_some (as_null value)
is_absent Null.Bad value = false

-- a field is there
abbrev pub is_there : Null → List ℕ → Data → Bool
is_there null name value = option_map_or (λ found. not (is_absent null found)) (get name value) false

-- a field that may be absent
abbrev pub optional : {A : Type 0} → (Data → List ℕ → Option A) → Null → List ℕ → Data → Read (Option A) (List ℕ)
optional at null name value =
    if is_there null name value then required at name value >>= (λ found. Ok (Some found)) else Ok None

-- what is read of each element of a list, which is told its place, from a place on; or the first fault
abbrev pub each_from : {A Fault : Type 0} → ℕ → (ℕ → Data → Read A Fault) → Items → Read (List A) Fault
each_from at read no_items = Ok []
each_from at read (item value rest) = read at value >>= (λ x. each_from (at + 1) read rest >>= (λ xs. Ok (x ∷ xs)))

-- an element of a list that has to be a text: the text, or else the list's name
abbrev pub element_text : List ℕ → Data → Read (List ℕ) (List ℕ)
element_text name value = ok_or (as_str value) name

-- a field that has to be there and to be a list of texts
abbrev pub required_texts : List ℕ → Data → Read (List (List ℕ)) (List ℕ)
required_texts name value = required list_at name value >>= each_from 0 (λ at. element_text name)

-- for the loops that read a list: what was read so far, and behind it what is read of the rest
abbrev pub read_on : {A Fault : Type 0} → List A → Read (List A) Fault → Read (List A) Fault
read_on made rest = rest >>= (λ xs. Ok (made ++ xs))
