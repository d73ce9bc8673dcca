-- What bytes mean as JSON (RFC 8259, as serde_json takes it), and what a named field is.
use Rattle.std.specs.Prelude.{◌≡◌, ℕ, List, Bool, Option, Some, None, option_map, option_and_then, if◌then◌else◌}
use Rattle.std.specs.Option.{ok_or}
use Rattle.std.specs.Ordering.{nat_cmp}
use Rattle.std.specs.declared.cmp.Ordering.{Ordering}
use Rattle.std.specs.Cmp.Lexicographic.{slice_cmp}
use Rattle.std.specs.Str.{is_utf8}
use Rattle.serde_json.specs.Data.{Data, null, boolean, number, string, array, object, Items, no_items, item, Members, no_members, member}
use Rattle.serde_json.specs.Read.{read}
use Rattle.serde_json.specs.Find.{get, as_bool, as_number, as_u64, as_str, as_array, as_object}
use Rattle.conda_base.specs.Reads.{Read, ◌>>=◌}
use Rattle.conda_json.specs.declared.error.JsonErr.{JsonErr}

-- the value that bytes mean, where they are UTF-8 and a JSON text of at most 127 nested lists and objects
abbrev pub json_of : List ℕ → Option Data
json_of bytes = if is_utf8 bytes then read bytes else None

-- Which fault an error names: each but want of memory.
abbrev pub json_fault_of : JsonErr → Option JsonErr
json_fault_of JsonErr.BadJson = Some JsonErr.BadJson
json_fault_of JsonErr.BadField = Some JsonErr.BadField
json_fault_of JsonErr.Memory = None

-- the value that bytes mean, or that they are no JSON text
abbrev pub json_read : List ℕ → Read Data JsonErr
json_read bytes = ok_or (json_of bytes) JsonErr.BadJson

-- the value, where it is an object
abbrev pub if_object : Data → Option Data
if_object value = option_map object (as_object value)

-- the object that bytes mean, or that they are no JSON object
abbrev pub object_read : List ℕ → Read Data JsonErr
object_read bytes = json_read bytes >>= (λ value. ok_or (if_object value) JsonErr.BadJson)

-- the named field of an object, where it is a text, a whole number below 2^64, a list, an object or a truth value
abbrev pub text_at : Data → List ℕ → Option (List ℕ)
text_at value name = option_and_then as_str (get name value)

abbrev pub number_at : Data → List ℕ → Option ℕ
number_at value name = option_and_then as_u64 (option_and_then as_number (get name value))

abbrev pub list_at : Data → List ℕ → Option Items
list_at value name = option_and_then as_array (get name value)

abbrev pub object_at : Data → List ℕ → Option Members
object_at value name = option_and_then as_object (get name value)

abbrev pub truth_at : Data → List ℕ → Option Bool
truth_at value name = option_and_then as_bool (get name value)

-- the named field of an object as a value of its own, where it is an object
abbrev pub inner_at : Data → List ℕ → Option Data
inner_at value name = option_and_then if_object (get name value)

-- a name is below the first name that follows
abbrev pub IsBelowFirst : List ℕ → Members → Type 0
IsBelowFirst name no_members = Unit {0}
IsBelowFirst name (member next value rest) = slice_cmp nat_cmp name next ≡ Ordering.Less

-- in each object, however deep, the names ascend by bytes and none stands twice
abbrev mutual
  pub KeysAscend : Data → Type 0
  KeysAscend null = Unit {0}
  KeysAscend (boolean b) = Unit {0}
  KeysAscend (number n) = Unit {0}
  KeysAscend (string s) = Unit {0}
  KeysAscend (array items) = KeysAscendInItems items
  KeysAscend (object members) = KeysAscendInMembers members

  pub KeysAscendInItems : Items → Type 0
  KeysAscendInItems no_items = Unit {0}
  KeysAscendInItems (item value rest) = KeysAscend value × KeysAscendInItems rest

  pub KeysAscendInMembers : Members → Type 0
  KeysAscendInMembers no_members = Unit {0}
  KeysAscendInMembers (member name value rest) = IsBelowFirst name rest × KeysAscend value × KeysAscendInMembers rest
