-- What a link file is, in whatever order its parts are looked at.
use Rattle.std.specs.Prelude.{◌≡◌, ℕ, true, ◌⊎◌, List, [], ◌∷◌, ◌++◌, codes, None, Some, Ok}
use Rattle.serde_json.specs.Data.{Data, Items, no_items, item}
use Rattle.serde_json.specs.Find.{as_str}
use Rattle.conda_base.specs.Signs.{colon, equals}
use Rattle.conda_base.specs.Texts.{IsFreeOf}
use Rattle.conda_version.specs.Text.{trimmed}
use Rattle.conda_json.specs.Fields.{optional}
use Rattle.conda_json.specs.Json.{inner_at, list_at}
use Rattle.conda_json.specs.declared.optional.Null.{Null}
use Rattle.conda_link.specs.Links.{is_command, is_name}
use Rattle.conda_link.specs.declared.info.EntryPoint.{EntryPoint}

-- The text spells the entry point: a command, `=`, a module, `:` and a function, with spaces around each. No `:` stands in the function, and
-- no `=` in the module.
pub record IsEntry (text : List ℕ) (entry : EntryPoint) : Type 0 where
  pub command : List ℕ
  pub source : List ℕ
  pub func : List ℕ
  pub spelled : text ≡ (command ++ equals ∷ source) ++ colon ∷ func
  pub last_colon : IsFreeOf colon func
  pub last_equals : IsFreeOf equals source
  pub command_is : entry.command ≡ trimmed command
  pub module_is : entry.«module» ≡ trimmed source
  pub func_is : entry.func ≡ trimmed func
  pub good_command : is_command entry.command ≡ true
  pub good_module : is_name entry.«module» ≡ true
  pub good_func : is_name entry.func ≡ true

-- the elements spell these entry points, each in its place
abbrev pub AreEntries : Items → List EntryPoint → Type 0
AreEntries no_items [] = Unit {0}
AreEntries no_items (entry ∷ entries) = ⊥
AreEntries (item value rest) [] = ⊥
AreEntries (item value rest) (entry ∷ entries) = ((text : List ℕ) × (as_str value ≡ Some text) × IsEntry text entry) × AreEntries rest entries

-- there is no list and no entry point, or a list that spells them
abbrev pub HasEntries : Data → List EntryPoint → Type 0
HasEntries noarch entries =
    ((optional list_at Null.Bad (codes "entry_points") noarch ≡ Ok None) × (entries ≡ []))
    ⊎ ((elements : Items) × (optional list_at Null.Bad (codes "entry_points") noarch ≡ Ok (Some elements)) × AreEntries elements entries)

-- the object holds the object `noarch` with these entry points
abbrev pub IsLinkFile : Data → List EntryPoint → Type 0
IsLinkFile value entries = (noarch : Data) × (inner_at value (codes "noarch") ≡ Some noarch) × HasEntries noarch entries
