-- The link file of a package, `info/link.json`, as conda's packages have it; the tests are this project's own.
use Rattle.std.specs.Prelude.{ℕ, Bool, not, ◌&&◌, ◌||◌, ◌==◌, is_none, if◌then◌else◌, List, [], codes, Option, None, Some, option_and_then, Ok, Err}
use Rattle.std.specs.Char.{is_ascii_alphanumeric}
use Rattle.std.specs.List.{list_all}
use Rattle.std.specs.Option.{ok_or}
use Rattle.std.specs.Result.{is_ok}
use Rattle.serde_json.specs.Data.{Data, Items}
use Rattle.serde_json.specs.Find.{as_str}
use Rattle.conda_base.specs.Reads.{Read, ◌>>=◌}
use Rattle.conda_base.specs.Signs.{colon, dot, equals, slash, underscore}
use Rattle.conda_base.specs.Texts.{cut_first, cut_last, is_empty}
use Rattle.conda_path.specs.Faults.{path_read}
use Rattle.conda_version.specs.Text.{trimmed}
use Rattle.conda_json.specs.Fields.{each_from, optional}
use Rattle.conda_json.specs.Json.{inner_at, list_at, object_read}
use Rattle.conda_json.specs.declared.error.JsonErr.{JsonErr}
use Rattle.conda_json.specs.declared.optional.Null.{Null}
use Rattle.conda_link.specs.declared.error.LinkErr.{LinkErr}
use Rattle.conda_link.specs.declared.info.EntryPoint.{EntryPoint}
use Rattle.conda_link.specs.declared.info.LinkInfo.{LinkInfo}

-- ---- names

-- a letter, a digit, `_` or `.`
abbrev pub is_name_byte : ℕ → Bool
is_name_byte b = is_ascii_alphanumeric b || b == underscore || b == dot

-- what names a module or a function
abbrev pub is_name : List ℕ → Bool
is_name text = not (is_empty text) && list_all is_name_byte text

-- one part of a path
abbrev pub is_command : List ℕ → Bool
is_command text = is_ok (path_read text) && is_none (cut_first slash text)

-- ---- an entry point: `command = module:func`

-- the command, the module and the function, without the spaces at their ends
abbrev pub named_parts : List ℕ → List ℕ × List ℕ → List ℕ × List ℕ × List ℕ
named_parts func halves = (trimmed halves.0, trimmed halves.1, trimmed func)

-- the parts at the last `:`, and before that at the last `=`
abbrev pub parts_of : List ℕ → Option (List ℕ × List ℕ × List ℕ)
parts_of text = option_and_then (λ halves. option_and_then (λ front. Some (named_parts halves.1 front)) (cut_last equals halves.0)) (cut_last colon text)

abbrev pub made_entry : List ℕ → List ℕ → List ℕ → Option EntryPoint
made_entry command source func =
    if is_command command && is_name source && is_name func then Some (record { command = command; «module» = source; func = func }) else None

abbrev pub entry_of : List ℕ → Option EntryPoint
entry_of text = option_and_then (λ parts. made_entry parts.0 parts.1 parts.2) (parts_of text)

-- ---- the file

-- the entry that an error names
abbrev pub link_fault_of : LinkErr → Option ℕ
link_fault_of (LinkErr.BadLink entry) = Some entry
link_fault_of LinkErr.BadPath = None
link_fault_of LinkErr.Memory = None

-- the entry point that an element of the list spells
abbrev pub element_entry : Data → Option EntryPoint
element_entry value = option_and_then entry_of (as_str value)

-- the entry point of an element, or its place
abbrev pub entry_read : ℕ → Data → Read EntryPoint ℕ
entry_read at value = ok_or (element_entry value) at

-- the entry points that the elements spell, or the place of the first that spells none
abbrev pub entries_read : Items → Read (List EntryPoint) ℕ
entries_read = each_from 0 entry_read

-- the entry points of the list, where there is one
abbrev pub listed_entries : Read (Option Items) (List ℕ) → Read (List EntryPoint) ℕ
listed_entries (Ok None) = Ok []
listed_entries (Ok (Some elements)) = entries_read elements
listed_entries (Err field) = Err 0

-- the entry points of the file's object
abbrev pub noarch_read : Data → Read (List EntryPoint) ℕ
noarch_read value = ok_or (inner_at value (codes "noarch")) 0 >>= (λ noarch.
    listed_entries (optional list_at Null.Bad (codes "entry_points") noarch))

abbrev pub link_of : Read Data JsonErr → Read LinkInfo ℕ
link_of (Ok value) = noarch_read value >>= (λ entries. Ok (record { entries = entries }))
link_of (Err e) = Err 0

-- what bytes say, or the first bad entry point, which is 0 where the file has another form
abbrev pub link_read : List ℕ → Read LinkInfo ℕ
link_read bytes = link_of (object_read bytes)
