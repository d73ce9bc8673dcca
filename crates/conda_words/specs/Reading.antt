-- What words mean, and the first fault of those that mean nothing. This project's own.
use Rattle.std.specs.Prelude.{ℕ, ◌+◌, ◌==◌, Bool, true, false, ◌&&◌, ◌||◌, not, nat_lt, if◌then◌else◌, List, [], ◌∷◌, ◌++◌, length, codes, Option, None, Some, is_none, is_some, unwrap_or, Ok, Err}
use Rattle.std.specs.List.{list_any}
use Rattle.std.specs.Option.{option_or}
use Rattle.conda_base.specs.Reads.{Read, ◌>>=◌, unless}
use Rattle.conda_words.specs.Cut.{count, given, items}
use Rattle.conda_words.specs.Says.{is_among, is_nested, is_prefix}
use Rattle.conda_words.specs.Table.{Subcommand, has_one_prefix, least, repeats, subcommand_of}
use Rattle.conda_words.specs.Values.{is_channel, is_virtual, number_in, virtual_of}
use Rattle.conda_words.specs.declared.command.Command.{Command}
use Rattle.conda_words.specs.declared.command.Verb.{Verb}
use Rattle.conda_words.specs.declared.command.Verb.TheVariants as verbs
use Rattle.conda_words.specs.declared.cut.Item.{Item}
use Rattle.conda_words.specs.declared.error.Why.{Why}
use Rattle.conda_words.specs.declared.error.Why.TheVariants as whys
use Rattle.conda_words.specs.declared.error.WordsErr.{WordsErr}
use Rattle.conda_words.specs.declared.error.WordsErr.TheVariants.{Usage, Memory}
use Rattle.conda_words.specs.declared.reading.Reading.{Reading}
use Rattle.conda_words.specs.declared.table.Kind.{Kind}
use Rattle.conda_words.specs.declared.table.Kind.TheVariants as kinds
use Rattle.conda_words.specs.declared.table.Words.{Words}
use Rattle.conda_words.specs.declared.table.Words.TheVariants.{Nothing, One, Many, Number}

-- where a fault stands, and what is wrong there
abbrev pub Fault : Type 0
Fault = ℕ × Why

-- what a refusal says
abbrev pub words_fault_of : WordsErr → Option Fault
words_fault_of (Usage at why) = Some (at, why)
words_fault_of Memory = None

-- ---- a value

-- the number, within bounds
abbrev pub numbered : ℕ → Option ℕ → Read ℕ Fault
numbered at None = Err (at, whys.Number)
numbered at (Some n) = Ok n

abbrev pub number_value : ℕ → ℕ → ℕ → List ℕ → Read ℕ Fault
number_value at low high value = numbered at (number_in low high value)

-- ---- a reading with one more value, which stands at a place

abbrev pub with_verb : Reading → Verb → Reading
with_verb r verb = record r { command = record r.command { verb = verb } }

abbrev pub with_jobs : Reading → ℕ → Reading
with_jobs r n = record r { command = record r.command { jobs = n } }

abbrev pub with_plain : Reading → List ℕ → Reading
with_plain r word = record r { command = record r.command { words = r.command.words ++ word ∷ [] } }

-- a word behind so many others
abbrev pub with_word : Words → ℕ → Reading → ℕ → List ℕ → Read Reading Fault
with_word Nothing before r at word = Err (at, whys.Extra)
with_word One before r at word = if before == 0 then Ok (with_plain r word) else Err (at, whys.Extra)
with_word Many before r at word = if nat_lt before 256 then Ok (with_plain r word) else Err (at, whys.Limit)
with_word Number before r at word =
    if before == 0 then number_value at 1 200 word >>= (λ n. Ok (with_verb r (verbs.Exercise n))) else Err (at, whys.Extra)

-- the prefix is known now, and if it is nested with a known one, then here, or on this line of a script
abbrev pub met : Reading → ℕ → List ℕ → Reading
met r at prefix = record r {
  known = r.known ++ prefix ∷ [];
  nested = option_or r.nested (if list_any (is_nested prefix) r.known then Some (unwrap_or r.line at) else None);
}

abbrev pub named : Reading → List ℕ → Reading
named r prefix = record r { command = record r.command { prefixes = r.command.prefixes ++ prefix ∷ [] } }

abbrev pub with_prefix : Reading → ℕ → List ℕ → Read Reading Fault
with_prefix r at value =
    if is_among value r.command.prefixes then Err (at, whys.Twice)
    else if not (is_prefix value) then Err (at, whys.Path)
    else if is_among value r.known then Ok (named r value)
    else if nat_lt (length r.known) 64 then Ok (named (met r at value) value)
    else Err (at, whys.Limit)

abbrev pub with_channel : Reading → ℕ → List ℕ → Read Reading Fault
with_channel r at value =
    if is_among value r.command.channels then Err (at, whys.Twice)
    else if not (is_channel value) then Err (at, whys.Channel)
    else if nat_lt (length r.command.channels) 8 then
    Ok (record r { command = record r.command { channels = r.command.channels ++ value ∷ [] } })
    else Err (at, whys.Limit)

abbrev pub with_virtual : Reading → ℕ → List ℕ → Read Reading Fault
with_virtual r at value =
    if is_virtual value then
    Ok (record r { command = record r.command { virtuals = r.command.virtuals ++ virtual_of value ∷ [] } })
    else Err (at, whys.Unknown)

-- what a word, or the value of an option of each kind, says; these items stand before it
abbrev pub with_value : Subcommand → List Item → Reading → Kind → ℕ → List ℕ → Read Reading Fault
with_value sub before r kinds.Word at value = with_word sub.words (count kinds.Word before) r at value
with_value sub before r kinds.Prefix at value = with_prefix r at value
with_value sub before r kinds.Channel at value = with_channel r at value
with_value sub before r kinds.ChannelDir at value = Ok (record r { command = record r.command { channel_dir = value } })
with_value sub before r kinds.PkgsDir at value = Ok (record r { command = record r.command { pkgs_dir = value } })
with_value sub before r kinds.Jobs at value = number_value at 1 16 value >>= (λ n. Ok (with_jobs r n))
with_value sub before r kinds.Virtual at value = with_virtual r at value
with_value sub before r kinds.Revision at value = number_value at 0 4294967295 value >>= (λ n. Ok (with_verb r (verbs.Revert n)))
with_value sub before r kinds.Revisions at value = Ok (with_verb r verbs.Revisions)
with_value sub before r kinds.Copy at value = Ok (record r { command = record r.command { copy = true } })
with_value sub before r kinds.Strange at value = Err (at, whys.Unknown)

-- ---- a reading with one more item

-- a value that isn't there is missed later
abbrev pub with_any_value : Subcommand → List Item → Reading → Kind → ℕ → Option (List ℕ) → Read Reading Fault
with_any_value sub before r kind at None = Ok r
with_any_value sub before r kind at (Some value) = with_value sub before r kind at value

unfoldable pub with_item : Subcommand → List Item → Reading → Item → Read Reading Fault
with_item sub before r i =
    if not (repeats sub i.kind) && given i.kind before then Err (i.at, whys.Twice)
    else with_any_value sub before r i.kind i.value_at i.value

abbrev pub with_items : Subcommand → List Item → Reading → List Item → Read Reading Fault
with_items sub before r [] = Ok r
with_items sub before r (i ∷ is) = with_item sub before r i >>= (λ next. with_items sub (before ++ i ∷ []) next is)

-- ---- a command

-- with `--revision` a subcommand takes no words
abbrev pub settled : Subcommand → List Item → Subcommand
settled sub is = if given kinds.Revision is then record sub { words = Nothing } else sub

-- the command should have one prefix and hasn't
abbrev pub lacks_prefix : Command → Bool
lacks_prefix c = has_one_prefix c.verb && not (length c.prefixes == 1)

abbrev pub lacks_value : List Item → Bool
lacks_value is = list_any (λ i. is_none i.value) is

-- a value, the prefix or a word
abbrev pub lacks : Subcommand → List Item → Reading → Bool
lacks sub is r =
    lacks_value is || lacks_prefix r.command || nat_lt (count kinds.Word is) (least sub.words)

-- what has nothing but a verb
abbrev pub plain_command : Verb → Command
plain_command verb = record {
  verb = verb;
  prefixes = [];
  channels = [];
  channel_dir = codes "channels";
  pkgs_dir = codes "pkgs";
  jobs = 4;
  virtuals = [];
  copy = false;
  words = [];
}

abbrev pub missing : Bool → ℕ → Option Fault
missing false len = None
missing true len = Some (len, whys.Missing)

abbrev pub nested_fault : Option ℕ → Option Fault
nested_fault None = None
nested_fault (Some at) = Some (at, whys.Nested)

-- the items of a command of so many words
unfoldable pub finished : Subcommand → List Item → Reading → ℕ → Read Reading Fault
finished sub is start len =
    with_items sub [] start is >>= (λ r. unless (missing (lacks sub is r) len) r)

-- where reading begins: the line of a script, the prefixes of the lines before it, and the first nested one
abbrev pub begun : Option ℕ → List (List ℕ) → Option ℕ → Verb → Reading
begun line known nested verb = record { line = line; known = known; nested = nested; command = plain_command verb }

abbrev pub named_read : Option ℕ → List (List ℕ) → Option ℕ → Option Subcommand → List (List ℕ) → Read Reading Fault
named_read line known nested None words = Err (0, whys.Unknown)
named_read line known nested (Some sub) words =
    finished (settled sub (items sub false 1 words)) (items sub false 1 words) (begun line known nested sub.verb)
    (length words + 1)

unfoldable pub command_read : Option ℕ → List (List ℕ) → Option ℕ → List (List ℕ) → Read Reading Fault
command_read line known nested [] = Err (0, whys.Missing)
command_read line known nested (name ∷ words) =
    named_read line known nested (subcommand_of (is_some line) name) words

-- What words mean: the command, or the first fault from the left; then what is missing; then what is nested.
unfoldable pub words_read : List (List ℕ) → Read Command Fault
words_read words = command_read None [] None words >>= (λ r. unless (nested_fault r.nested) r.command)
