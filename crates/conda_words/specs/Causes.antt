-- Why an item is bad behind those before it: a table of causes. This project's own.
use Rattle.std.specs.Prelude.{ℕ, Bool, ◌==◌, ◌&&◌, ◌||◌, not, nat_lt, if◌then◌else◌, List, length, Option, None, Some, is_none, is_some, option_map, option_and_then}
use Rattle.std.specs.List.{list_any}
use Rattle.std.specs.Option.{option_or}
use Rattle.conda_words.specs.Cut.{count, given}
use Rattle.conda_words.specs.Says.{is_among, is_prefix, known_with, values}
use Rattle.conda_words.specs.Table.{Subcommand, has_one_prefix, is_kind, least, repeats}
use Rattle.conda_words.specs.Values.{is_channel, is_virtual, number_in}
use Rattle.conda_words.specs.declared.command.Command.{Command}
use Rattle.conda_words.specs.declared.cut.Item.{Item}
use Rattle.conda_words.specs.declared.error.Why.{Why}
use Rattle.conda_words.specs.declared.error.Why.TheVariants as whys
use Rattle.conda_words.specs.declared.table.Kind.{Kind}
use Rattle.conda_words.specs.declared.table.Kind.TheVariants as kinds
use Rattle.conda_words.specs.declared.table.Words.{Words}
use Rattle.conda_words.specs.declared.table.Words.TheVariants.{Nothing, One, Many, Number}

-- this cause, unless all is well
abbrev pub because_not : Why → Bool → Option Why
because_not why good = if good then None else Some why

abbrev pub number_cause : ℕ → ℕ → List ℕ → Option Why
number_cause low high value = because_not whys.Number (is_some (number_in low high value))

-- a plain word behind so many others
abbrev pub word_cause : Words → ℕ → List ℕ → Option Why
word_cause Nothing before word = Some whys.Extra
word_cause One before word = because_not whys.Extra (before == 0)
word_cause Many before word = because_not whys.Limit (nat_lt before 256)
word_cause Number before word = option_or (because_not whys.Extra (before == 0)) (number_cause 1 200 word)

-- a prefix behind others
abbrev pub prefix_cause : List (List ℕ) → List ℕ → Option Why
prefix_cause before value = option_or (because_not whys.Twice (not (is_among value before))) (because_not whys.Path (is_prefix value))

-- a channel behind others
abbrev pub channel_cause : List (List ℕ) → List ℕ → Option Why
channel_cause before value =
    option_or (because_not whys.Twice (not (is_among value before)))
    (option_or (because_not whys.Channel (is_channel value)) (because_not whys.Limit (nat_lt (length before) 8)))

-- the value of an option, or a plain word, behind these items
abbrev pub value_cause : Words → List Item → Kind → List ℕ → Option Why
value_cause words before kinds.Word value = word_cause words (count kinds.Word before) value
value_cause words before kinds.Prefix value = prefix_cause (values kinds.Prefix before) value
value_cause words before kinds.Channel value = channel_cause (values kinds.Channel before) value
value_cause words before kinds.ChannelDir value = None
value_cause words before kinds.PkgsDir value = None
value_cause words before kinds.Jobs value = number_cause 1 16 value
value_cause words before kinds.Virtual value = because_not whys.Unknown (is_virtual value)
value_cause words before kinds.Revision value = number_cause 0 4294967295 value
value_cause words before kinds.Revisions value = None
value_cause words before kinds.Copy value = None
value_cause words before kinds.Strange value = Some whys.Unknown

-- where an item is bad behind these, and why; a value that isn't there is missed later
abbrev pub item_cause : Subcommand → Words → List Item → Item → Option (ℕ × Why)
item_cause sub words before i =
    if not (repeats sub i.kind) && given i.kind before then Some (i.at, whys.Twice)
    else option_map (λ why. (i.value_at, why)) (option_and_then (value_cause words before i.kind) i.value)

-- the 65th different prefix is one too many, with these known ones of earlier lines
abbrev pub limit_cause : List (List ℕ) → List Item → Item → Option (ℕ × Why)
limit_cause known before i =
    let all : List (List ℕ) = known_with known (values kinds.Prefix before) in
    if is_kind i.kind kinds.Prefix
    then option_map (λ why. (i.value_at, why))
    (option_and_then (λ p. because_not whys.Limit (is_among p all || nat_lt (length all) 64)) i.value)
    else None

abbrev pub item_fault : Subcommand → Words → List (List ℕ) → List Item → Item → Option (ℕ × Why)
item_fault sub words known before i = option_or (item_cause sub words before i) (limit_cause known before i)

-- a value, the prefix or a plain word isn't there
abbrev pub is_missing : Words → List Item → Command → Bool
is_missing words is c =
    list_any (λ i. is_none i.value) is || (has_one_prefix c.verb && not (length c.prefixes == 1)) || nat_lt (count kinds.Word is)
    (least words)
