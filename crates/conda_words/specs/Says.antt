-- What the items of a subcommand say: the values of its options and its plain words, and the command that they are. This
-- project's own.
use Rattle.std.specs.Prelude.{ℕ, Bool, true, not, ◌&&◌, ◌||◌, if◌then◌else◌, List, [], ◌∷◌, ◌++◌, codes, map, Option, None, Some, is_none, option_map, option_and_then}
use Rattle.std.specs.List.{filter_map, flat_map, list_any}
use Rattle.std.specs.Option.{option_to_list}
use Rattle.std.specs.Str.{bytes_eq}
use Rattle.conda_base.specs.Texts.{is_empty}
use Rattle.conda_path.specs.Paths.{is_inside, prefix_fault}
use Rattle.conda_words.specs.Cut.{given}
use Rattle.conda_words.specs.Table.{Subcommand, is_kind}
use Rattle.conda_words.specs.Values.{number_in, virtual_of}
use Rattle.conda_words.specs.declared.command.Command.{Command}
use Rattle.conda_words.specs.declared.command.Verb.{Verb}
use Rattle.conda_words.specs.declared.command.Verb.TheVariants as verbs
use Rattle.conda_words.specs.declared.cut.Item.{Item}
use Rattle.conda_words.specs.declared.table.Kind.{Kind}
use Rattle.conda_words.specs.declared.table.Kind.TheVariants as kinds
use Rattle.conda_words.specs.declared.table.Words.{Words}
use Rattle.conda_words.specs.declared.table.Words.TheVariants.{Nothing, One, Many, Number}

-- ---- values

-- the values of the items of a kind, in order
abbrev pub value_of : Kind → Item → List (List ℕ)
value_of kind i = if is_kind i.kind kind then option_to_list i.value else []

abbrev pub values : Kind → List Item → List (List ℕ)
values kind is = flat_map (value_of kind) is

-- the last of these, or else this
abbrev pub last_or : {A : Type 0} → A → List A → A
last_or x [] = x
last_or x (y ∷ ys) = last_or y ys

-- ---- the command

-- with `--revision` a subcommand takes no plain words
abbrev pub words_taken : Subcommand → List Item → Words
words_taken sub is = if given kinds.Revision is then Nothing else sub.words

-- the verb that a plain word names: `exercise` takes its number
abbrev pub word_verb : Words → List ℕ → Option Verb
word_verb Nothing word = None
word_verb One word = None
word_verb Many word = None
word_verb Number word = option_map verbs.Exercise (number_in 1 200 word)

-- the verb that an option or a plain word names, if it names one
abbrev pub verb_named : Words → Kind → List ℕ → Option Verb
verb_named words kinds.Word value = word_verb words value
verb_named words kinds.Prefix value = None
verb_named words kinds.Channel value = None
verb_named words kinds.ChannelDir value = None
verb_named words kinds.PkgsDir value = None
verb_named words kinds.Jobs value = None
verb_named words kinds.Virtual value = None
verb_named words kinds.Revision value = option_map verbs.Revert (number_in 0 4294967295 value)
verb_named words kinds.Revisions value = Some verbs.Revisions
verb_named words kinds.Copy value = None
verb_named words kinds.Strange value = None

abbrev pub verbs_named : Words → List Item → List Verb
verbs_named words is = filter_map (λ i. option_and_then (verb_named words i.kind) i.value) is

-- the plain words of a command; that of `exercise` is its verb's
abbrev pub plain_words : Words → List (List ℕ) → List (List ℕ)
plain_words Nothing words = words
plain_words One words = words
plain_words Many words = words
plain_words Number words = []

-- the command that items say, of a subcommand with this verb that takes such words
abbrev pub command_of : Verb → Words → List Item → Command
command_of verb words is = record {
  verb = last_or verb (verbs_named words is);
  prefixes = values kinds.Prefix is;
  channels = values kinds.Channel is;
  channel_dir = last_or (codes "channels") (values kinds.ChannelDir is);
  pkgs_dir = last_or (codes "pkgs") (values kinds.PkgsDir is);
  jobs = last_or 4 (filter_map (number_in 1 16) (values kinds.Jobs is));
  virtuals = map virtual_of (values kinds.Virtual is);
  copy = not (is_empty (values kinds.Copy is));
  words = plain_words words (values kinds.Word is);
}

-- ---- prefixes

abbrev pub is_prefix : List ℕ → Bool
is_prefix text = is_none (prefix_fault text)

-- the text is one of these
abbrev pub is_among : List ℕ → List (List ℕ) → Bool
is_among text texts = list_any (λ t. bytes_eq text t) texts

-- these prefixes, and those of the others that aren't among them, each once
abbrev pub known_with : List (List ℕ) → List (List ℕ) → List (List ℕ)
known_with known [] = known
known_with known (p ∷ ps) = known_with (if is_among p known then known else known ++ p ∷ []) ps

-- the different ones of these, each once
abbrev pub different : List (List ℕ) → List (List ℕ)
different ps = known_with [] ps

-- of two different prefixes, one lies inside the other
abbrev pub is_nested : List ℕ → List ℕ → Bool
is_nested a b = is_inside a b || is_inside b a

-- of different prefixes, none lies inside another
abbrev pub are_apart : List (List ℕ) → Bool
are_apart [] = true
are_apart (p ∷ ps) = not (list_any (is_nested p) ps) && are_apart ps
