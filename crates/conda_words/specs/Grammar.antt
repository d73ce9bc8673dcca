-- The words of a command line as a grammar: a subcommand, then options with their values and plain words in any order;
-- `--` ends the options. What they mean, and the first fault of those that mean nothing. This project's own.
use Rattle.std.specs.Prelude.{◌≡◌, ◌≤◌, ℕ, ◌+◌, ◌⊎◌, Bool, true, false, List, [], ◌∷◌, ◌++◌, length, codes, Option, None, Some}
use Rattle.conda_base.specs.Signs.{equals}
use Rattle.conda_words.specs.Causes.{is_missing, item_cause, item_fault}
use Rattle.conda_words.specs.Cut.{count, is_plain_word, item, items}
use Rattle.conda_words.specs.Says.{are_apart, command_of, different, values, words_taken}
use Rattle.conda_words.specs.Table.{Subcommand, has, has_one_prefix, has_value, is_long, least, options, spelling, subcommand_of, takes}
use Rattle.conda_words.specs.declared.command.Command.{Command}
use Rattle.conda_words.specs.declared.cut.Item.{Item}
use Rattle.conda_words.specs.declared.error.Why.{Why}
use Rattle.conda_words.specs.declared.error.Why.TheVariants as whys
use Rattle.conda_words.specs.declared.table.Kind.{Kind}
use Rattle.conda_words.specs.declared.table.Kind.TheVariants as kinds

-- ---- the grammar

-- the word spells this option, and the subcommand takes it
pub record Spells (sub : Subcommand) (word : List ℕ) (kind : Kind) : Type 0 where
  pub known : has options kind ≡ true
  pub taken : takes sub kind ≡ true
  pub spelled : word ≡ spelling kind

-- The words, of which the first stands at a place, are cut into these items. Behind `--` all words are plain; before it
-- those that don't begin with `-`. An option with a value takes the next word, whatever it is; a long one may have it
-- behind `=`.
pub data Cuts (sub : Subcommand) : Bool → ℕ → List (List ℕ) → List Item → Type 0 where
  done : (plain : Bool) (at : ℕ) → Cuts sub plain at [] []
  ends : (at : ℕ) (word : List ℕ) (words : List (List ℕ)) (is : List Item) →
      word ≡ codes "--" → Cuts sub true (at + 1) words is →
      Cuts sub false at (word ∷ words) is
  plain_word : (plain : Bool) (at : ℕ) (word : List ℕ) (words : List (List ℕ)) (is : List Item) →
      is_plain_word plain word ≡ true → Cuts sub plain (at + 1) words is →
      Cuts sub plain at (word ∷ words) (item kinds.Word at at (Some word) ∷ is)
  flag : (at : ℕ) (word : List ℕ) (kind : Kind) (words : List (List ℕ)) (is : List Item) →
      Spells sub word kind → has_value kind ≡ false → Cuts sub false (at + 1) words is →
      Cuts sub false at (word ∷ words) (item kind at at (Some []) ∷ is)
  valued : (at : ℕ) (word : List ℕ) (kind : Kind) (value : List ℕ) (words : List (List ℕ)) (is : List Item) →
      Spells sub word kind → has_value kind ≡ true → Cuts sub false (at + 2) words is →
      Cuts sub false at (word ∷ value ∷ words) (item kind at (at + 1) (Some value) ∷ is)
  joined : (at : ℕ) (name : List ℕ) (kind : Kind) (value : List ℕ) (words : List (List ℕ)) (is : List Item) →
      Spells sub name kind → is_long kind ≡ true → Cuts sub false (at + 1) words is →
      Cuts sub false at ((name ++ equals ∷ value) ∷ words) (item kind at at (Some value) ∷ is)

-- ---- the meaning

-- no item has a fault behind those before it
abbrev pub HasNone : (List Item → Item → Option (ℕ × Why)) → List Item → Type 0
HasNone fault is = (front : List Item) (i : Item) (behind : List Item) → is ≡ front ++ i ∷ behind → fault front i ≡ None

-- The words are a subcommand, which stands on the command line or in a script, and items: each is right behind those before it,
-- and enough are there. The command is what the items say.
pub record IsCommand (script : Bool) (words : List (List ℕ)) (c : Command) : Type 0 where
  pub name : List ℕ
  pub rest : List (List ℕ)
  pub sub : Subcommand
  pub is : List Item
  pub cut : words ≡ name ∷ rest
  pub row : subcommand_of script name ≡ Some sub
  pub grammar : Cuts sub false 1 rest is
  pub right : HasNone (item_cause sub (words_taken sub is)) is
  pub enough : least (words_taken sub is) ≤ count kinds.Word is
  pub command : c ≡ command_of sub.verb (words_taken sub is) is
  pub prefix : has_one_prefix c.verb ≡ true → (prefix : List ℕ) × (c.prefixes ≡ prefix ∷ [])

-- Words of the command line mean this command: they are it, with 64 different prefixes at most, of which none lies inside another.
pub record Means (words : List (List ℕ)) (c : Command) : Type 0 where
  pub command : IsCommand false words c
  pub few : length (different c.prefixes) ≤ 64
  pub apart : are_apart (different c.prefixes) ≡ true

-- ---- the first fault

-- an item is the first that has a fault behind those before it
pub record IsFirstBad (fault : List Item → Item → Option (ℕ × Why)) (is : List Item) (at : ℕ) (why : Why) : Type 0 where
  pub front : List Item
  pub bad : Item
  pub behind : List Item
  pub split : is ≡ front ++ bad ∷ behind
  pub right : HasNone fault front
  pub wrong : fault front bad ≡ Some (at, why)

-- no item has one, and something is missing, behind the last of so many words
pub record IsLacking (sub : Subcommand) (known : List (List ℕ)) (is : List Item) (len at : ℕ) (why : Why) : Type 0 where
  pub right : HasNone (item_fault sub (words_taken sub is) known) is
  pub lacking : is_missing (words_taken sub is) is (command_of sub.verb (words_taken sub is) is) ≡ true
  pub place : at ≡ len
  pub cause : why ≡ whys.Missing

-- no such subcommand, or a fault of its items; these prefixes are known of the lines before
abbrev pub HasRowFault : Option Subcommand → List (List ℕ) → List (List ℕ) → ℕ → Why → Type 0
HasRowFault None known rest at why = (at ≡ 0) × (why ≡ whys.Unknown)
HasRowFault (Some sub) known rest at why =
    IsFirstBad (item_fault sub (words_taken sub (items sub false 1 rest)) known) (items sub false 1 rest) at why
    ⊎ IsLacking sub known (items sub false 1 rest) (length rest + 1) at why

abbrev pub HasCommandFault : Bool → List (List ℕ) → List (List ℕ) → ℕ → Why → Type 0
HasCommandFault script known [] at why = (at ≡ 0) × (why ≡ whys.Missing)
HasCommandFault script known (name ∷ rest) at why = HasRowFault (subcommand_of script name) known rest at why

-- the words are a command with few prefixes, of which this is the first that lies inside or round a different earlier one
pub record IsNestedAt (words : List (List ℕ)) (at : ℕ) (why : Why) : Type 0 where
  pub c : Command
  pub command : IsCommand false words c
  pub few : length (different c.prefixes) ≤ 64
  pub front : List Item
  pub bad : Item
  pub behind : List Item
  pub split : command.is ≡ front ++ bad ∷ behind
  pub apart : are_apart (different (values kinds.Prefix front)) ≡ true
  pub nested : are_apart (different (values kinds.Prefix (front ++ bad ∷ []))) ≡ false
  pub place : at ≡ bad.value_at
  pub cause : why ≡ whys.Nested

-- words of the command line have this fault: in a word, or by what is missing; else in a prefix that is nested
abbrev pub HasFault : List (List ℕ) → ℕ → Why → Type 0
HasFault words at why = HasCommandFault false [] words at why ⊎ IsNestedAt words at why
