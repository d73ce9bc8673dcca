-- The subcommands and the options: a table of each. This project's own, after conda's cli.
use Rattle.std.specs.Prelude.{ℕ, Bool, true, false, ◌&&◌, ◌||◌, not, if◌then◌else◌, List, [], ◌∷◌, codes, Option, None, Some, find, option_and_then, unwrap_or}
use Rattle.std.specs.List.{list_any}
use Rattle.std.specs.Str.{bytes_eq}
use Rattle.conda_words.specs.declared.command.Verb.{Verb}
use Rattle.conda_words.specs.declared.command.Verb.TheVariants as verbs
use Rattle.conda_words.specs.declared.table.Kind.{Kind}
use Rattle.conda_words.specs.declared.table.Kind.TheVariants as kinds
use Rattle.conda_words.specs.declared.table.Place.{Place}
use Rattle.conda_words.specs.declared.table.Place.TheVariants.{Shell, Script, Both}
use Rattle.conda_words.specs.declared.table.Row.{Row}
use Rattle.conda_words.specs.declared.table.Words.{Words}
use Rattle.conda_words.specs.declared.table.Words.TheVariants.{Nothing, One, Many, Number}

-- ---- the options

-- how an option is spelled; a plain word has no spelling, and a lone `-` stands for the words that are no option
abbrev pub spelling : Kind → List ℕ
spelling kinds.Word = []
spelling kinds.Prefix = codes "-p"
spelling kinds.Channel = codes "-c"
spelling kinds.ChannelDir = codes "--channels"
spelling kinds.PkgsDir = codes "--pkgs"
spelling kinds.Jobs = codes "--jobs"
spelling kinds.Virtual = codes "--virtual"
spelling kinds.Revision = codes "--revision"
spelling kinds.Revisions = codes "--revisions"
spelling kinds.Copy = codes "--copy"
spelling kinds.Strange = codes "-"

-- two are one where they are spelled alike
abbrev pub is_kind : Kind → Kind → Bool
is_kind a b = bytes_eq (spelling a) (spelling b)

abbrev pub has : List Kind → Kind → Bool
has ks kind = list_any (is_kind kind) ks

-- those that say where packages come from
abbrev pub sources : List Kind
sources = kinds.Channel ∷ kinds.ChannelDir ∷ kinds.PkgsDir ∷ kinds.Jobs ∷ kinds.Virtual ∷ []

-- those with a value, of which the long ones may have it behind `=`
abbrev pub is_long : Kind → Bool
is_long kind = has (kinds.ChannelDir ∷ kinds.PkgsDir ∷ kinds.Jobs ∷ kinds.Virtual ∷ kinds.Revision ∷ []) kind

abbrev pub has_value : Kind → Bool
has_value kind = has (kinds.Prefix ∷ kinds.Channel ∷ []) kind || is_long kind

abbrev pub options : List Kind
options =
    kinds.Prefix ∷ kinds.Channel ∷ kinds.ChannelDir ∷ kinds.PkgsDir ∷ kinds.Jobs ∷ kinds.Virtual ∷ kinds.Revision
    ∷ kinds.Revisions ∷ kinds.Copy ∷ []

abbrev pub option_of : List ℕ → Kind
option_of word = unwrap_or (find (λ kind. bytes_eq word (spelling kind)) options) kinds.Strange

-- ---- the subcommands

pub record Subcommand : Type 0 where
  pub verb : Verb
  -- the command line, scripts, or both
  pub place : Place
  -- which plain words it takes
  pub words : Words
  -- whether it takes the sources, and its other options
  pub sources : Bool
  pub options : List Kind

abbrev pub row : Verb → Place → Words → Bool → List Kind → Subcommand
row verb place words sources options =
    record { verb = verb; place = place; words = words; sources = sources; options = options }

-- the row of the program
abbrev pub seen : Row → Subcommand
seen r = row r.verb r.place r.words r.sources r.options.now

abbrev pub subcommands : List (List ℕ × Subcommand)
subcommands =
    (codes "list", row verbs.List Both Nothing false (kinds.Prefix ∷ kinds.Revisions ∷ []))
    ∷ (codes "search", row verbs.Search Both One true [])
    ∷ (codes "solve", row verbs.Solve Shell Many true [])
    ∷ (codes "refute", row verbs.Refute Shell Nothing false [])
    ∷ (codes "create", row verbs.Create Both Many true (kinds.Prefix ∷ kinds.Copy ∷ []))
    ∷ (codes "install", row verbs.Install Both Many true (kinds.Prefix ∷ kinds.Copy ∷ kinds.Revision ∷ []))
    ∷ (codes "update", row verbs.Update Both Many true (kinds.Prefix ∷ kinds.Copy ∷ []))
    ∷ (codes "remove", row verbs.Remove Both Many true (kinds.Prefix ∷ kinds.Copy ∷ []))
    ∷ (codes "clean", row verbs.Clean Both Nothing true (kinds.Prefix ∷ []))
    ∷ (codes "batch", row verbs.Batch Shell Nothing true (kinds.Copy ∷ []))
    ∷ (codes "exercise", row (verbs.Exercise 0) Shell Number false (kinds.Jobs ∷ []))
    ∷ (codes "repair", row verbs.Repair Script Nothing false (kinds.Prefix ∷ []))
    ∷ []

abbrev pub named_in : {A : Type 0} → List ℕ → List (List ℕ × A) → Option A
named_in word [] = None
named_in word (r ∷ rs) = if bytes_eq word r.0 then Some r.1 else named_in word rs

-- the row where it stands, on the command line or in a script, where it takes no sources
abbrev pub standing : Bool → Place → Subcommand → Option Subcommand
standing false Both sub = Some sub
standing false Shell sub = Some sub
standing false Script sub = None
standing true Both sub = Some (record sub { sources = false })
standing true Shell sub = None
standing true Script sub = Some (record sub { sources = false })

abbrev pub subcommand_of : Bool → List ℕ → Option Subcommand
subcommand_of script word = option_and_then (λ sub. standing script sub.place sub) (named_in word subcommands)

-- the option that a word spells, where the subcommand takes it
abbrev pub takes : Subcommand → Kind → Bool
takes sub kind = has sub.options kind || (sub.sources && has sources kind)

abbrev pub own_option : Subcommand → List ℕ → Kind
own_option sub word = if takes sub (option_of word) then option_of word else kinds.Strange

-- a command of this verb runs in one environment, so that it has one prefix
abbrev pub has_one_prefix : Verb → Bool
has_one_prefix verbs.List = true
has_one_prefix verbs.Revisions = true
has_one_prefix verbs.Search = false
has_one_prefix verbs.Solve = false
has_one_prefix verbs.Refute = false
has_one_prefix verbs.Create = true
has_one_prefix verbs.Install = true
has_one_prefix (verbs.Revert number) = true
has_one_prefix verbs.Update = true
has_one_prefix verbs.Remove = true
has_one_prefix verbs.Clean = false
has_one_prefix verbs.Batch = false
has_one_prefix (verbs.Exercise number) = false
has_one_prefix verbs.Repair = true

-- what may stand again and again
abbrev pub repeats : Subcommand → Kind → Bool
repeats sub kind =
    has (kinds.Word ∷ kinds.Channel ∷ kinds.Virtual ∷ []) kind || (is_kind kind kinds.Prefix && not (has_one_prefix sub.verb))

-- how many plain words
abbrev pub least : Words → ℕ
least Nothing = 0
least One = 1
least Many = 1
least Number = 1

abbrev pub most : Words → ℕ
most Nothing = 0
most One = 1
most Many = 256
most Number = 1
