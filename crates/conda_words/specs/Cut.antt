-- How words are cut into items: plain words, and options with their values. This project's own.
use Rattle.std.specs.Prelude.{ℕ, ◌+◌, Bool, true, ◌&&◌, ◌||◌, not, if◌then◌else◌, List, [], ◌∷◌, codes, count_by, Option, None, Some}
use Rattle.std.specs.List.{list_any}
use Rattle.std.specs.Str.{bytes_eq}
use Rattle.conda_base.specs.Signs.{dash, equals}
use Rattle.conda_base.specs.Texts.{begins_with, cut_first}
use Rattle.conda_words.specs.Table.{Subcommand, has_value, is_kind, is_long, own_option}
use Rattle.conda_words.specs.declared.cut.Item.{Item}
use Rattle.conda_words.specs.declared.table.Kind.{Kind}
use Rattle.conda_words.specs.declared.table.Kind.TheVariants as kinds

-- ---- items

abbrev pub item : Kind → ℕ → ℕ → Option (List ℕ) → Item
item kind at value_at value = record { kind = kind; at = at; value_at = value_at; value = value }

-- items of a kind are there, and how many
abbrev pub given : Kind → List Item → Bool
given kind is = list_any (λ i. is_kind i.kind kind) is

abbrev pub count : Kind → List Item → ℕ
count kind is = count_by (λ i. is_kind i.kind kind) is

-- ---- a word

-- Behind `--` every word is plain. Before it the word `--` ends the options, an option may take the next word, and a
-- word that doesn't begin with `-` is plain.
abbrev pub ends_options : Bool → List ℕ → Bool
ends_options plain word = not plain && bytes_eq word (codes "--")

abbrev pub takes_next : Subcommand → Bool → List ℕ → Bool
takes_next sub plain word = not plain && has_value (own_option sub word)

abbrev pub is_plain_word : Bool → List ℕ → Bool
is_plain_word plain word = plain || not (begins_with dash word)

-- a word that begins with `-`, by itself: a flag, or `--OPTION=VALUE`, cut at the first `=`
abbrev pub long_option : Kind → Kind
long_option kind = if is_long kind then kind else kinds.Strange

abbrev pub dashed_item : Subcommand → ℕ → List ℕ → Option (List ℕ × List ℕ) → Item
dashed_item sub at word None = item (own_option sub word) at at (Some [])
dashed_item sub at word (Some halves) = item (long_option (own_option sub halves.0)) at at (Some halves.1)

-- the item that a word is by itself
abbrev pub own_item : Subcommand → Bool → ℕ → List ℕ → Item
own_item sub plain at word =
    if is_plain_word plain word then item kinds.Word at at (Some word) else dashed_item sub at word (cut_first equals word)

-- an option with the next word as its value, if there is one
abbrev pub valued_item : Subcommand → ℕ → List ℕ → Option (List ℕ) → Item
valued_item sub at word next = item (own_option sub word) at (at + 1) next

-- ---- words

-- the items of words that begin at a place
unfoldable pub items : Subcommand → Bool → ℕ → List (List ℕ) → List Item
items sub plain at [] = []
items sub plain at (word ∷ []) =
    if ends_options plain word then []
    else if takes_next sub plain word then valued_item sub at word None ∷ []
    else own_item sub plain at word ∷ []
items sub plain at (word ∷ next ∷ more) =
    if ends_options plain word then items sub true (at + 1) (next ∷ more)
    else if takes_next sub plain word then valued_item sub at word (Some next) ∷ items sub plain (at + 2) more
    else own_item sub plain at word ∷ items sub plain (at + 1) (next ∷ more)
