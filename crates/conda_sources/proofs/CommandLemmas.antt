-- The virtual packages of a command are ones that its options give.
use Rattle.std.proofs.Common.{◌≡◌, ℕ, Bool, true, false, cond, List, [], ◌∷◌, ◌++◌, refl, sym, ap, ◌∙◌, subst, append_assoc}
use Rattle.std.specs.Prelude.{All, ◌&&◌, not, map, Option, None, Some, option_map, option_and_then}
use Rattle.std.proofs.lemmas.Bool.{false≢true, true≢false}
use Rattle.std.proofs.lemmas.List.{append-nil}
use Rattle.std.proofs.lemmas.List.Elements.{All-append, All-cons, All-map, All-nil, All-weaker}
use Rattle.std.specs.Option.{option_to_list}
use Rattle.conda_words.specs.Causes.{because_not, item_cause, value_cause}
use Rattle.conda_words.specs.Cut.{given}
use Rattle.conda_words.specs.Grammar.{HasNone, IsCommand, Means}
use Rattle.conda_words.specs.Says.{value_of, values}
use Rattle.conda_words.specs.Table.{Subcommand, is_kind, repeats}
use Rattle.conda_words.specs.Values.{is_virtual, virtual_of}
use Rattle.conda_words.specs.declared.command.Command.{Command}
use Rattle.conda_words.specs.declared.cut.Item.{Item}
use Rattle.conda_words.specs.declared.error.Why.{Why}
use Rattle.conda_words.specs.declared.error.Why.TheVariants as whys
use Rattle.conda_words.specs.declared.table.Kind.{Kind}
use Rattle.conda_words.specs.declared.table.Kind.TheVariants as kinds
use Rattle.conda_words.specs.declared.table.Words.{Words}
use Rattle.conda_sources.specs.Virtuals.{IsGiven}

-- the value of the option was tested
abbrev IsTested : List ℕ → Type 0
IsTested value = is_virtual value ≡ true

is_right : (good : Bool) → because_not whys.Unknown good ≡ None → good ≡ true
is_right true h = refl
is_right false h = cc h

none_mapped : {A B : Type 0} (f : A → B) (o : Option A) → option_map f o ≡ None → o ≡ None
none_mapped f None h = refl
none_mapped f (Some x) h = cc h

none_behind : {A : Type 0} (twice : Bool) (x : A) (o : Option A) → cond twice (Some x) o ≡ None → o ≡ None
none_behind true x o h = cc h
none_behind false x o h = h

-- an item without a cause has a value that was tested, where it is of the option
item_tested : (words : Words) (before : List Item) (kind : Kind) (value : Option (List ℕ))
    → option_and_then (value_cause words before kind) value ≡ None
    → All IsTested (cond (is_kind kind kinds.Virtual) (option_to_list value) [])
item_tested words before kinds.Virtual None h = All-nil IsTested
item_tested words before kinds.Virtual (Some value) h =
    All-cons IsTested value [] (is_right (is_virtual value) h) (All-nil IsTested)
item_tested words before kinds.Word value h = All-nil IsTested
item_tested words before kinds.Prefix value h = All-nil IsTested
item_tested words before kinds.Channel value h = All-nil IsTested
item_tested words before kinds.ChannelDir value h = All-nil IsTested
item_tested words before kinds.PkgsDir value h = All-nil IsTested
item_tested words before kinds.Jobs value h = All-nil IsTested
item_tested words before kinds.Revision value h = All-nil IsTested
item_tested words before kinds.Revisions value h = All-nil IsTested
item_tested words before kinds.Copy value h = All-nil IsTested
item_tested words before kinds.Strange value h = All-nil IsTested

one_tested : (sub : Subcommand) (words : Words) (before : List Item) (i : Item) → item_cause sub words before i ≡ None
    → All IsTested (value_of kinds.Virtual i)
one_tested sub words before i h =
    item_tested words before i.kind i.value
    (none_mapped (λ why. (i.value_at, why)) (option_and_then (value_cause words before i.kind) i.value)
    (none_behind (not (repeats sub i.kind) && given i.kind before) (i.at, whys.Twice)
    (option_map (λ why. (i.value_at, why)) (option_and_then (value_cause words before i.kind) i.value)) h))

all_tested : (sub : Subcommand) (words : Words) (before is : List Item)
    → ((front : List Item) (i : Item) (behind : List Item) → is ≡ front ++ i ∷ behind → item_cause sub words (before ++ front) i ≡ None)
    → All IsTested (values kinds.Virtual is)
all_tested sub words before [] h = All-nil IsTested
all_tested sub words before (i ∷ is) h =
    All-append IsTested (value_of kinds.Virtual i) (values kinds.Virtual is)
    (one_tested sub words before i (ap (λ b. item_cause sub words b i) (sym (append-nil before)) ∙ h [] i is refl))
    (all_tested sub words (before ++ i ∷ []) is (λ front j behind e.
    ap (λ b. item_cause sub words b j) (append_assoc before (i ∷ []) front) ∙ h (i ∷ front) j behind (ap (λ t. i ∷ t) e)))

tested_given : (value : List ℕ) → IsTested value → IsGiven (virtual_of value)
tested_given value h = (value, h, refl)

weaker : (values : List (List ℕ)) → All IsTested values → All (λ value. IsGiven (virtual_of value)) values
weaker values h = All-weaker IsTested (λ value. IsGiven (virtual_of value)) tested_given values h

pub given_all : (words : List (List ℕ)) (command : Command) → Means words command → All IsGiven command.virtuals
given_all words command m =
    let is : IsCommand false words command = m.command in
    subst (λ (c : Command). All IsGiven c.virtuals) (sym is.command)
    (All-map IsGiven virtual_of (values kinds.Virtual is.is)
    (weaker (values kinds.Virtual is.is) (all_tested is.sub _ [] is.is is.right)))
