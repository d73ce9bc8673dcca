-- The words that are read are those of the grammar.
use Rattle.std.proofs.Common.{◌≡◌, ℕ, ◌+◌, Bool, true, false, List, [], ◌∷◌, ◌++◌, refl, sym, ap, ◌∙◌}
use Rattle.std.specs.Prelude.{None, Some, if◌then◌else◌, not, ◌==◌, codes}
use Rattle.std.specs.Str.{bytes_eq}
use Rattle.conda_base.specs.Signs.{dash, equals}
use Rattle.conda_base.specs.Texts.{begins_with, cut_first}
use Rattle.conda_words.specs.Cut.{dashed_item, ends_options, is_plain_word, item, items, long_option, takes_next}
use Rattle.conda_words.specs.Grammar.{Cuts, Spells, done, ends, flag, joined, plain_word, valued}
use Rattle.conda_words.specs.Table.{Subcommand, has, has_value, is_long, option_of, options, own_option, spelling, takes}
use Rattle.conda_words.specs.declared.cut.Item.{Item}
use Rattle.conda_words.specs.declared.table.Kind.{Kind}
use Rattle.conda_words.specs.declared.table.Kind.TheVariants as kinds
use Rattle.conda_words.proofs.ItemLemmas.{items_end, items_own, items_valued}

-- ---- an option is the one that its spelling names

pub spells_own : (sub : Subcommand) (word : List ℕ) (kind : Kind) → Spells sub word kind → own_option sub word ≡ kind
spells_own sub word kinds.Word s = elim (no s.known) [ ]
  where
    no : false ≡ true → ⊥
    no e = cc
spells_own sub word kinds.Prefix s = ap (own_option sub) s.spelled ∙ ap (λ b. if b then kinds.Prefix else kinds.Strange) s.taken
spells_own sub word kinds.Channel s = ap (own_option sub) s.spelled ∙ ap (λ b. if b then kinds.Channel else kinds.Strange) s.taken
spells_own sub word kinds.ChannelDir s = ap (own_option sub) s.spelled ∙ ap (λ b. if b then kinds.ChannelDir else kinds.Strange) s.taken
spells_own sub word kinds.PkgsDir s = ap (own_option sub) s.spelled ∙ ap (λ b. if b then kinds.PkgsDir else kinds.Strange) s.taken
spells_own sub word kinds.Jobs s = ap (own_option sub) s.spelled ∙ ap (λ b. if b then kinds.Jobs else kinds.Strange) s.taken
spells_own sub word kinds.Virtual s = ap (own_option sub) s.spelled ∙ ap (λ b. if b then kinds.Virtual else kinds.Strange) s.taken
spells_own sub word kinds.Revision s = ap (own_option sub) s.spelled ∙ ap (λ b. if b then kinds.Revision else kinds.Strange) s.taken
spells_own sub word kinds.Revisions s = ap (own_option sub) s.spelled ∙ ap (λ b. if b then kinds.Revisions else kinds.Strange) s.taken
spells_own sub word kinds.Copy s = ap (own_option sub) s.spelled ∙ ap (λ b. if b then kinds.Copy else kinds.Strange) s.taken
spells_own sub word kinds.Strange s = elim (no s.known) [ ]
  where
    no : false ≡ true → ⊥
    no e = cc

-- how the spelling of an option looks
pub record IsDashed (word : List ℕ) : Type 0 where
  pub no_end : bytes_eq word (codes "--") ≡ false
  pub dashed : begins_with dash word ≡ true

pub dashed_spelling : (kind : Kind) → has options kind ≡ true → IsDashed (spelling kind)
dashed_spelling kinds.Word h = cc
dashed_spelling kinds.Prefix h = record { no_end = refl; dashed = refl }
dashed_spelling kinds.Channel h = record { no_end = refl; dashed = refl }
dashed_spelling kinds.ChannelDir h = record { no_end = refl; dashed = refl }
dashed_spelling kinds.PkgsDir h = record { no_end = refl; dashed = refl }
dashed_spelling kinds.Jobs h = record { no_end = refl; dashed = refl }
dashed_spelling kinds.Virtual h = record { no_end = refl; dashed = refl }
dashed_spelling kinds.Revision h = record { no_end = refl; dashed = refl }
dashed_spelling kinds.Revisions h = record { no_end = refl; dashed = refl }
dashed_spelling kinds.Copy h = record { no_end = refl; dashed = refl }
dashed_spelling kinds.Strange h = cc

pub uncut_flag : (kind : Kind) → has options kind ≡ true → has_value kind ≡ false → cut_first equals (spelling kind) ≡ None
uncut_flag kinds.Word h v = cc
uncut_flag kinds.Prefix h v = cc
uncut_flag kinds.Channel h v = cc
uncut_flag kinds.ChannelDir h v = cc
uncut_flag kinds.PkgsDir h v = cc
uncut_flag kinds.Jobs h v = cc
uncut_flag kinds.Virtual h v = cc
uncut_flag kinds.Revision h v = cc
uncut_flag kinds.Revisions h v = refl
uncut_flag kinds.Copy h v = refl
uncut_flag kinds.Strange h v = cc

-- `--OPTION=VALUE`
pub record IsLongForm (kind : Kind) (value : List ℕ) : Type 0 where
  pub no_end : bytes_eq (spelling kind ++ equals ∷ value) (codes "--") ≡ false
  pub dashed : begins_with dash (spelling kind ++ equals ∷ value) ≡ true
  pub cut : cut_first equals (spelling kind ++ equals ∷ value) ≡ Some (spelling kind, value)
  pub no_option : option_of (spelling kind ++ equals ∷ value) ≡ kinds.Strange

pub long_form : (kind : Kind) (value : List ℕ) → is_long kind ≡ true → IsLongForm kind value
long_form kinds.Word value h = cc
long_form kinds.Prefix value h = cc
long_form kinds.Channel value h = cc
long_form kinds.ChannelDir value h = record { no_end = refl; dashed = refl; cut = refl; no_option = refl }
long_form kinds.PkgsDir value h = record { no_end = refl; dashed = refl; cut = refl; no_option = refl }
long_form kinds.Jobs value h = record { no_end = refl; dashed = refl; cut = refl; no_option = refl }
long_form kinds.Virtual value h = record { no_end = refl; dashed = refl; cut = refl; no_option = refl }
long_form kinds.Revision value h = record { no_end = refl; dashed = refl; cut = refl; no_option = refl }
long_form kinds.Revisions value h = cc
long_form kinds.Copy value h = cc
long_form kinds.Strange value h = cc

strange_either : (b : Bool) → (if b then kinds.Strange else kinds.Strange) ≡ kinds.Strange
strange_either true = refl
strange_either false = refl

pub own_strange : (sub : Subcommand) (word : List ℕ) → option_of word ≡ kinds.Strange → own_option sub word ≡ kinds.Strange
own_strange sub word e = ap (λ k. if takes sub k then k else kinds.Strange) e ∙ strange_either (takes sub kinds.Strange)

undashed : (word : List ℕ) → not (begins_with dash word) ≡ true → option_of word ≡ kinds.Strange
undashed [] h = refl
undashed (b ∷ rest) h = other (b == dash) refl
  where
    other : (t : Bool) → (b == dash) ≡ t → option_of (b ∷ rest) ≡ kinds.Strange
    other true e = cc
    other false e = rw e refl

undashed_end : (word : List ℕ) → not (begins_with dash word) ≡ true → bytes_eq word (codes "--") ≡ false
undashed_end [] h = refl
undashed_end (b ∷ rest) h = other (b == dash) refl
  where
    other : (t : Bool) → (b == dash) ≡ t → bytes_eq (b ∷ rest) (codes "--") ≡ false
    other true e = cc
    other false e = rw e refl

-- ---- what the grammar cuts is cut so

plain_facts : (sub : Subcommand) (plain : Bool) (at : ℕ) (word : List ℕ) → is_plain_word plain word ≡ true
    → (ends_options plain word ≡ false) × (takes_next sub plain word ≡ false)
plain_facts sub true at word p = (refl, refl)
plain_facts sub false at word p = (undashed_end word p, ap has_value (own_strange sub word (undashed word p)))

pub cuts_items : (sub : Subcommand) (plain : Bool) (at : ℕ) (words : List (List ℕ)) (is : List Item) → Cuts sub plain at words is
    → items sub plain at words ≡ is
unfolding items
cuts_items sub plain at [] is (done _ _) = refl
cuts_items sub plain at words is (ends _ word rest _ e more) =
    items_end sub false at word rest (ap (λ w. bytes_eq w (codes "--")) e) ∙ cuts_items sub true (at + 1) rest is more
cuts_items sub plain at words _ (plain_word _ _ word rest is p more) =
    let facts = plain_facts sub plain at word p in
    items_own sub plain at word rest facts.0 facts.1
    ∙ ap (λ b. (if b then item kinds.Word at at (Some word) else dashed_item sub at word (cut_first equals word)) ∷ items sub plain
    (at + 1) rest) p
    ∙ ap (λ more_items. item kinds.Word at at (Some word) ∷ more_items) (cuts_items sub plain (at + 1) rest is more)
cuts_items sub plain at words _ (flag _ word kind rest is s v more) =
    let own = spells_own sub word kind s in
    let look = dashed_spelling kind s.known in
    items_own sub false at word rest (ap (λ w. bytes_eq w (codes "--")) s.spelled ∙ look.no_end) (ap has_value own ∙ v)
    ∙ ap (λ b. (if not b then item kinds.Word at at (Some word) else dashed_item sub at word (cut_first equals word)) ∷ items sub false
    (at + 1) rest) (ap (begins_with dash) s.spelled ∙ look.dashed)
    ∙ ap (λ cut. dashed_item sub at word cut ∷ items sub false (at + 1) rest) (ap (cut_first equals) s.spelled ∙ uncut_flag kind s.known v)
    ∙ ap (λ k. item k at at (Some []) ∷ items sub false (at + 1) rest) own
    ∙ ap (λ more_items. item kind at at (Some []) ∷ more_items) (cuts_items sub false (at + 1) rest is more)
cuts_items sub plain at words _ (valued _ word kind value rest is s v more) =
    let own = spells_own sub word kind s in
    let look = dashed_spelling kind s.known in
    items_valued sub false at word value rest (ap (λ w. bytes_eq w (codes "--")) s.spelled ∙ look.no_end) (ap has_value own ∙ v)
    ∙ ap (λ k. item k at (at + 1) (Some value) ∷ items sub false (at + 2) rest) own
    ∙ ap (λ more_items. item kind at (at + 1) (Some value) ∷ more_items) (cuts_items sub false (at + 2) rest is more)
cuts_items sub plain at words _ (joined _ name kind value rest is s l more) =
    let look = long_form kind value l in
    let word = name ++ equals ∷ value in
    let same = ap (λ n. n ++ equals ∷ value) s.spelled in
    items_own sub false at word rest (ap (λ w. bytes_eq w (codes "--")) same ∙ look.no_end)
    (ap has_value (own_strange sub word (ap option_of same ∙ look.no_option)))
    ∙ ap (λ b. (if not b then item kinds.Word at at (Some word) else dashed_item sub at word (cut_first equals word)) ∷ items sub false
    (at + 1) rest) (ap (begins_with dash) same ∙ look.dashed)
    ∙ ap (λ cut. dashed_item sub at word cut ∷ items sub false (at + 1) rest)
    (ap (cut_first equals) same ∙ look.cut ∙ ap (λ n. Some (n, value)) (sym s.spelled))
    ∙ ap (λ k. item (long_option k) at at (Some value) ∷ items sub false (at + 1) rest) (spells_own sub name kind s)
    ∙ ap (λ b. item (if b then kind else kinds.Strange) at at (Some value) ∷ items sub false (at + 1) rest) l
    ∙ ap (λ more_items. item kind at at (Some value) ∷ more_items) (cuts_items sub false (at + 1) rest is more)
