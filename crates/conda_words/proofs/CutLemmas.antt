-- What is cut, where nothing in it is strange or lacking, is in the grammar.
use Rattle.std.proofs.Common.{◌≡◌, ℕ, ◌+◌, Bool, true, false, List, [], ◌∷◌, ◌++◌, refl, sym, ap, ◌∙◌, subst}
use Rattle.std.specs.Prelude.{Option, None, Some, if◌then◌else◌, not, ◌||◌, codes, find, is_none, unwrap_or}
use Rattle.std.specs.Str.{bytes_eq}
use Rattle.std.proofs.lemmas.Slice.Eq.{bytes_eq-Decides}
use Rattle.conda_base.specs.Signs.{dash, equals}
use Rattle.conda_base.specs.Texts.{begins_with, cut_first}
use Rattle.conda_words.specs.Cut.{dashed_item, ends_options, item, items, long_option, own_item, takes_next}
use Rattle.conda_words.specs.Grammar.{Cuts, Spells, done, ends, flag, joined, plain_word, valued}
use Rattle.conda_words.specs.Table.{Subcommand, has, is_kind, is_long, options, own_option, spelling, takes}
use Rattle.conda_words.specs.declared.cut.Item.{Item}
use Rattle.conda_words.specs.declared.table.Kind.{Kind}
use Rattle.conda_words.specs.declared.table.Kind.TheVariants as kinds
use Rattle.conda_words.proofs.ItemLemmas.{items_end, items_lacking, items_own, items_valued}

-- it is no strange word, and its value is there
pub record IsWhole (i : Item) : Type 0 where
  pub known : is_kind i.kind kinds.Strange ≡ false
  pub there : is_none i.value ≡ false

abbrev pub AreWhole : List Item → Type 0
AreWhole [] = Unit {0}
AreWhole (i ∷ is) = IsWhole i × AreWhole is

-- ---- an option that is found is spelled so

same_kind : (kind : Kind) → is_kind kind kind ≡ true
same_kind kind = (bytes_eq-Decides (spelling kind) (spelling kind)).1 refl

some_same : (x y : Kind) → Some x ≡ Some y → x ≡ y
some_same x y e = cc

or_right : (a b : Bool) → b ≡ true → (a || b) ≡ true
or_right true b h = refl
or_right false b h = h

or_left : (a b : Bool) → a ≡ true → (a || b) ≡ true
or_left true b h = refl
or_left false b h = cc

spelled : (word : List ℕ) (ks : List Kind) (kind : Kind) → find (λ k. bytes_eq word (spelling k)) ks ≡ Some kind
    → (has ks kind ≡ true) × (word ≡ spelling kind)
spelled word [] kind h = cc
spelled word (k ∷ ks) kind h = by (bytes_eq word (spelling k)) refl h (spelled word ks kind)
  where
    by : (t : Bool) → bytes_eq word (spelling k) ≡ t → (if t then Some k else find (λ k. bytes_eq word (spelling k)) ks) ≡ Some kind
        → (find (λ k. bytes_eq word (spelling k)) ks ≡ Some kind → (has ks kind ≡ true) × (word ≡ spelling kind))
        → (has (k ∷ ks) kind ≡ true) × (word ≡ spelling kind)
    by true e f more =
        let same = some_same k kind f in (
          or_left (is_kind kind k) (has ks kind) (ap (is_kind kind) same ∙ same_kind kind),
          (bytes_eq-Decides word (spelling k)).0 e
              ∙ ap spelling same,
        )
    by false e f more = let rest = more f in (or_right (is_kind kind k) (has ks kind) rest.0, rest.1)

chosen_strange : (b : Bool) (kind : Kind) → is_kind (if b then kind else kinds.Strange) kinds.Strange ≡ false → b ≡ true
chosen_strange true kind h = refl
chosen_strange false kind h = cc

strange_chosen : (b : Bool) → is_kind (if b then kinds.Strange else kinds.Strange) kinds.Strange ≡ false → ⊥
strange_chosen true h = cc
strange_chosen false h = cc

pub own_spells : (sub : Subcommand) (word : List ℕ) → is_kind (own_option sub word) kinds.Strange ≡ false
    → Spells sub word (own_option sub word)
own_spells sub word h = by (find (λ k. bytes_eq word (spelling k)) options) refl
  where
    by : (o : Option Kind) → find (λ k. bytes_eq word (spelling k)) options ≡ o → Spells sub word (own_option sub word)
    by None e =
        let own = ap (λ o. unwrap_or o kinds.Strange) e in
        absurd (strange_chosen (takes sub kinds.Strange)
        (ap (λ k. is_kind (if takes sub k then k else kinds.Strange) kinds.Strange) (sym own) ∙ h))
    by (Some kind) e =
        let own = ap (λ o. unwrap_or o kinds.Strange) e in
        let taken =
        chosen_strange (takes sub kind) kind (ap (λ k. is_kind (if takes sub k then k else kinds.Strange) kinds.Strange) (sym own) ∙ h) in
        let all = ap (λ k. if takes sub k then k else kinds.Strange) own ∙ ap (λ b. if b then kind else kinds.Strange) taken in
        let found = spelled word options kind e in
        subst (Spells sub word) (sym all) (record { known = found.0; taken = taken; spelled = found.1 })

-- ---- words behind `--`

plain_cuts : (sub : Subcommand) (at : ℕ) (words : List (List ℕ)) → Cuts sub true at words (items sub true at words)
unfolding items
plain_cuts sub at [] = done true at
plain_cuts sub at (word ∷ rest) =
    subst (Cuts sub true at (word ∷ rest)) (sym (items_own sub true at word rest refl refl))
    (plain_word true at word rest (items sub true (at + 1) rest) refl (plain_cuts sub (at + 1) rest))

-- ---- a word before it

module _ (cut_whole : (text before behind : List ℕ) → cut_first equals text ≡ Some (before, behind)
    → text ≡ before ++ equals ∷ behind) where
  dashed_cuts : (sub : Subcommand) (at : ℕ) (word : List ℕ) (rest : List (List ℕ)) (is : List Item) (cut : Option (List ℕ × List ℕ))
      → cut_first equals word ≡ cut → takes_next sub false word ≡ false → IsWhole (dashed_item sub at word cut)
      → Cuts sub false (at + 1) rest is → Cuts sub false at (word ∷ rest) (dashed_item sub at word cut ∷ is)
  dashed_cuts sub at word rest is None e takes whole more =
      flag at word (own_option sub word) rest is (own_spells sub word whole.known) takes more
  dashed_cuts sub at word rest is (Some halves) e takes whole more = by (is_long (own_option sub halves.0)) refl
    where
      by : (t : Bool) → is_long (own_option sub halves.0) ≡ t
          → Cuts sub false at (word ∷ rest) (item (long_option (own_option sub halves.0)) at at (Some halves.1) ∷ is)
      by true l =
          let same = ap (λ b. if b then own_option sub halves.0 else kinds.Strange) l in
          let spells = own_spells sub halves.0 (ap (λ k. is_kind k kinds.Strange) (sym same) ∙ whole.known) in
          let made = joined at halves.0 (own_option sub halves.0) halves.1 rest is spells l more in
          subst (λ k. Cuts sub false at (word ∷ rest) (item k at at (Some halves.1) ∷ is)) (sym same)
          (subst (λ w. Cuts sub false at (w ∷ rest) (item (own_option sub halves.0) at at (Some halves.1) ∷ is))
          (sym (cut_whole word halves.0 halves.1 e)) made)
      by false l =
          absurd (no (ap (λ k. is_kind k kinds.Strange) (sym (ap (λ b. if b then own_option sub halves.0 else kinds.Strange) l))
          ∙ whole.known))
        where
          no : true ≡ false → ⊥
          no x = cc

  word_cuts : (sub : Subcommand) (at : ℕ) (word : List ℕ) (rest : List (List ℕ)) (is : List Item) → takes_next sub false word ≡ false
      → IsWhole (own_item sub false at word) → Cuts sub false (at + 1) rest is
      → Cuts sub false at (word ∷ rest) (own_item sub false at word ∷ is)
  word_cuts sub at word rest is takes whole more = by (begins_with dash word) refl
    where
      by : (t : Bool) → begins_with dash word ≡ t → Cuts sub false at (word ∷ rest) (own_item sub false at word ∷ is)
      by false e =
          subst (λ b. Cuts sub false at (word ∷ rest)
          ((if not b then item kinds.Word at at (Some word) else dashed_item sub at word (cut_first equals word)) ∷ is)) (sym e)
          (plain_word false at word rest is (ap not e) more)
      by true e =
          let same = ap (λ b. if not b then item kinds.Word at at (Some word) else dashed_item sub at word (cut_first equals word)) e in
          subst (λ i. Cuts sub false at (word ∷ rest) (i ∷ is)) (sym same)
          (dashed_cuts sub at word rest is (cut_first equals word) refl takes (subst IsWhole same whole) more)

  end_cuts : (sub : Subcommand) (at : ℕ) (word : List ℕ) (rest : List (List ℕ)) → ends_options false word ≡ true
      → Cuts sub false at (word ∷ rest) (items sub false at (word ∷ rest))
  end_cuts sub at word rest e =
      subst (Cuts sub false at (word ∷ rest)) (sym (items_end sub false at word rest e))
      (ends at word rest (items sub true (at + 1) rest) ((bytes_eq-Decides word (codes "--")).0 e) (plain_cuts sub (at + 1) rest))

  own_cuts : (sub : Subcommand) (at : ℕ) (word : List ℕ) (rest : List (List ℕ)) → ends_options false word ≡ false
      → takes_next sub false word ≡ false → AreWhole (items sub false at (word ∷ rest))
      → (AreWhole (items sub false (at + 1) rest) → Cuts sub false (at + 1) rest (items sub false (at + 1) rest))
      → Cuts sub false at (word ∷ rest) (items sub false at (word ∷ rest))
  own_cuts sub at word rest e t whole more =
      let same = items_own sub false at word rest e t in
      let parts = subst AreWhole same whole in
      subst (Cuts sub false at (word ∷ rest)) (sym same)
      (word_cuts sub at word rest (items sub false (at + 1) rest) t parts.0 (more parts.1))

  pub items_cuts : (sub : Subcommand) (at : ℕ) (words : List (List ℕ)) → AreWhole (items sub false at words)
      → Cuts sub false at words (items sub false at words)
  unfolding items
  items_cuts sub at [] whole = done false at
  items_cuts sub at (word ∷ []) whole = by (ends_options false word) refl (takes_next sub false word) refl (items_cuts sub (at + 1) [])
    where
      by : (b : Bool) → ends_options false word ≡ b → (t : Bool) → takes_next sub false word ≡ t
          → (AreWhole (items sub false (at + 1) []) → Cuts sub false (at + 1) [] (items sub false (at + 1) []))
          → Cuts sub false at (word ∷ []) (items sub false at (word ∷ []))
      by true e t f more = end_cuts sub at word [] e
      by false e true f more =
          let parts = subst AreWhole (items_lacking sub false at word e f) whole in
          absurd (no parts.0.there)
        where
          no : true ≡ false → ⊥
          no x = cc
      by false e false f more = own_cuts sub at word [] e f whole more
  items_cuts sub at (word ∷ next ∷ more) whole =
      by (ends_options false word) refl (takes_next sub false word) refl (items_cuts sub (at + 1) (next ∷ more))
      (items_cuts sub (at + 2) more)
    where
      by : (b : Bool) → ends_options false word ≡ b → (t : Bool) → takes_next sub false word ≡ t
          → (AreWhole (items sub false (at + 1) (next ∷ more))
          → Cuts sub false (at + 1) (next ∷ more) (items sub false (at + 1) (next ∷ more)))
          → (AreWhole (items sub false (at + 2) more) → Cuts sub false (at + 2) more (items sub false (at + 2) more))
          → Cuts sub false at (word ∷ next ∷ more) (items sub false at (word ∷ next ∷ more))
      by true e t f own last = end_cuts sub at word (next ∷ more) e
      by false e true f own last =
          let same = items_valued sub false at word next more e f in
          let parts = subst AreWhole same whole in
          subst (Cuts sub false at (word ∷ next ∷ more)) (sym same)
          (valued at word (own_option sub word) next more (items sub false (at + 2) more) (own_spells sub word parts.0.known) f
          (last parts.1))
      by false e false f own last = own_cuts sub at word (next ∷ more) e f whole own
