-- What one more word makes of the items.
use Rattle.std.proofs.Common.{◌≡◌, ℕ, ◌+◌, Bool, true, false, List, [], ◌∷◌, ◌++◌, sym, ap, ◌∙◌, append_assoc}
use Rattle.std.specs.Prelude.{None, Some, if◌then◌else◌}
use Rattle.std.proofs.lemmas.List.{append-nil}
use Rattle.conda_words.specs.Cut.{ends_options, items, own_item, takes_next, valued_item}
use Rattle.conda_words.specs.Table.{Subcommand}
use Rattle.conda_words.specs.declared.cut.Item.{Item}

-- `--` ends the options
pub items_end : (sub : Subcommand) (plain : Bool) (at : ℕ) (word : List ℕ) (rest : List (List ℕ)) → ends_options plain word ≡ true
    → items sub plain at (word ∷ rest) ≡ items sub true (at + 1) rest
unfolding items
items_end sub plain at word [] e =
    ap (λ b. if b then [] else if takes_next sub plain word then valued_item sub at word None ∷ [] else own_item sub plain at word ∷ []) e
items_end sub plain at word (next ∷ more) e =
    ap (λ b. if b then items sub true (at + 1) (next ∷ more) else if takes_next sub plain word then valued_item sub at word
    (Some next) ∷ items sub plain (at + 2) more else own_item sub plain at word ∷ items sub plain (at + 1) (next ∷ more)) e

-- a word by itself
pub items_own : (sub : Subcommand) (plain : Bool) (at : ℕ) (word : List ℕ) (rest : List (List ℕ)) → ends_options plain word ≡ false
    → takes_next sub plain word ≡ false → items sub plain at (word ∷ rest) ≡ own_item sub plain at word ∷ items sub plain (at + 1) rest
unfolding items
items_own sub plain at word [] e t =
    ap (λ b. if b then [] else if takes_next sub plain word then valued_item sub at word None ∷ [] else own_item sub plain at word ∷ []) e
    ∙ ap (λ b. if b then valued_item sub at word None ∷ [] else own_item sub plain at word ∷ []) t
items_own sub plain at word (next ∷ more) e t =
    ap (λ b. if b then items sub true (at + 1) (next ∷ more) else if takes_next sub plain word then valued_item sub at word
    (Some next) ∷ items sub plain (at + 2) more else own_item sub plain at word ∷ items sub plain (at + 1) (next ∷ more)) e
    ∙ ap (λ b. if b then valued_item sub at word (Some next) ∷ items sub plain (at + 2) more
    else own_item sub plain at word ∷ items sub plain (at + 1) (next ∷ more)) t

-- an option with its value
pub items_valued : (sub : Subcommand) (plain : Bool) (at : ℕ) (word next : List ℕ) (more : List (List ℕ)) → ends_options plain word ≡ false
    → takes_next sub plain word ≡ true
    → items sub plain at (word ∷ next ∷ more) ≡ valued_item sub at word (Some next) ∷ items sub plain (at + 2) more
unfolding items
items_valued sub plain at word next more e t =
    ap (λ b. if b then items sub true (at + 1) (next ∷ more) else if takes_next sub plain word then valued_item sub at word
    (Some next) ∷ items sub plain (at + 2) more else own_item sub plain at word ∷ items sub plain (at + 1) (next ∷ more)) e
    ∙ ap (λ b. if b then valued_item sub at word (Some next) ∷ items sub plain (at + 2) more
    else own_item sub plain at word ∷ items sub plain (at + 1) (next ∷ more)) t

-- an option that lacks its value
pub items_lacking : (sub : Subcommand) (plain : Bool) (at : ℕ) (word : List ℕ) → ends_options plain word ≡ false
    → takes_next sub plain word ≡ true → items sub plain at (word ∷ []) ≡ valued_item sub at word None ∷ []
unfolding items
items_lacking sub plain at word e t =
    ap (λ b. if b then [] else if takes_next sub plain word then valued_item sub at word None ∷ [] else own_item sub plain at word ∷ []) e
    ∙ ap (λ b. if b then valued_item sub at word None ∷ [] else own_item sub plain at word ∷ []) t

-- ---- one more word, in a loop that has made some items

pub carried_end : (made all : List Item) (sub : Subcommand) (plain : Bool) (at : ℕ) (left : List (List ℕ)) (word : List ℕ)
    (rest : List (List ℕ)) → left ≡ word ∷ rest → ends_options plain word ≡ true → made ++ items sub plain at left ≡ all
    → made ++ items sub true (at + 1) rest ≡ all
carried_end made all sub plain at left word rest split ends inv =
    ap (λ ps. made ++ ps) (sym (items_end sub plain at word rest ends)) ∙ ap (λ l. made ++ items sub plain at l) (sym split) ∙ inv

pushed_all : (made after : List Item) (p q : Item) (ps : List Item) → after ≡ made ++ p ∷ [] → p ≡ q → after ++ ps ≡ made ++ (q ∷ ps)
pushed_all made after p q ps pushed same =
    ap (λ m. m ++ ps) pushed ∙ append_assoc made (p ∷ []) ps ∙ ap (λ r. made ++ (r ∷ ps)) same

pub carried_own : (made after all : List Item) (p : Item) (sub : Subcommand) (plain : Bool) (at : ℕ) (left : List (List ℕ)) (word : List ℕ)
    (rest : List (List ℕ)) → left ≡ word ∷ rest → ends_options plain word ≡ false → takes_next sub plain word ≡ false
    → after ≡ made ++ p ∷ [] → p ≡ own_item sub plain at word → made ++ items sub plain at left ≡ all
    → after ++ items sub plain (at + 1) rest ≡ all
carried_own made after all p sub plain at left word rest split ends takes pushed same inv =
    pushed_all made after p (own_item sub plain at word) (items sub plain (at + 1) rest) pushed same
    ∙ ap (λ ps. made ++ ps) (sym (items_own sub plain at word rest ends takes)) ∙ ap (λ l. made ++ items sub plain at l) (sym split) ∙ inv

pub carried_valued : (made after all : List Item) (p : Item) (sub : Subcommand) (plain : Bool) (at : ℕ) (left : List (List ℕ))
    (word : List ℕ) (rest : List (List ℕ)) (next : List ℕ) (more : List (List ℕ)) → left ≡ word ∷ rest → rest ≡ next ∷ more
    → ends_options plain word ≡ false → takes_next sub plain word ≡ true → after ≡ made ++ p ∷ [] → p ≡ valued_item sub at word (Some next)
    → made ++ items sub plain at left ≡ all → after ++ items sub plain (at + 2) more ≡ all
carried_valued made after all p sub plain at left word rest next more split cut ends takes pushed same inv =
    pushed_all made after p (valued_item sub at word (Some next)) (items sub plain (at + 2) more) pushed same
    ∙ ap (λ ps. made ++ ps) (sym (items_valued sub plain at word next more ends takes))
    ∙ ap (λ l. made ++ items sub plain at (word ∷ l)) (sym cut) ∙ ap (λ l. made ++ items sub plain at l) (sym split) ∙ inv

pub carried_lacking : (made after all : List Item) (p : Item) (sub : Subcommand) (plain : Bool) (at : ℕ) (left : List (List ℕ))
    (word : List ℕ) (rest : List (List ℕ)) → left ≡ word ∷ rest → rest ≡ [] → ends_options plain word ≡ false
    → takes_next sub plain word ≡ true → after ≡ made ++ p ∷ [] → p ≡ valued_item sub at word None → made ++ items sub plain at left ≡ all
    → after ≡ all
carried_lacking made after all p sub plain at left word rest split none ends takes pushed same inv =
    pushed ∙ ap (λ r. made ++ r ∷ []) same ∙ ap (λ ps. made ++ ps) (sym (items_lacking sub plain at word ends takes))
    ∙ ap (λ l. made ++ items sub plain at (word ∷ l)) (sym none) ∙ ap (λ l. made ++ items sub plain at l) (sym split) ∙ inv

pub carried_none : (made all : List Item) (sub : Subcommand) (plain : Bool) (at : ℕ) (left : List (List ℕ)) → left ≡ []
    → made ++ items sub plain at left ≡ all → made ≡ all
unfolding items
carried_none made all sub plain at left none inv = sym (append-nil made) ∙ ap (λ l. made ++ items sub plain at l) (sym none) ∙ inv
