-- Texts, their pieces and their tokens.
use Rattle.std.proofs.Common.{◌≡◌, ℕ, Bool, true, false, not, List, [], ◌∷◌, ◌++◌, Option, None, Some, refl, sym, ap, subst, ◌∙◌, arith, append_assoc, append-nil, true≢false}
use Rattle.std.proofs.lemmas.Bool.Decides.{nat_tests}
use Rattle.std.proofs.lemmas.List.Elements.{filter_map-append}
use Rattle.std.proofs.lemmas.List.Folds.{list_all-append}
use Rattle.std.specs.Prelude.{if◌then◌else◌, ◌==◌, ◌&&◌, is_some}
use Rattle.std.specs.List.{concat, cons_option, filter_map, list_all, onto_first}
use Rattle.std.specs.Option.{option_map}
use Rattle.conda_base.specs.Signs.{bar, close_paren, comma, open_paren}
use Rattle.conda_base.specs.Texts.{is_empty}
use Rattle.conda_clause.specs.declared.test.Test.{Test}
use Rattle.conda_clause.specs.declared.token.Token.{Token}
use Rattle.conda_clause.specs.declared.token.Token.TheVariants as token
use Rattle.conda_clause.specs.Pieces.{begins_test, is_mark, pieces, token_of, tokens}
use Rattle.conda_clause.specs.Tests.{IsTest, test_of}
use Rattle.conda_clause.specs.Tree.{Rank, Tree, Writes}
use Rattle.conda_clause.specs.Tree.Tree.{part, either, single, both, test, parens}
use Rattle.conda_clause.proofs.FormLemmas.{is_test_char, read_table, table_read, test_chars}
use Rattle.conda_clause.proofs.PieceLemmas.{free}
use Rattle.conda_clause.proofs.TestLemmas.{NoDotEnd, all_more, and_both, and_left, and_right, test_equal, unlike}
use Rattle.conda_clause.proofs.TruthLemmas.{tree_tokens}

-- The text of a token is one piece.

free_test : (b : ℕ) → is_test_char b ≡ true → free b ≡ true
free_test b h = grind (arith, nat_tests)

pub test_free : (text : List ℕ) (t : Test) → test_of text ≡ Some t → list_all free text ≡ true
test_free text t h = all_more is_test_char free free_test text (test_chars text t h)

free_mark : (b : ℕ) → free b ≡ true → is_mark b ≡ false
free_mark b h = by_mark (is_mark b) h
  where
    by_mark : (k : Bool) → not k ≡ true → k ≡ false
    by_mark true e = sym e
    by_mark false e = refl

pub one_piece : (b : ℕ) (bs : List ℕ) → list_all free (b ∷ bs) ≡ true → pieces (b ∷ bs) ≡ (b ∷ bs) ∷ []
one_piece b [] h = ap (λ k. if k then (b ∷ []) ∷ [] else (b ∷ []) ∷ []) (free_mark b (and_left (free b) true h))
one_piece b (c ∷ cs) h =
    let mark = free_mark b (and_left (free b) (list_all free (c ∷ cs)) h) in
    let rest = and_right (free b) (list_all free (c ∷ cs)) h in
    let bs : List ℕ = c ∷ cs in
    ap (λ k. if k then (b ∷ []) ∷ pieces bs else if begins_test bs then onto_first b (pieces bs) else (b ∷ []) ∷ pieces bs) mark
    ∙ ap (λ k. if k then onto_first b (pieces bs) else (b ∷ []) ∷ pieces bs) (and_left (free c) (list_all free cs) rest)
    ∙ ap (onto_first b) (one_piece c cs rest)

pub free_token : (b : ℕ) (bs : List ℕ) → free b ≡ true → token_of (b ∷ bs) ≡ option_map token.Test (test_of (b ∷ bs))
free_token b bs h =
    let found : Option Token = option_map token.Test (test_of (b ∷ bs)) in
    ap (λ k. if k then Some token.Open else if b == close_paren then Some token.Close else if b == comma then Some token.And
    else if b == bar then Some token.Or else found)
    (unlike free b open_paren h refl)
    ∙ ap (λ k. if k then Some token.Close else if b == comma then Some token.And else if b == bar then Some token.Or else found)
    (unlike free b close_paren h refl)
    ∙ ap (λ k. if k then Some token.And else if b == bar then Some token.Or else found) (unlike free b comma h refl)
    ∙ ap (λ k. if k then Some token.Or else found) (unlike free b bar h refl)

-- the tokens of a text, of which each piece is one
pub record Means (text : List ℕ) (ts : List Token) : Type 0 where
  pub each : list_all (λ piece. is_some (token_of piece)) (pieces text) ≡ true
  pub tokens : tokens text ≡ ts

one_token : (text : List ℕ) (t : Test) → list_all free text ≡ true → test_of text ≡ Some t → Means text (token.Test t ∷ [])
one_token [] t h e = absurd (true≢false (sym (ap is_some e)))
one_token (b ∷ bs) t h e =
    let is : token_of (b ∷ bs) ≡ Some (token.Test t) =
    free_token b bs (and_left (free b) (list_all free bs) h) ∙ ap (option_map token.Test) e in
    record {
      each = ap (list_all (λ piece. is_some (token_of piece))) (one_piece b bs h) ∙ ap (λ o. is_some o && true) is;
      tokens = ap (filter_map token_of) (one_piece b bs h) ∙ ap (λ o. cons_option o []) is;
    }

pub test_means : (text : List ℕ) (t : Test) → test_of text ≡ Some t → Means text (token.Test t ∷ [])
test_means text t h = one_token text t (test_free text t h) h

-- A mark parts the pieces.

pieces_some : (b : ℕ) (bs : List ℕ) → (p : List ℕ) × (ps : List (List ℕ)) × (pieces (b ∷ bs) ≡ p ∷ ps)
pieces_some b bs = by_mark (is_mark b) (begins_test bs) (pieces bs)
  where
    by_mark : (k j : Bool) (more : List (List ℕ))
        → (p : List ℕ) × (ps : List (List ℕ)) × ((if k then (b ∷ []) ∷ more else if j then onto_first b more else (b ∷ []) ∷ more) ≡ p ∷ ps)
    by_mark true j more = (b ∷ [], more, refl)
    by_mark false true [] = (b ∷ [], [], refl)
    by_mark false true (p ∷ ps) = (b ∷ p, ps, refl)
    by_mark false false more = (b ∷ [], more, refl)

onto_append : (b : ℕ) (bs : List ℕ) (more : List (List ℕ)) → begins_test bs ≡ true
    → onto_first b (pieces bs ++ more) ≡ onto_first b (pieces bs) ++ more
onto_append b [] more h = absurd (true≢false (sym h))
onto_append b (c ∷ cs) more h =
    let some = pieces_some c cs in ap (λ ps. onto_first b (ps ++ more)) some.2 ∙ sym (ap (λ ps. onto_first b ps ++ more) some.2)

pieces_joint : (s : List ℕ) (m : ℕ) (t : List ℕ) → is_mark m ≡ true → pieces (s ++ m ∷ t) ≡ pieces s ++ (m ∷ []) ∷ pieces t
pieces_joint [] m t h =
    ap (λ k. if k then (m ∷ []) ∷ pieces t else if begins_test t then onto_first m (pieces t) else (m ∷ []) ∷ pieces t) h
pieces_joint (b ∷ bs) m t h =
    ap (λ k. if is_mark b then (b ∷ []) ∷ pieces (bs ++ m ∷ t) else if k then onto_first b (pieces (bs ++ m ∷ t)) else (b ∷ []) ∷ pieces
    (bs ++ m ∷ t)) (same bs)
    ∙ ap (λ ps. if is_mark b then (b ∷ []) ∷ ps else if begins_test bs then onto_first b ps else (b ∷ []) ∷ ps) (pieces_joint bs m t h)
    ∙ by_mark (is_mark b) (begins_test bs) refl
  where
    more : List (List ℕ)
    more = (m ∷ []) ∷ pieces t

    same : (cs : List ℕ) → begins_test (cs ++ m ∷ t) ≡ begins_test cs
    same [] = ap not h
    same (c ∷ cs) = refl

    by_mark : (k j : Bool) → begins_test bs ≡ j
        → (if k then (b ∷ []) ∷ (pieces bs ++ (m ∷ []) ∷ pieces t) else if j then onto_first b (pieces bs ++ (m ∷ []) ∷ pieces t)
        else (b ∷ []) ∷ (pieces bs ++ (m ∷ []) ∷ pieces t))
        ≡ (if k then (b ∷ []) ∷ pieces bs else if j then onto_first b (pieces bs) else (b ∷ []) ∷ pieces bs) ++ (m ∷ []) ∷ pieces t
    by_mark true j e = refl
    by_mark false true e = onto_append b bs ((m ∷ []) ∷ pieces t) e
    by_mark false false e = refl

joint_means : (s : List ℕ) (m : ℕ) (t : List ℕ) (joint : Token) (ss ts : List Token) → is_mark m ≡ true → token_of (m ∷ []) ≡ Some joint
    → Means s ss → Means t ts
    → Means (s ++ m ∷ t) (ss ++ joint ∷ ts)
joint_means s m t joint ss ts h e f g =
    let is : (ps : List (List ℕ)) → Bool = list_all (λ piece. is_some (token_of piece)) in
    record {
      each = ap is (pieces_joint s m t h) ∙ list_all-append (λ piece. is_some (token_of piece)) (pieces s) ((m ∷ []) ∷ pieces t)
          ∙ and_both (is (pieces s)) (is ((m ∷ []) ∷ pieces t)) f.each
          (and_both (is_some (token_of (m ∷ []))) (is (pieces t)) (ap is_some e) g.each);
      tokens = ap (filter_map token_of) (pieces_joint s m t h) ∙ filter_map-append token_of (pieces s) ((m ∷ []) ∷ pieces t)
          ∙ ap (λ ts'. ts' ++ filter_map token_of ((m ∷ []) ∷ pieces t)) f.tokens ∙ ap (λ o. ss ++ cons_option o (tokens t)) e
          ∙ ap (λ us. ss ++ joint ∷ us) g.tokens;
    }

nothing : Means [] []
nothing = record { each = refl; tokens = refl }

-- a text that writes a tree has its tokens
pub writes_means : (law : NoDotEnd) {rank : Rank} (tree : Tree rank) (text : List ℕ) → Writes tree text → Means text (tree_tokens tree)
writes_means law (part p) text h = writes_means law p text h
writes_means law (either p more) text h =
    subst (λ t. Means t (tree_tokens p ++ token.Or ∷ tree_tokens more)) (sym h.2)
    (joint_means h.0 bar h.1 token.Or (tree_tokens p) (tree_tokens more) refl refl (writes_means law p h.0 h.3)
    (writes_means law more h.1 h.4))
writes_means law (single a) text h = writes_means law a text h
writes_means law (both a more) text h =
    subst (λ t. Means t (tree_tokens a ++ token.And ∷ tree_tokens more)) (sym h.2)
    (joint_means h.0 comma h.1 token.And (tree_tokens a) (tree_tokens more) refl refl (writes_means law a h.0 h.3)
    (writes_means law more h.1 h.4))
writes_means law (test t) text h = test_means text t (table_read law text t h)
writes_means law (parens inside) text h =
    subst (λ t. Means t (token.Open ∷ tree_tokens inside ++ token.Close ∷ [])) (sym h.1)
    (joint_means [] open_paren (h.0 ++ close_paren ∷ []) token.Open [] (tree_tokens inside ++ token.Close ∷ []) refl refl nothing
    (joint_means h.0 close_paren [] token.Close (tree_tokens inside) [] refl refl (writes_means law inside h.0 h.2) nothing))

-- What tokens spell.

-- the text of one token
abbrev pub IsToken : Token → List ℕ → Type 0
IsToken token.Open p = p ≡ open_paren ∷ []
IsToken token.Close p = p ≡ close_paren ∷ []
IsToken token.And p = p ≡ comma ∷ []
IsToken token.Or p = p ≡ bar ∷ []
IsToken (token.Test t) p = test_of p ≡ Some t

-- the texts of tokens, one behind the other
abbrev pub Spells : List Token → List ℕ → Type 0
Spells [] text = text ≡ []
Spells (t ∷ ts) text = (p : List ℕ) × (rest : List ℕ) × (text ≡ p ++ rest) × IsToken t p × Spells ts rest

spells_split : (ts us : List Token) (text : List ℕ) → Spells (ts ++ us) text
    → (front : List ℕ) × (back : List ℕ) × (text ≡ front ++ back) × Spells ts front × Spells us back
spells_split [] us text h = ([], text, refl, refl, h)
spells_split (t ∷ ts) us text h =
    let more = spells_split ts us h.1 h.4 in (
      h.0 ++ more.0,
      more.1,
      h.2 ∙ ap (λ r. h.0 ++ r) more.2
          ∙ sym (append_assoc h.0 more.0 more.1),
      (h.0, more.0, refl, h.3, more.3),
      more.4,
    )

-- what the tokens of a tree spell writes the tree
pub spells_writes : {rank : Rank} (tree : Tree rank) (text : List ℕ) → Spells (tree_tokens tree) text → Writes tree text
spells_writes (part p) text h = spells_writes p text h
spells_writes (either p more) text h =
    let cut = spells_split (tree_tokens p) (token.Or ∷ tree_tokens more) text h in (
      cut.0,
      cut.4.1,
      cut.2
          ∙ ap (λ r. cut.0 ++ r) (cut.4.2 ∙ ap (λ q. q ++ cut.4.1) cut.4.3),
      spells_writes p cut.0 cut.3,
      spells_writes more cut.4.1 cut.4.4,
    )
spells_writes (single a) text h = spells_writes a text h
spells_writes (both a more) text h =
    let cut = spells_split (tree_tokens a) (token.And ∷ tree_tokens more) text h in (
      cut.0,
      cut.4.1,
      cut.2
          ∙ ap (λ r. cut.0 ++ r) (cut.4.2 ∙ ap (λ q. q ++ cut.4.1) cut.4.3),
      spells_writes a cut.0 cut.3,
      spells_writes more cut.4.1 cut.4.4,
    )
spells_writes (test t) text h = subst (λ p. IsTest p t) (sym (h.2 ∙ ap (λ r. h.0 ++ r) h.4 ∙ append-nil h.0)) (read_table h.0 t h.3)
spells_writes (parens inside) text h =
    let cut = spells_split (tree_tokens inside) (token.Close ∷ []) h.1 h.4 in
    let close : cut.1 ≡ close_paren ∷ [] = cut.4.2 ∙ ap (λ q. q ++ cut.4.1) cut.4.3 ∙ ap (λ r. close_paren ∷ r) cut.4.4 in
    (cut.0, h.2 ∙ ap (λ q. q ++ h.1) h.3 ∙ ap (λ r. open_paren ∷ r) (cut.2 ∙ ap (λ r. cut.0 ++ r) close), spells_writes inside cut.0 cut.3)

-- A text is spelled by its tokens.

-- nothing stands behind a mark in its piece
abbrev is_alone : List ℕ → Bool
is_alone [] = true
is_alone (b ∷ bs) = if is_mark b then is_empty bs else true

pieces_alone : (bs : List ℕ) → list_all is_alone (pieces bs) ≡ true
pieces_alone [] = refl
pieces_alone (b ∷ bs) = by_mark (is_mark b) refl (begins_test bs) (pieces bs) (pieces_alone bs)
  where
    unmarked : (r : List ℕ) → is_mark b ≡ false → is_alone (b ∷ r) ≡ true
    unmarked r e = ap (λ q. if q then is_empty r else true) e

    by_mark : (k : Bool) → is_mark b ≡ k → (j : Bool) (ps : List (List ℕ)) → list_all is_alone ps ≡ true
        → list_all is_alone (if k then (b ∷ []) ∷ ps else if j then onto_first b ps else (b ∷ []) ∷ ps) ≡ true
    by_mark true e j ps h = and_both (is_alone (b ∷ [])) (list_all is_alone ps) (ap (λ q. if q then true else true) e) h
    by_mark false e true [] h = and_both (is_alone (b ∷ [])) true (unmarked [] e) refl
    by_mark false e true (p ∷ ps) h =
        and_both (is_alone (b ∷ p)) (list_all is_alone ps) (unmarked p e) (and_right (is_alone p) (list_all is_alone ps) h)
    by_mark false e false ps h = and_both (is_alone (b ∷ [])) (list_all is_alone ps) (unmarked [] e) h

pieces_whole : (bs : List ℕ) → concat (pieces bs) ≡ bs
pieces_whole [] = refl
pieces_whole (b ∷ bs) = by_mark (is_mark b) (begins_test bs) ∙ ap (λ r. b ∷ r) (pieces_whole bs)
  where
    onto : (ps : List (List ℕ)) → concat (onto_first b ps) ≡ b ∷ concat ps
    onto [] = refl
    onto (p ∷ ps) = refl

    by_mark : (k j : Bool)
        → concat (if k then (b ∷ []) ∷ pieces bs else if j then onto_first b (pieces bs) else (b ∷ []) ∷ pieces bs) ≡ b ∷ concat (pieces bs)
    by_mark true j = refl
    by_mark false true = onto (pieces bs)
    by_mark false false = refl

mark_alone : (b : ℕ) (bs : List ℕ) (mark : ℕ) → is_alone (b ∷ bs) ≡ true → (b == mark) ≡ true → is_mark mark ≡ true → b ∷ bs ≡ mark ∷ []
mark_alone b bs mark h e m =
    let same : b ≡ mark = test_equal b mark e in
    let none : is_empty bs ≡ true =
    sym (ap (λ c. if is_mark c then is_empty bs else true) same ∙ ap (λ k. if k then is_empty bs else true) m) ∙ h in
    ap (λ c. c ∷ bs) same ∙ ap (λ r. mark ∷ r) (empty bs none)
  where
    empty : (cs : List ℕ) → is_empty cs ≡ true → cs ≡ []
    empty [] k = refl
    empty (c ∷ cs) k = absurd cc

token_text : (p : List ℕ) (t : Token) → is_alone p ≡ true → token_of p ≡ Some t → IsToken t p
token_text [] t h e = absurd cc
token_text (b ∷ bs) t h e =
    by_marks (b == open_paren) (b == close_paren) (b == comma) (b == bar) refl refl refl refl (test_of (b ∷ bs)) refl e
  where
    given : (u : Token) → Some u ≡ Some t → IsToken u (b ∷ bs) → IsToken t (b ∷ bs)
    given u f is = let same : u ≡ t = cc in subst (λ v. IsToken v (b ∷ bs)) same is

    by_marks : (i j k l : Bool) → (b == open_paren) ≡ i → (b == close_paren) ≡ j → (b == comma) ≡ k → (b == bar) ≡ l → (o : Option Test)
        → test_of (b ∷ bs) ≡ o
        → (if i then Some token.Open else if j then Some token.Close else if k then Some token.And else if l then Some token.Or
        else option_map token.Test o) ≡ Some t
        → IsToken t (b ∷ bs)
    by_marks true j k l ei ej ek el o eo f = given token.Open f (mark_alone b bs open_paren h ei refl)
    by_marks false true k l ei ej ek el o eo f = given token.Close f (mark_alone b bs close_paren h ej refl)
    by_marks false false true l ei ej ek el o eo f = given token.And f (mark_alone b bs comma h ek refl)
    by_marks false false false true ei ej ek el o eo f = given token.Or f (mark_alone b bs bar h el refl)
    by_marks false false false false ei ej ek el None eo f = absurd cc
    by_marks false false false false ei ej ek el (Some x) eo f = given (token.Test x) f eo

pieces_spell : (ps : List (List ℕ)) → list_all is_alone ps ≡ true → list_all (λ piece. is_some (token_of piece)) ps ≡ true
    → Spells (filter_map token_of ps) (concat ps)
pieces_spell [] h k = refl
pieces_spell (p ∷ ps) h k = by_token (token_of p) refl k (pieces_spell ps (and_right (is_alone p) (list_all is_alone ps) h))
  where
    by_token : (o : Option Token) → token_of p ≡ o → (is_some o && list_all (λ piece. is_some (token_of piece)) ps) ≡ true
        → (list_all (λ piece. is_some (token_of piece)) ps ≡ true → Spells (filter_map token_of ps) (concat ps))
        → Spells (cons_option o (filter_map token_of ps)) (p ++ concat ps)
    by_token None e f more = absurd cc
    by_token (Some t) e f more = (p, concat ps, refl, token_text p t (and_left (is_alone p) (list_all is_alone ps) h) e, more f)

pub text_spells : (text : List ℕ) → list_all (λ piece. is_some (token_of piece)) (pieces text) ≡ true → Spells (tokens text) text
text_spells text h = subst (Spells (tokens text)) (pieces_whole text) (pieces_spell (pieces text) (pieces_alone text) h)
