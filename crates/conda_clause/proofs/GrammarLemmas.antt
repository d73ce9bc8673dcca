-- Texts without a fault are those that write a tree.
use Rattle.std.proofs.Common.{◌≡◌, ℕ, zero, suc, ◌+◌, ◌-◌, ◌<◌, ◌≤◌, Bool, true, false, nat_lt, List, [], ◌∷◌, ◌++◌, length, Option, None, Some, Result, Ok, Err, refl, sym, ap, subst, ◌∙◌, arith, append_assoc, append-nil, true≢false}
use Rattle.std.proofs.lemmas.Bool.Decides.{nat_tests}
use Rattle.std.proofs.Math.Nat.{max-le}
use Rattle.std.specs.Prelude.{if◌then◌else◌, ◌==◌, ◌&&◌, is_some}
use Rattle.std.specs.List.{cons_option, filter_map, list_all}
use Rattle.conda_base.specs.Signs.{close_paren, open_paren}
use Rattle.conda_clause.specs.declared.error.SpecWhy.{SpecWhy}
use Rattle.conda_clause.specs.declared.error.SpecWhy.TheVariants.{Paren, Version}
use Rattle.conda_clause.specs.declared.reading.Wanted.{Wanted}
use Rattle.conda_clause.specs.declared.reading.Wanted.TheVariants.{Atom, Joint}
use Rattle.conda_clause.specs.declared.test.Test as tests
use Rattle.conda_clause.specs.declared.token.Token.{Token}
use Rattle.conda_clause.specs.declared.token.Token.TheVariants.{And, Close, Open, Or, Test}
use Rattle.conda_clause.specs.Clause.{after, clause_fault, closers, fault_from, lesser, step, unclosed}
use Rattle.conda_clause.specs.Pieces.{pieces, token_of, tokens}
use Rattle.conda_clause.specs.Tree.{IsClause, Rank, Tree, nesting}
use Rattle.conda_clause.specs.Tree.Rank.{atom, or}
use Rattle.conda_clause.specs.Tree.Tree.{both, either, parens, part, single, test}
use Rattle.conda_clause.proofs.FaultLemmas.{is_token, left_none, tokens_all}
use Rattle.conda_clause.proofs.PieceLemmas.{free}
use Rattle.conda_clause.proofs.SpellLemmas.{IsToken, Spells, spells_writes, test_free, text_spells, writes_means}
use Rattle.conda_clause.proofs.TestLemmas.{NoDotEnd, and_left, and_right, test_equal, unlike}
use Rattle.conda_clause.proofs.TruthLemmas.{tree_tokens}

-- Reading tokens.

-- at the end no test may be missing, and no parenthesis open
abbrev ends : Wanted → ℕ → Bool
ends Atom depth = false
ends Joint depth = depth == 0

-- the tokens are read to the end
abbrev runs : Wanted → ℕ → List Token → Bool
runs wanted depth [] = ends wanted depth
runs wanted depth (t ∷ ts) = after (step wanted depth (Some t)) (λ next deep. runs next deep ts) (λ why. false)

-- The tokens of a tree are read, at each depth that leaves room.

reads_open : (depth : ℕ) (ts : List Token) → depth < 32 → runs Atom depth (Open ∷ ts) ≡ runs Atom (depth + 1) ts
reads_open depth ts less =
    let in_room : nat_lt depth 32 ≡ true = grind (arith, nat_tests) in
    ap (λ k. after (if k then Ok (Atom, depth + 1) else Err Paren) (λ next deep. runs next deep ts) (λ why. false)) in_room

reads_close : (depth : ℕ) (ts : List Token) → runs Joint (depth + 1) (Close ∷ ts) ≡ runs Joint depth ts
reads_close depth ts =
    let is_open : nat_lt 0 (depth + 1) ≡ true = grind (arith, nat_tests) in
    let back : depth + 1 - 1 ≡ depth = omega arith in
    ap (λ k. after (if k then Ok (Joint, depth + 1 - 1) else Err Paren) (λ next deep. runs next deep ts) (λ why. false)) is_open
    ∙ ap (λ d. runs Joint d ts) back

tree_reads : {rank : Rank} (t : Tree rank) (depth : ℕ) → depth + nesting t ≤ 32 → (rest : List Token) → runs Joint depth rest ≡ true
    → runs Atom depth (tree_tokens t ++ rest) ≡ true
tree_reads (part p) depth le rest h = tree_reads p depth le rest h
tree_reads (either p more) depth le rest h =
    ap (runs Atom depth) (append_assoc (tree_tokens p) (Or ∷ tree_tokens more) rest)
    ∙ tree_reads p depth (omega arith) (Or ∷ tree_tokens more ++ rest) (tree_reads more depth (omega arith) rest h)
tree_reads (single a) depth le rest h = tree_reads a depth le rest h
tree_reads (both a more) depth le rest h =
    ap (runs Atom depth) (append_assoc (tree_tokens a) (And ∷ tree_tokens more) rest)
    ∙ tree_reads a depth (omega arith) (And ∷ tree_tokens more ++ rest) (tree_reads more depth (omega arith) rest h)
tree_reads (test x) depth le rest h = h
tree_reads (parens inside) depth le rest h =
    reads_open depth ((tree_tokens inside ++ Close ∷ []) ++ rest) (omega arith)
    ∙ ap (runs Atom (depth + 1)) (append_assoc (tree_tokens inside) (Close ∷ []) rest)
    ∙ tree_reads inside (depth + 1) (omega arith) (Close ∷ rest) (reads_close depth rest ∙ h)

tree_runs : (t : Tree or) → nesting t ≤ 32 → runs Atom 0 (tree_tokens t) ≡ true
tree_runs t h = ap (runs Atom 0) (sym (append-nil (tree_tokens t))) ∙ tree_reads t 0 (omega arith) [] refl

-- Tokens that are read are those of a tree.

-- the tokens are those of a tree, nested at most so deep
abbrev IsTree : ℕ → List Token → Type 0
IsTree room ts = (t : Tree or) × (ts ≡ tree_tokens t) × (nesting t ≤ room)

-- a front and what is behind it
record Parted (P Q : List Token → Type 0) (ts : List Token) : Type 0 where
  pub front : List Token
  pub back : List Token
  pub whole : ts ≡ front ++ back
  pub is_front : P front
  pub is_back : Q back

-- what may stand behind an atom
abbrev Goes : ℕ → List Token → Type 0
Goes room front = (a : Tree atom) → nesting a ≤ room → IsTree room (tree_tokens a ++ front)

-- what stands behind a clause in so many parentheses
abbrev Behind : ℕ → ℕ → List Token → Type 0
Behind zero room ts = ts ≡ []
Behind (suc depth) room ts = (more : List Token) × (ts ≡ Close ∷ more) × Parted (Goes (suc room)) (Behind depth (suc room)) more

abbrev Found : Wanted → ℕ → ℕ → List Token → Type 0
Found Atom depth room = Parted (IsTree room) (Behind depth room)
Found Joint depth room = Parted (Goes room) (Behind depth room)

goes_end : (room : ℕ) → Goes room []
goes_end room a le = (part (single a), append-nil (tree_tokens a), le)

goes_or : (room : ℕ) (ts : List Token) → IsTree room ts → Goes room (Or ∷ ts)
goes_or room ts is a le = (either (single a) is.0, ap (λ us. tree_tokens a ++ Or ∷ us) is.1, max-le le is.2)

-- an atom and a `,` in front of a clause
with_atom : Tree atom → Tree or → Tree or
with_atom a (part p) = part (both a p)
with_atom a (either p more) = either (both a p) more

atom_tokens : (a : Tree atom) (t : Tree or) → tree_tokens a ++ And ∷ tree_tokens t ≡ tree_tokens (with_atom a t)
unfolding with_atom
atom_tokens a (part p) = refl
atom_tokens a (either p more) = sym (append_assoc (tree_tokens a) (And ∷ tree_tokens p) (Or ∷ tree_tokens more))

atom_nesting : (a : Tree atom) (t : Tree or) (room : ℕ) → nesting a ≤ room → nesting t ≤ room → nesting (with_atom a t) ≤ room
unfolding with_atom
atom_nesting a (part p) room h k = omega arith
atom_nesting a (either p more) room h k = omega arith

goes_and : (room : ℕ) (ts : List Token) → IsTree room ts → Goes room (And ∷ ts)
goes_and room ts is a le =
    (with_atom a is.0, ap (λ us. tree_tokens a ++ And ∷ us) is.1 ∙ atom_tokens a is.0, atom_nesting a is.0 room le is.2)

found_test : (depth room : ℕ) (x : tests.Test) (ts : List Token) → Found Joint depth room ts → Found Atom depth room (Test x ∷ ts)
found_test depth room x ts f =
    record {
      front = Test x ∷ f.front;
      back = f.back;
      whole = ap (λ xs. Test x ∷ xs) f.whole;
      is_front = f.is_front (test x) (omega arith);
      is_back = f.is_back;
    }

found_joint : (depth room : ℕ) (t : Token) (ts : List Token) → ((front : List Token) → IsTree room front → Goes room (t ∷ front))
    → Found Atom depth room ts → Found Joint depth room (t ∷ ts)
found_joint depth room t ts goes f =
    record {
      front = t ∷ f.front;
      back = f.back;
      whole = ap (λ xs. t ∷ xs) f.whole;
      is_front = goes f.front f.is_front;
      is_back = f.is_back;
    }

found_close : (depth room : ℕ) (ts : List Token) → Found Joint depth (suc room) ts → Found Joint (suc depth) room (Close ∷ ts)
found_close depth room ts f =
    record { front = []; back = Close ∷ ts; whole = refl; is_front = goes_end room; is_back = (ts, refl, f) }

found_open : (depth room : ℕ) (ts : List Token) → Found Atom (suc depth) room ts → Found Atom depth (suc room) (Open ∷ ts)
found_open depth room ts f =
    let more : List Token = f.is_back.0 in
    let g : Found Joint depth (suc room) more = f.is_back.2 in
    let inside : Tree or = f.is_front.0 in
    let all : List Token = Open ∷ tree_tokens inside ++ Close ∷ [] in
    record {
      front = all ++ g.front;
      back = g.back;
      whole =
          ap (λ xs. Open ∷ xs)
          (f.whole ∙ ap (λ xs. xs ++ f.back) f.is_front.1
          ∙ ap (λ xs. tree_tokens inside ++ xs) (f.is_back.1 ∙ ap (λ xs. Close ∷ xs) g.whole)
          ∙ sym (append_assoc (tree_tokens inside) (Close ∷ []) (g.front ++ g.back)))
          ∙ sym (append_assoc all g.front g.back);
      is_front = g.is_front (parens inside) (omega (arith, f.is_front.2));
      is_back = g.is_back;
    }

-- no room for a parenthesis more
full : (depth : ℕ) (ts : List Token) → depth + 0 ≡ 32 → runs Atom depth (Open ∷ ts) ≡ false
full depth ts e =
    let no_room : nat_lt depth 32 ≡ false = grind (arith, nat_tests) in
    ap (λ k. after (if k then Ok (Atom, depth + 1) else Err Paren) (λ next deep. runs next deep ts) (λ why. false)) no_room

no_test : (depth : ℕ) (ts : List Token) → runs Atom depth (Close ∷ ts) ≡ false
no_test depth ts = by_open (nat_lt 0 depth)
  where
    by_open : (k : Bool) → after (if k then Err Version else Err Paren) (λ next deep. runs next deep ts) (λ why. false) ≡ false
    by_open true = refl
    by_open false = refl

plus_one : (depth : ℕ) → depth + 1 ≡ suc depth
plus_one depth = omega arith

found : (ts : List Token) (wanted : Wanted) (depth room : ℕ) → depth + room ≡ 32 → runs wanted depth ts ≡ true → Found wanted depth room ts
found [] Atom depth room e h = absurd cc
found [] Joint zero room e h = record { front = []; back = []; whole = refl; is_front = goes_end room; is_back = refl }
found [] Joint (suc depth) room e h = absurd (grind (arith, nat_tests))
found (Test t ∷ ts) Atom depth room e h = found_test depth room t ts (found ts Joint depth room e h)
found (Open ∷ ts) Atom depth zero e h = absurd (true≢false (sym h ∙ full depth ts e))
found (Open ∷ ts) Atom depth (suc room) e h =
    let on : runs Atom (suc depth) ts ≡ true = sym (reads_open depth ts (omega arith) ∙ ap (λ d. runs Atom d ts) (plus_one depth)) ∙ h in
    found_open depth room ts (found ts Atom (suc depth) room (omega arith) on)
found (Close ∷ ts) Atom depth room e h = absurd (true≢false (sym h ∙ no_test depth ts))
found (And ∷ ts) Atom depth room e h = absurd cc
found (Or ∷ ts) Atom depth room e h = absurd cc
found (Test t ∷ ts) Joint depth room e h = absurd cc
found (Open ∷ ts) Joint depth room e h = absurd cc
found (Close ∷ ts) Joint zero room e h = absurd cc
found (Close ∷ ts) Joint (suc depth) room e h =
    let on : runs Joint depth ts ≡ true = sym (ap (λ d. runs Joint d (Close ∷ ts)) (sym (plus_one depth)) ∙ reads_close depth ts) ∙ h in
    found_close depth room ts (found ts Joint depth (suc room) (omega arith) on)
found (And ∷ ts) Joint depth room e h = found_joint depth room And ts (goes_and room) (found ts Atom depth room e h)
found (Or ∷ ts) Joint depth room e h = found_joint depth room Or ts (goes_or room) (found ts Atom depth room e h)

runs_tree : (ts : List Token) → runs Atom 0 ts ≡ true → IsTree 32 ts
runs_tree ts h =
    let f = found ts Atom 0 32 refl h in
    (f.is_front.0, f.whole ∙ ap (λ xs. f.front ++ xs) f.is_back ∙ append-nil f.front ∙ f.is_front.1, f.is_front.2)

-- Pieces without a fault are tokens that are read.

-- how many parentheses are open behind a token
abbrev deeper : ℕ → Token → ℕ
deeper depth Open = depth + 1
deeper depth Close = depth - 1
deeper depth And = depth
deeper depth Or = depth
deeper depth (Test x) = depth

-- how many parentheses are open behind tokens
abbrev depth_behind : ℕ → List Token → ℕ
depth_behind depth [] = depth
depth_behind depth (t ∷ ts) = depth_behind (deeper depth t) ts

chosen : (k : Bool) (state other : Wanted × ℕ) (why : SpecWhy) → (if k then Ok state else Err why) ≡ Ok other → state ≡ other
chosen true state other why h = cc
chosen false state other why h = absurd cc

step_deeper : (wanted : Wanted) (depth : ℕ) (t : Token) (state : Wanted × ℕ) → step wanted depth (Some t) ≡ Ok state
    → state.1 ≡ deeper depth t
step_deeper Atom depth Open state h = sym (ap (λ s. s.1) (chosen (nat_lt depth 32) (Atom, depth + 1) state Paren h))
step_deeper Atom depth Close state h = by_open (nat_lt 0 depth) h
  where
    by_open : (k : Bool) → (if k then Err Version else Err Paren) ≡ Ok state → state.1 ≡ depth - 1
    by_open true g = absurd cc
    by_open false g = absurd cc
step_deeper Atom depth And state h = absurd cc
step_deeper Atom depth Or state h = absurd cc
step_deeper Atom depth (Test t) state h = cc
step_deeper Joint depth Open state h = absurd cc
step_deeper Joint depth Close state h = sym (ap (λ s. s.1) (chosen (nat_lt 0 depth) (Joint, depth - 1) state Paren h))
step_deeper Joint depth And state h = cc
step_deeper Joint depth Or state h = cc
step_deeper Joint depth (Test t) state h = absurd cc

no_step : (wanted : Wanted) (depth at : ℕ) (next : Wanted → ℕ → Option (ℕ × SpecWhy))
    → after (step wanted depth None) next (λ why. Some (at, why)) ≡ None → ⊥
no_step Atom depth at next h = cc
no_step Joint depth at next h = cc

abbrev toks : List (List ℕ) → List Token
toks ps = filter_map token_of ps

faultless_read : (ps : List (List ℕ)) (wanted : Wanted) (depth at : ℕ) → fault_from wanted depth at ps ≡ None
    → depth_behind depth (toks ps) ≡ 0
    → runs wanted depth (toks ps) ≡ true
faultless_read [] Atom depth at h k = absurd cc
faultless_read [] Joint depth at h k = ap (λ d. d == 0) k
faultless_read (p ∷ ps) wanted depth at h k = by_token (faultless_read ps) (token_of p) h k
  where
    by_step : (t : Token) → ((w : Wanted) (d a : ℕ) → fault_from w d a ps ≡ None → depth_behind d (toks ps) ≡ 0 → runs w d (toks ps) ≡ true)
        → (r : Result (Wanted × ℕ) SpecWhy) → step wanted depth (Some t) ≡ r
        → after r (λ w d. fault_from w d (at + length p) ps) (λ why. Some (at, why)) ≡ None
        → depth_behind (deeper depth t) (toks ps) ≡ 0 → after r (λ w d. runs w d (toks ps)) (λ why. false) ≡ true
    by_step t ih (Ok state) e f g =
        ih state.0 state.1 (at + length p) f (ap (λ d. depth_behind d (toks ps)) (step_deeper wanted depth t state e) ∙ g)
    by_step t ih (Err why) e f g = absurd cc

    by_token : ((w : Wanted) (d a : ℕ) → fault_from w d a ps ≡ None → depth_behind d (toks ps) ≡ 0 → runs w d (toks ps) ≡ true)
        → (o : Option Token)
        → after (step wanted depth o) (λ w d. fault_from w d (at + length p) ps) (λ why. Some (at, why)) ≡ None
        → depth_behind depth (cons_option o (toks ps)) ≡ 0 → runs wanted depth (cons_option o (toks ps)) ≡ true
    by_token ih None f g = absurd (no_step wanted depth at (λ w d. fault_from w d (at + length p) ps) f)
    by_token ih (Some t) f g = by_step t ih (step wanted depth (Some t)) refl f g

read_faultless : (ps : List (List ℕ)) (wanted : Wanted) (depth at : ℕ) → list_all is_token ps ≡ true → runs wanted depth (toks ps) ≡ true
    → (fault_from wanted depth at ps ≡ None) × (depth_behind depth (toks ps) ≡ 0)
read_faultless [] Atom depth at h k = absurd cc
read_faultless [] Joint depth at h k = (refl, test_equal depth 0 k)
read_faultless (p ∷ ps) wanted depth at h k = by_token (read_faultless ps) (token_of p) h k
  where
    by_step : (t : Token)
        → ((w : Wanted) (d a : ℕ) → list_all is_token ps ≡ true → runs w d (toks ps) ≡ true
        → (fault_from w d a ps ≡ None) × (depth_behind d (toks ps) ≡ 0))
        → (r : Result (Wanted × ℕ) SpecWhy) → step wanted depth (Some t) ≡ r → list_all is_token ps ≡ true
        → after r (λ w d. runs w d (toks ps)) (λ why. false) ≡ true
        → (after r (λ w d. fault_from w d (at + length p) ps) (λ why. Some (at, why)) ≡ None)
        × (depth_behind (deeper depth t) (toks ps) ≡ 0)
    by_step t ih (Ok state) e f g =
        let rest = ih state.0 state.1 (at + length p) f g in
        (rest.0, sym (ap (λ d. depth_behind d (toks ps)) (step_deeper wanted depth t state e)) ∙ rest.1)
    by_step t ih (Err why) e f g = absurd cc

    by_token : ((w : Wanted) (d a : ℕ) → list_all is_token ps ≡ true → runs w d (toks ps) ≡ true
        → (fault_from w d a ps ≡ None) × (depth_behind d (toks ps) ≡ 0))
        → (o : Option Token) → (is_some o && list_all is_token ps) ≡ true → runs wanted depth (cons_option o (toks ps)) ≡ true
        → (after (step wanted depth o) (λ w d. fault_from w d (at + length p) ps) (λ why. Some (at, why)) ≡ None)
        × (depth_behind depth (cons_option o (toks ps)) ≡ 0)
    by_token ih None f g = absurd cc
    by_token ih (Some t) f g = by_step t ih (step wanted depth (Some t)) refl f g

-- How many parentheses are open behind characters.

abbrev char_depth : ℕ → ℕ → ℕ
char_depth depth b = if b == open_paren then depth + 1 else if b == close_paren then depth - 1 else depth

abbrev text_depth : ℕ → List ℕ → ℕ
text_depth depth [] = depth
text_depth depth (b ∷ bs) = text_depth (char_depth depth b) bs

-- how many `(` of a text are never closed
abbrev opens : List ℕ → ℕ
opens [] = 0
opens (b ∷ bs) = if b == open_paren && closers bs == 0 then suc (opens bs) else opens bs

above_zero : (n : ℕ) → (n == 0) ≡ false → 0 < n
above_zero zero h = absurd cc
above_zero (suc n) h = omega arith

depth_step : (depth c o : ℕ) (is_open is_close none : Bool) → (c == 0) ≡ none
    → (if is_open then depth + 1 else if is_close then depth - 1 else depth) - c + o
    ≡ depth - (if is_open then c - 1 else if is_close then c + 1 else c) + (if is_open && none then suc o else o)
depth_step depth c o true is_close true e = let z : c ≡ 0 = test_equal c 0 e in omega arith
depth_step depth c o true is_close false e = let z : 0 < c = above_zero c e in omega arith
depth_step depth c o false true none e = omega arith
depth_step depth c o false false none e = omega arith

text_depth_is : (bs : List ℕ) (depth : ℕ) → text_depth depth bs ≡ depth - closers bs + opens bs
text_depth_is [] depth = omega arith
text_depth_is (b ∷ bs) depth =
    text_depth_is bs (char_depth depth b)
    ∙ depth_step depth (closers bs) (opens bs) (b == open_paren) (b == close_paren) (closers bs == 0) refl

none_open : (bs : List ℕ) (at : ℕ) → unclosed at bs ≡ None → opens bs ≡ 0
none_open [] at h = refl
none_open (b ∷ bs) at h = by_open (b == open_paren && closers bs == 0) h (none_open bs (at + 1))
  where
    by_open : (k : Bool) → (if k then Some at else unclosed (at + 1) bs) ≡ None → (unclosed (at + 1) bs ≡ None → opens bs ≡ 0)
        → (if k then suc (opens bs) else opens bs) ≡ 0
    by_open true f ih = absurd cc
    by_open false f ih = ih f

all_closed : (bs : List ℕ) (at : ℕ) → opens bs ≡ 0 → unclosed at bs ≡ None
all_closed [] at h = refl
all_closed (b ∷ bs) at h = by_open (b == open_paren && closers bs == 0) h (all_closed bs (at + 1))
  where
    by_open : (k : Bool) → (if k then suc (opens bs) else opens bs) ≡ 0 → (opens bs ≡ 0 → unclosed (at + 1) bs ≡ None)
        → (if k then Some at else unclosed (at + 1) bs) ≡ None
    by_open true f ih = absurd (omega arith)
    by_open false f ih = ih f

-- The same over tokens.

depth_append : (xs ys : List ℕ) (depth : ℕ) → text_depth depth (xs ++ ys) ≡ text_depth (text_depth depth xs) ys
depth_append [] ys depth = refl
depth_append (x ∷ xs) ys depth = depth_append xs ys (char_depth depth x)

free_depth : (bs : List ℕ) (depth : ℕ) → list_all free bs ≡ true → text_depth depth bs ≡ depth
free_depth [] depth h = refl
free_depth (b ∷ bs) depth h =
    let is_free = and_left (free b) (list_all free bs) h in
    ap (λ k. text_depth (if k then depth + 1 else if b == close_paren then depth - 1 else depth) bs) (unlike free b open_paren is_free refl)
    ∙ ap (λ k. text_depth (if k then depth - 1 else depth) bs) (unlike free b close_paren is_free refl)
    ∙ free_depth bs depth (and_right (free b) (list_all free bs) h)

token_depth : (t : Token) (p : List ℕ) (depth : ℕ) → IsToken t p → text_depth depth p ≡ deeper depth t
token_depth Open p depth h = ap (text_depth depth) h
token_depth Close p depth h = ap (text_depth depth) h
token_depth And p depth h = ap (text_depth depth) h
token_depth Or p depth h = ap (text_depth depth) h
token_depth (Test x) p depth h = free_depth p depth (test_free p x h)

spelled_depth : (ts : List Token) (text : List ℕ) (depth : ℕ) → Spells ts text → text_depth depth text ≡ depth_behind depth ts
spelled_depth [] text depth h = ap (text_depth depth) h
spelled_depth (t ∷ ts) text depth h =
    ap (text_depth depth) h.2 ∙ depth_append h.0 h.1 depth ∙ ap (λ d. text_depth d h.1) (token_depth t h.0 depth h.3)
    ∙ spelled_depth ts h.1 (deeper depth t) h.4

-- Behind the tokens of a text as many parentheses are open as are never closed.
open_behind : (text : List ℕ) → list_all is_token (pieces text) ≡ true → depth_behind 0 (tokens text) ≡ opens text
open_behind text h = sym (spelled_depth (tokens text) text 0 (text_spells text h)) ∙ text_depth_is text 0 ∙ omega arith

-- The law.

closed_none : (text : List ℕ) → clause_fault text ≡ None → unclosed 0 text ≡ None
closed_none text h = by_both (unclosed 0 text) (fault_from Atom 0 0 (pieces text)) h
  where
    by_less : (at : ℕ) (found : ℕ × SpecWhy) (k : Bool) → (if k then Some found else Some (at, Paren)) ≡ None → Some at ≡ None
    by_less at found true k = absurd cc
    by_less at found false k = absurd cc

    by_both : (u : Option ℕ) (f : Option (ℕ × SpecWhy)) → lesser u f ≡ None → u ≡ None
    by_both None f k = refl
    by_both (Some at) None k = absurd cc
    by_both (Some at) (Some found) k = by_less at found (nat_lt found.0 at) k

pub clause_only : (text : List ℕ) → clause_fault text ≡ None → IsClause text
clause_only text h =
    let left : fault_from Atom 0 0 (pieces text) ≡ None = left_none text h in
    let all : list_all is_token (pieces text) ≡ true = tokens_all Atom 0 0 (pieces text) left in
    let closed : depth_behind 0 (tokens text) ≡ 0 = open_behind text all ∙ none_open text 0 (closed_none text h) in
    let is = runs_tree (tokens text) (faultless_read (pieces text) Atom 0 0 left closed) in
    (is.0, spells_writes is.0 text (subst (λ ts. Spells ts text) is.1 (text_spells text all)), is.2)

pub clause_all : (law : NoDotEnd) (text : List ℕ) → IsClause text → clause_fault text ≡ None
clause_all law text is =
    let means = writes_means law is.0 text is.1 in
    let runs_on : runs Atom 0 (tokens text) ≡ true = ap (runs Atom 0) means.tokens ∙ tree_runs is.0 is.2 in
    let read = read_faultless (pieces text) Atom 0 0 means.each runs_on in
    let closed : unclosed 0 text ≡ None = all_closed text 0 (sym (open_behind text means.each) ∙ read.1) in
    ap (λ u. lesser u (fault_from Atom 0 0 (pieces text))) closed ∙ read.0
