-- Sets whose keys are the literals of clauses.
use Rattle.std.proofs.Common.{◌≡◌, ℕ, zero, suc, ◌+◌, ◌<◌, ◌≤◌, ℤ, Bool, true, false, not, cond, nat_lt, if◌then◌else◌, ◌||◌, List, [], ◌∷◌, ◌++◌, length, map, take, get_or, Option, Vec, Global, Some, None, unwrap_or, refl, sym, ap, ◌∙◌, arith, ltb-false, append_assoc, append-nil, add-one}
use Rattle.std.specs.List.{cons_option, filter_map, flat_map, list_any, position, position_or_len, range_with_len}
use Rattle.std.proofs.lemmas.List.{map-append, take_more}
use Rattle.std.proofs.lemmas.List.Concat.{flat_map-append}
use Rattle.std.proofs.lemmas.List.Elements.{filter_map-append}
use Rattle.indexmap.specs.IndexSet.{insert_key}
use Rattle.conda_refute.specs.Refutation.{named}
use Rattle.conda_refute.specs.declared.log.Step.{Step}
use Rattle.conda_explain.specs.Shown.{holds, is_clause}
use Rattle.conda_explain.proofs.Holding.{holds-append, list_any-map, or_false, same_clause}

abbrev pub lists : List (Vec ℤ Global) → List (List ℤ)
lists ks = map (λ (k : Vec ℤ Global). k.items) ks

-- whether a key has these literals
abbrev pub has_key : List (Vec ℤ Global) → List ℤ → Bool
has_key ks c = list_any (λ (k : Vec ℤ Global). is_clause c k.items) ks

pub holds-lists : (ks : List (Vec ℤ Global)) (c : List ℤ) → holds (lists ks) c ≡ has_key ks c
holds-lists ks c = list_any-map (is_clause c) (λ (k : Vec ℤ Global). k.items) ks

pub position-lists : (ks : List (Vec ℤ Global)) (c : List ℤ) → position_or_len (is_clause c) (lists ks) ≡ position_or_len (λ (k : Vec ℤ Global). is_clause c k.items) ks
position-lists [] c = refl
position-lists (k ∷ ks) c = ap (λ n. cond (not (is_clause c k.items)) (1 + n) 0) (position-lists ks c)

pub place_few : {A : Type 0} (p : A → Bool) (xs : List A) → position_or_len p xs ≤ length xs
place_few p [] = omega arith
place_few {A} p (x ∷ xs) = by (p x) (position_or_len p xs) (place_few p xs)
  where
    by : (b : Bool) (n : ℕ) → n ≤ length xs → cond (not b) (1 + n) 0 ≤ length (x ∷ xs)
    by true n le = omega arith
    by false n le = omega arith

pub place_unwrapped : {A : Type 0} (p : A → Bool) (xs : List A) → unwrap_or (position p xs) (length xs) ≡ position_or_len p xs
place_unwrapped p xs = by (nat_lt (position_or_len p xs) (length xs)) refl
  where
    by : (b : Bool) → nat_lt (position_or_len p xs) (length xs) ≡ b → unwrap_or (cond b (Some (position_or_len p xs)) None) (length xs) ≡ position_or_len p xs
    by true e = refl
    by false e = let le : length xs ≤ position_or_len p xs = ltb-false (position_or_len p xs) (length xs) e in omega (arith, place_few p xs)

abbrev pub same_key : Vec ℤ Global → Vec ℤ Global → Bool
same_key a b = is_clause a.items b.items

absorbed : (b x : Bool) → (x ≡ true → b ≡ true) → b ≡ (b || x)
absorbed true x h = refl
absorbed false true h = h refl
absorbed false false h = refl

pub lists-insert_new : (ks : List (Vec ℤ Global)) (v : Vec ℤ Global) → has_key ks v.items ≡ false → lists (insert_key same_key ks v) ≡ lists ks ++ v.items ∷ []
lists-insert_new ks v h =
    ap (λ b. lists (if b then ks else ks ++ v ∷ [])) h ∙ map-append (λ (k : Vec ℤ Global). k.items) ks (v ∷ [])

pub holds-insert : (ks : List (Vec ℤ Global)) (v : Vec ℤ Global) (c : List ℤ) → holds (lists (insert_key same_key ks v)) c ≡ (holds (lists ks) c || is_clause c v.items)
holds-insert ks v c = by (has_key ks v.items) refl
  where
    by : (b : Bool) → has_key ks v.items ≡ b → holds (lists (insert_key same_key ks v)) c ≡ (holds (lists ks) c || is_clause c v.items)
    by true e =
        ap (λ b. holds (lists (if b then ks else ks ++ v ∷ [])) c) e
        ∙ absorbed (holds (lists ks) c) (is_clause c v.items) (λ s. ap (holds (lists ks)) (same_clause c v.items s) ∙ holds-lists ks v.items ∙ e)
    by false e =
        ap (λ l. holds l c) (lists-insert_new ks v e)
        ∙ holds-append (lists ks) (v.items ∷ []) c
        ∙ ap (λ b. holds (lists ks) c || b) (or_false (is_clause c v.items))

-- one more number in a row
range_suc : (a n : ℕ) → range_with_len a (suc n) ≡ range_with_len a n ++ (a + n) ∷ []
range_suc a zero = let e : a ≡ a + 0 = omega arith in ap (λ (k : ℕ). k ∷ []) e
range_suc a (suc n) =
    let e : a + 1 + n ≡ a + suc n = omega arith in
    ap (λ (l : List ℕ). a ∷ l) (range_suc (a + 1) n ∙ ap (λ (k : ℕ). range_with_len (a + 1) n ++ k ∷ []) e)

pub range_more : (a n k : ℕ) → k ≡ a + n → range_with_len a (n + 1) ≡ range_with_len a n ++ k ∷ []
range_more a n k e = ap (range_with_len a) (add-one n) ∙ range_suc a n ∙ ap (λ (m : ℕ). range_with_len a n ++ m ∷ []) (sym e)

pub range_step : (start before after : List ℕ) (a n k : ℕ) → before ≡ start ++ range_with_len a n → k ≡ a + n → after ≡ before ++ k ∷ [] → after ≡ start ++ range_with_len a (n + 1)
range_step start before after a n k was e now =
    now
    ∙ ap (λ (l : List ℕ). l ++ k ∷ []) was
    ∙ append_assoc start (range_with_len a n) (k ∷ [])
    ∙ ap (λ (l : List ℕ). start ++ l) (sym (range_more a n k e))

-- ---- the clauses that hints name, one more

or_assoc : (a b c : Bool) → ((a || b) || c) ≡ (a || (b || c))
or_assoc true b c = refl
or_assoc false b c = refl

pub held_more : (inputs : List (List ℤ)) (hs : List ℕ) (i h : ℕ) (start before after : List (List ℤ)) (c : List ℤ) → i < length hs → get_or hs i h ≡ h →
    holds before c ≡ (holds start c || holds (filter_map (named inputs) (take i hs)) c) →
    holds after c ≡ (holds before c || holds (cons_option (named inputs h) []) c) →
    holds after c ≡ (holds start c || holds (filter_map (named inputs) (take (i + 1) hs)) c)
held_more inputs hs i h start before after c lt at was now =
    let more : filter_map (named inputs) (take (i + 1) hs) ≡ filter_map (named inputs) (take i hs) ++ cons_option (named inputs h) []
    = ap (filter_map (named inputs)) (take_more hs i h lt)
    ∙ filter_map-append (named inputs) (take i hs) (get_or hs i h ∷ [])
    ∙ ap (λ (k : ℕ). filter_map (named inputs) (take i hs) ++ cons_option (named inputs k) []) at in
    now
    ∙ ap (λ (b : Bool). b || holds (cons_option (named inputs h) []) c) was
    ∙ or_assoc (holds start c) (holds (filter_map (named inputs) (take i hs)) c) (holds (cons_option (named inputs h) []) c)
    ∙ ap (λ (b : Bool). holds start c || b) (sym (holds-append (filter_map (named inputs) (take i hs)) (cons_option (named inputs h) []) c))
    ∙ ap (λ (l : List (List ℤ)). holds start c || holds l c) (sym more)

-- a hint that names an input, and one that names none
pub held_put : (inputs : List (List ℤ)) (h : ℕ) (ks : List (Vec ℤ Global)) (v : Vec ℤ Global) (x c : List ℤ) → named inputs h ≡ Some x → v.items ≡ x →
    holds (lists (insert_key same_key ks v)) c ≡ (holds (lists ks) c || holds (cons_option (named inputs h) []) c)
held_put inputs h ks v x c e same =
    holds-insert ks v c
    ∙ ap (λ (l : List ℤ). holds (lists ks) c || is_clause c l) same
    ∙ ap (λ (b : Bool). holds (lists ks) c || b) (sym (or_false (is_clause c x)))
    ∙ ap (λ (o : Option (List ℤ)). holds (lists ks) c || holds (cons_option o []) c) (sym e)

pub held_same : (inputs : List (List ℤ)) (h : ℕ) (start : List (List ℤ)) (c : List ℤ) → named inputs h ≡ None →
    holds start c ≡ (holds start c || holds (cons_option (named inputs h) []) c)
held_same inputs h start c e =
    sym (or_false (holds start c)) ∙ ap (λ (o : Option (List ℤ)). holds start c || holds (cons_option o []) c) (sym e)

-- the same over steps, each with its hints
pub held_step : (inputs : List (List ℤ)) (ss : List Step) (i : ℕ) (s : Step) (before after : List (List ℤ)) (c : List ℤ) → i < length ss → get_or ss i s ≡ s →
    holds before c ≡ holds (filter_map (named inputs) (flat_map (λ (t : Step). t.hints) (take i ss))) c →
    holds after c ≡ (holds before c || holds (filter_map (named inputs) s.hints) c) →
    holds after c ≡ holds (filter_map (named inputs) (flat_map (λ (t : Step). t.hints) (take (i + 1) ss))) c
held_step inputs ss i s before after c lt at was now =
    let hints : flat_map (λ (t : Step). t.hints) (take (i + 1) ss) ≡ flat_map (λ (t : Step). t.hints) (take i ss) ++ s.hints
    = ap (flat_map (λ (t : Step). t.hints)) (take_more ss i s lt)
    ∙ flat_map-append (λ (t : Step). t.hints) (take i ss) (get_or ss i s ∷ [])
    ∙ ap (λ (l : List ℕ). flat_map (λ (t : Step). t.hints) (take i ss) ++ l) (append-nil (get_or ss i s).hints)
    ∙ ap (λ (t : Step). flat_map (λ (u : Step). u.hints) (take i ss) ++ t.hints) at in
    now
    ∙ ap (λ (b : Bool). b || holds (filter_map (named inputs) s.hints) c) was
    ∙ sym (holds-append (filter_map (named inputs) (flat_map (λ (t : Step). t.hints) (take i ss))) (filter_map (named inputs) s.hints) c)
    ∙ ap (λ (l : List (List ℤ)). holds l c) (sym (filter_map-append (named inputs) (flat_map (λ (t : Step). t.hints) (take i ss)) s.hints))
    ∙ ap (λ (l : List ℕ). holds (filter_map (named inputs) l) c) (sym hints)

-- what a set answers of a clause's literals
pub held : (ks : List (Vec ℤ Global)) (v : Vec ℤ Global) (c : List ℤ) (b r : Bool) → v.items ≡ c → r ≡ has_key ks v.items → r ≡ b → holds (lists ks) c ≡ b
held ks v c b r same is e = ap (holds (lists ks)) (sym same) ∙ holds-lists ks v.items ∙ sym is ∙ e
