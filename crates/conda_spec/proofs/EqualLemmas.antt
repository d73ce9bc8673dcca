-- A version clause that is `=v` does not stay as it is beside a build.
use Rattle.conda_spec.specs.Parts.{NoneOf}
use Rattle.std.proofs.Common.{◌≡◌, ◌==◌, ℕ, zero, suc, true≢false, ◌+◌, ◌-◌, Bool, true, false, cond, length, List, [], ◌∷◌, ◌++◌, take, drop, refl, sym, ap, inl, inr, ◌∙◌, arith}
use Rattle.std.proofs.lemmas.Bool.{eq-eqb}
use Rattle.std.proofs.lemmas.Bool.Decides.{nat_tests}
use Rattle.std.specs.Prelude.{None, Some, ◌⊎◌, nat_lt, not, codes, Option, option_and_then, ◌||◌, is_none}
use Rattle.std.specs.List.{cons_option, filter_map, onto_first}
use Rattle.std.specs.Option.{option_map}
use Rattle.conda_version.specs.Grammar.{offence}
use Rattle.conda_clause.specs.declared.error.SpecWhy.{SpecWhy}
use Rattle.conda_clause.specs.declared.error.SpecWhy.TheVariants.{Paren}
use Rattle.conda_clause.specs.declared.reading.Wanted.TheVariants.{Atom}
use Rattle.conda_clause.specs.declared.test.Sign.TheVariants.{Single}
use Rattle.conda_clause.specs.declared.test.Test.{Test}
use Rattle.conda_clause.specs.declared.test.Test.TheVariants.{Any, Starts}
use Rattle.conda_clause.specs.declared.token.Token.{Token}
use Rattle.conda_clause.specs.declared.token.Token.TheVariants as token
use Rattle.conda_clause.specs.declared.token.Token.TheVariants.{And, Close, Open, Or}
use Rattle.conda_clause.specs.Clause.{after, beside_build, clause_fault, fault_from, is_single, lesser, tokens_beside_build, step, unclosed}
use Rattle.conda_clause.specs.Pieces.{is_mark, pieces, token_of, tokens}
use Rattle.conda_base.specs.Texts.{ends_with}
use Rattle.conda_clause.specs.Tests.{is_any, shortened, sign_len, sign_of, test_of, test_with, version_text, without_star}

-- What a piece and a fault are.

token_is_test : (b : ℕ) (bs : List ℕ) → is_mark b ≡ false → token_of (b ∷ bs) ≡ option_map token.Test (test_of (b ∷ bs))
token_is_test b bs h =
    let opens : (b == 40) ≡ false = grind (arith, nat_tests) in
    let closes : (b == 41) ≡ false = grind (arith, nat_tests) in
    let comma : (b == 44) ≡ false = grind (arith, nat_tests) in
    let bar : (b == 124) ≡ false = grind (arith, nat_tests) in
    let test : Option Token = option_map token.Test (test_of (b ∷ bs)) in
    ap (λ k. cond k (Some Open) (cond (b == 41) (Some Close) (cond (b == 44) (Some And) (cond (b == 124) (Some Or) test)))) opens
    ∙ ap (λ k. cond k (Some Close) (cond (b == 44) (Some And) (cond (b == 124) (Some Or) test))) closes
    ∙ ap (λ k. cond k (Some And) (cond (b == 124) (Some Or) test)) comma
    ∙ ap (λ k. cond k (Some Or) test) bar

lesser_none : (a : Option ℕ) (b : Option (ℕ × SpecWhy)) → lesser a b ≡ None → b ≡ None
lesser_none None b h = h
lesser_none (Some at) None h = refl
lesser_none (Some at) (Some found) h = by_lesser (nat_lt found.0 at) h
  where
    by_lesser : (k : Bool) → cond k (Some found) (Some (at, Paren)) ≡ None → Some found ≡ None
    by_lesser true g = g
    by_lesser false g = absurd (true≢false (sym (ap is_none g)))

-- One test is one piece.

abbrev AllFree : List ℕ → Type 0
AllFree text = NoneOf is_mark text

one_piece : (b : ℕ) (bs : List ℕ) → AllFree (b ∷ bs) → pieces (b ∷ bs) ≡ (b ∷ bs) ∷ []
one_piece b [] h = ap (λ k. cond k ((b ∷ []) ∷ []) ((b ∷ []) ∷ [])) (h.0)
one_piece b (c ∷ cs) h =
    let free : is_mark c ≡ false = h.1.0 in
    let more : List (List ℕ) = pieces (c ∷ cs) in
    ap (λ k. cond k ((b ∷ []) ∷ more) (cond (not (is_mark c)) (onto_first b more) ((b ∷ []) ∷ more))) (h.0)
    ∙ ap (λ k. cond (not k) (onto_first b more) ((b ∷ []) ∷ more)) free
    ∙ ap (onto_first b) (one_piece c cs h.1)

-- A clause that begins with `=` doesn't stay as it is beside a build.

-- a mark but for `)`, or a second `=`
abbrev pub is_joint_or_equals : ℕ → Bool
is_joint_or_equals c = c == 61 || c == 44 || c == 124 || c == 40

-- the text up to its first `)`, or the whole
CutAtClose : List ℕ → Type 0
CutAtClose text = AllFree text ⊎ ((front : List ℕ) × (rest : List ℕ) × (text ≡ front ++ (41 ∷ rest)) × AllFree front)

other_free : (c : ℕ) → (c == 44) ≡ false → (c == 124) ≡ false → (c == 40) ≡ false → (c == 41) ≡ false → is_mark c ≡ false
other_free c h k l m = grind (arith, nat_tests)

cut_at_close : (text : List ℕ) → NoneOf is_joint_or_equals text → CutAtClose text
unfolding CutAtClose
cut_at_close [] h = inl tt
cut_at_close (c ∷ cs) h = by_close (c == 41) refl (cut_at_close cs h.1)
  where
    by_close : (k : Bool) → (c == 41) ≡ k
        → (AllFree cs ⊎ ((front : List ℕ) × (rest : List ℕ) × (cs ≡ front ++ (41 ∷ rest)) × AllFree front))
        → AllFree (c ∷ cs) ⊎ ((front : List ℕ) × (rest : List ℕ) × (c ∷ cs ≡ front ++ (41 ∷ rest)) × AllFree front)
    by_close true e more = let same : c ≡ 41 = grind (arith, nat_tests) in inr ([], cs, ap (λ d. d ∷ cs) same, tt)
    by_close false e (inl free) = let other : is_mark c ≡ false = grind (arith, nat_tests, h.0) in inl (other, free)
    by_close false e (inr cut) =
        let other : is_mark c ≡ false = grind (arith, nat_tests, h.0) in
        inr (c ∷ cut.0, cut.1, ap (λ t. c ∷ t) cut.2, (other, cut.3))

piece_before_close : (b : ℕ) (bs rest : List ℕ) → AllFree (b ∷ bs) → pieces ((b ∷ bs) ++ (41 ∷ rest)) ≡ (b ∷ bs) ∷ (41 ∷ []) ∷ pieces rest
piece_before_close b [] rest h =
    let more : List (List ℕ) = (41 ∷ []) ∷ pieces rest in
    ap (λ k. cond k ((b ∷ []) ∷ more) ((b ∷ []) ∷ more)) (h.0)
piece_before_close b (c ∷ cs) rest h =
    let free : is_mark c ≡ false = h.1.0 in
    let more : List (List ℕ) = pieces ((c ∷ cs) ++ (41 ∷ rest)) in
    ap (λ k. cond k ((b ∷ []) ∷ more) (cond (not (is_mark c)) (onto_first b more) ((b ∷ []) ∷ more))) (h.0)
    ∙ ap (λ k. cond (not k) (onto_first b more) ((b ∷ []) ∷ more)) free
    ∙ ap (onto_first b) (piece_before_close c cs rest h.1)

fault_behind : List (List ℕ) → ℕ → Option Token → Option (ℕ × SpecWhy)
fault_behind more at token = after (step Atom 0 token) (λ next deep. fault_from next deep at more) (λ why. Some (0, why))

-- the text before a first `)` is a test or is refused, and so is the `)` behind a test
test_refused : (rest : List (List ℕ)) (at : ℕ) (found : Option Test)
    → fault_behind ((41 ∷ []) ∷ rest) at (option_map token.Test found) ≡ None → ⊥
unfolding fault_behind
test_refused rest at None r = true≢false (sym (ap is_none r))
test_refused rest at (Some test) r = true≢false (sym (ap is_none r))

close_refused : (b : ℕ) (bs rest : List ℕ) → AllFree (b ∷ bs) → fault_from Atom 0 0 (pieces ((b ∷ bs) ++ (41 ∷ rest))) ≡ None → ⊥
unfolding fault_behind
close_refused b bs rest h e =
    let fault : Option Token → Option (ℕ × SpecWhy) = fault_behind ((41 ∷ []) ∷ pieces rest) (0 + length (b ∷ bs)) in
    test_refused (pieces rest) (0 + length (b ∷ bs)) (test_of (b ∷ bs))
    (ap fault (sym (token_is_test b bs (h.0))) ∙ sym (ap (fault_from Atom 0 0) (piece_before_close b bs rest h)) ∙ e)

-- a good clause that begins with `=` and holds no other such mark is one test
one_test_free : (bs : List ℕ) → NoneOf is_joint_or_equals bs → fault_from Atom 0 0 (pieces (61 ∷ bs)) ≡ None → AllFree (61 ∷ bs)
unfolding CutAtClose
one_test_free bs h e = by_cut (cut_at_close bs h)
  where
    by_cut : (AllFree bs ⊎ ((front : List ℕ) × (rest : List ℕ) × (bs ≡ front ++ (41 ∷ rest)) × AllFree front)) → AllFree (61 ∷ bs)
    by_cut (inl free) = (refl, free)
    by_cut (inr cut) =
        absurd (close_refused 61 cut.0 cut.1 (refl, cut.3) (sym (ap (λ t. fault_from Atom 0 0 (pieces (61 ∷ t))) cut.2) ∙ e))

-- The test behind `=`.

head_of : List ℕ → ℕ
head_of [] = 0
head_of (b ∷ bs) = b

single_sign : (bs : List ℕ) → NoneOf is_joint_or_equals bs → sign_of (61 ∷ bs) ≡ Single
single_sign [] h = refl
single_sign (c ∷ cs) h = let other : (c == 61) ≡ false = grind (arith, nat_tests, h.0) in rw other refl

-- what stands beside a build for such a test
stood : (bs : List ℕ) (test : Test) → AllFree (61 ∷ bs) → sign_of (61 ∷ bs) ≡ Single → test_of (61 ∷ bs) ≡ Some test
    → beside_build (61 ∷ bs) ≡ tokens_beside_build (61 ∷ bs) (token.Test test ∷ [])
stood bs test free single e =
    let text : List ℕ = 61 ∷ bs in
    let all : tokens text ≡ token.Test test ∷ [] =
    ap (filter_map token_of) (one_piece 61 bs free)
    ∙ ap (λ t. cons_option t []) (token_is_test 61 bs refl ∙ ap (option_map token.Test) e) in
    ap (λ sign. cond (is_single sign) (tokens_beside_build text (tokens text)) text) single ∙ ap (tokens_beside_build text) all

free_shortened : (p : ℕ → Bool) (text : List ℕ) (n : ℕ) → NoneOf p text → NoneOf p (take n text)
free_shortened p text zero h = tt
free_shortened p [] (suc n) h = tt
free_shortened p (b ∷ bs) (suc n) h = (h.0, free_shortened p bs n h.1)

free_star : (p : ℕ → Bool) (text : List ℕ) → NoneOf p text → NoneOf p (without_star text)
free_star p text h = by (ends_with 42 text)
  where
    front : NoneOf p (shortened text)
    front = free_shortened p text (length text - 1) h

    by_dot : (k : Bool) → NoneOf p (cond k (shortened (shortened text)) (shortened text))
    by_dot true = free_shortened p (shortened text) (length (shortened text) - 1) front
    by_dot false = front

    by : (k : Bool) → NoneOf p (cond k (cond (ends_with 46 (shortened text)) (shortened (shortened text)) (shortened text)) text)
    by true = by_dot (ends_with 46 (shortened text))
    by false = h

equals_joint : (b : ℕ) → is_joint_or_equals b ≡ false → (b == 61) ≡ false
equals_joint b h = grind (arith, nat_tests)

no_version_begins : (v bs : List ℕ) → NoneOf is_joint_or_equals v → v ++ codes ".*" ≡ 61 ∷ bs → ⊥
unfolding head_of
no_version_begins [] bs h e = let same : 46 ≡ 61 = ap head_of e in absurd (omega (arith, same))
no_version_begins (c ∷ cs) bs h e = true≢false (sym (eq-eqb c 61 (ap head_of e)) ∙ equals_joint c (h.0))

star_moves : (bs : List ℕ) → codes "*" ≡ 61 ∷ bs → ⊥
unfolding head_of
star_moves bs e = let same : 42 ≡ 61 = ap head_of e in absurd (omega (arith, same))

-- the test that `=` and a text give
single_test : (bs : List ℕ) → sign_of (61 ∷ bs) ≡ Single
    → test_of (61 ∷ bs) ≡ (cond (is_any Single bs) (Some Any)
    (option_and_then (test_with Single (ends_with 42 bs)) (version_text (without_star bs))))
single_test bs single =
    ap (λ sign. cond (is_any sign (drop (sign_len sign) (61 ∷ bs))) (Some Any)
    (option_and_then (test_with sign (ends_with 42 (drop (sign_len sign) (61 ∷ bs))))
    (version_text (without_star (drop (sign_len sign) (61 ∷ bs)))))) single

moves : (bs : List ℕ) → NoneOf is_joint_or_equals bs → AllFree (61 ∷ bs) → sign_of (61 ∷ bs) ≡ Single
    → fault_from Atom 0 0 (pieces (61 ∷ bs)) ≡ None → beside_build (61 ∷ bs) ≡ 61 ∷ bs → ⊥
moves bs plain free single good fixed = by_any (is_any Single bs) refl
  where
    v : List ℕ
    v = without_star bs

    rest : Option Test
    rest = option_and_then (test_with Single (ends_with 42 bs)) (version_text (without_star bs))

    by_version : (k : Bool) → is_none (offence (without_star bs)) ≡ k
        → test_of (61 ∷ bs) ≡ option_and_then (test_with Single (ends_with 42 bs)) (version_text (without_star bs)) → ⊥
    by_version true n e =
        let found : test_of (61 ∷ bs) ≡ Some (Starts (without_star bs)) =
        e ∙ ap (λ k. option_and_then (test_with Single (ends_with 42 bs)) (cond k (Some (without_star bs)) None)) n in
        no_version_begins (without_star bs) bs (free_star is_joint_or_equals bs plain)
        (sym (stood bs (Starts (without_star bs)) free single found) ∙ fixed)
    by_version false n e =
        let none : test_of (61 ∷ bs) ≡ None =
        e ∙ ap (λ k. option_and_then (test_with Single (ends_with 42 bs)) (cond k (Some (without_star bs)) None)) n in
        let fault : Option Token → Option (ℕ × SpecWhy) =
        λ t. after (step Atom 0 t) (λ next deep. fault_from next deep (0 + length (61 ∷ bs)) []) (λ why. Some (0, why)) in
        let read : fault None ≡ None =
        sym (ap (fault_from Atom 0 0) (one_piece 61 bs free) ∙ ap fault (token_is_test 61 bs refl ∙ ap (option_map token.Test) none))
        ∙ good in
        true≢false (sym (ap is_none read))

    by_any : (k : Bool) → is_any Single bs ≡ k → ⊥
    by_any true a =
        let found : test_of (61 ∷ bs) ≡ Some Any =
        single_test bs single
        ∙ ap (λ k. cond k (Some Any) (option_and_then (test_with Single (ends_with 42 bs)) (version_text (without_star bs)))) a in
        star_moves bs (sym (stood bs Any free single found) ∙ fixed)
    by_any false a =
        by_version (is_none (offence (without_star bs))) refl
        (single_test bs single
        ∙ ap (λ k. cond k (Some Any) (option_and_then (test_with Single (ends_with 42 bs)) (version_text (without_star bs)))) a)

pub equal_moves : (bs : List ℕ) → NoneOf is_joint_or_equals bs → clause_fault (61 ∷ bs) ≡ None → beside_build (61 ∷ bs) ≡ 61 ∷ bs → ⊥
equal_moves bs h good fixed =
    let read : fault_from Atom 0 0 (pieces (61 ∷ bs)) ≡ None =
    lesser_none (unclosed 0 (61 ∷ bs)) (fault_from Atom 0 0 (pieces (61 ∷ bs))) good in
    moves bs h (one_test_free bs h read) (single_sign bs h) read fixed
