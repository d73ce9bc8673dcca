-- Tokens that write a tree say what the tree says.
use Rattle.std.proofs.Common.{◌≡◌, ℕ, ◌+◌, ◌-◌, Bool, true, false, not, List, [], ◌∷◌, ◌++◌, refl, sym, ap, ◌∙◌, arith, append_assoc, append-nil}
use Rattle.std.proofs.lemmas.Bool.Decides.{nat_tests}
use Rattle.std.specs.Prelude.{if◌then◌else◌, ◌==◌, ◌&&◌, ◌||◌}
use Rattle.conda_clause.specs.declared.token.Token.{Token}
use Rattle.conda_clause.specs.declared.token.Token.TheVariants as token
use Rattle.conda_clause.specs.declared.truth.Pass.TheVariants.{Over, Read}
use Rattle.conda_base.specs.Signs.{bar, comma}
use Rattle.conda_clause.specs.Tree.{Rank, Tree, Writes, tree_holds}
use Rattle.conda_clause.specs.Tree.Rank.{and, atom, or}
use Rattle.conda_clause.specs.Tree.Tree.{part, either, single, both, test, parens}
use Rattle.conda_clause.specs.Truth.{tokens_true}

-- the tokens that write a tree
abbrev pub tree_tokens : {rank : Rank} → Tree rank → List Token
tree_tokens (part p) = tree_tokens p
tree_tokens (either p more) = tree_tokens p ++ token.Or ∷ tree_tokens more
tree_tokens (single a) = tree_tokens a
tree_tokens (both a more) = tree_tokens a ++ token.And ∷ tree_tokens more
tree_tokens (test t) = token.Test t ∷ []
tree_tokens (parens inside) = token.Open ∷ tree_tokens inside ++ token.Close ∷ []

-- What is passed over.

-- no `|` of the tree ends what is passed over
abbrev Passes : Rank → Bool → ℕ → Type 0
Passes or value depth = (depth == 0 && not value) ≡ false
Passes and value depth = Unit {0}
Passes atom value depth = Unit {0}

opened : (value : Bool) (depth : ℕ) → (depth + 1 == 0 && not value) ≡ false
opened value depth = grind (arith, nat_tests)

closes : (version : List ℕ) (value : Bool) (depth : ℕ) (rest : List Token)
    → tokens_true version value (Over (depth + 1)) (token.Close ∷ rest) ≡ tokens_true version value (Over depth) rest
closes version value depth rest =
    let more : (depth + 1 == 0) ≡ false = grind (arith, nat_tests) in
    let less : depth + 1 - 1 ≡ depth = omega arith in
    ap (λ k. tokens_true version value (if k then Read else Over (depth + 1 - 1)) rest) more
    ∙ ap (λ d. tokens_true version value (Over d) rest) less

passed : {rank : Rank} (tree : Tree rank) (version : List ℕ) (value : Bool) (depth : ℕ) (rest : List Token) → Passes rank value depth
    → tokens_true version value (Over depth) (tree_tokens tree ++ rest) ≡ tokens_true version value (Over depth) rest
passed (part p) version value depth rest h = passed p version value depth rest tt
passed (either p more) version value depth rest h =
    ap (tokens_true version value (Over depth)) (append_assoc (tree_tokens p) (token.Or ∷ tree_tokens more) rest)
    ∙ passed p version value depth (token.Or ∷ tree_tokens more ++ rest) tt
    ∙ ap (λ k. tokens_true version value (if k then Read else Over depth) (tree_tokens more ++ rest)) h
    ∙ passed more version value depth rest h
passed (single a) version value depth rest h = passed a version value depth rest tt
passed (both a more) version value depth rest h =
    ap (tokens_true version value (Over depth)) (append_assoc (tree_tokens a) (token.And ∷ tree_tokens more) rest)
    ∙ passed a version value depth (token.And ∷ tree_tokens more ++ rest) tt
    ∙ passed more version value depth rest tt
passed (test t) version value depth rest h = refl
passed (parens inside) version value depth rest h =
    ap (tokens_true version value (Over (depth + 1))) (append_assoc (tree_tokens inside) (token.Close ∷ []) rest)
    ∙ passed inside version value (depth + 1) (token.Close ∷ rest) (opened value depth)
    ∙ closes version value depth rest

-- What is read.

-- what follows the tree ends what is passed over
abbrev Ends : Rank → List ℕ → List Token → Type 0
Ends or version rest = (value : Bool) → tokens_true version value (Over 0) rest ≡ tokens_true version value Read rest
Ends and version rest = tokens_true version false (Over 0) rest ≡ tokens_true version false Read rest
Ends atom version rest = Unit {0}

pub read : {rank : Rank} (tree : Tree rank) (version : List ℕ) (value : Bool) (rest : List Token) → Ends rank version rest
    → tokens_true version value Read (tree_tokens tree ++ rest) ≡ tokens_true version (tree_holds tree version) Read rest
read (part p) version value rest h = read p version value rest (h false)
read (either p more) version value rest h =
    ap (tokens_true version value Read) (append_assoc (tree_tokens p) (token.Or ∷ tree_tokens more) rest)
    ∙ read p version value (token.Or ∷ tree_tokens more ++ rest) refl
    ∙ by_part (tree_holds p version) (read more version false rest h)
  where
    by_part : (k : Bool) → tokens_true version false Read (tree_tokens more ++ rest) ≡ tokens_true version
        (tree_holds more version) Read rest
        → tokens_true version k Read (token.Or ∷ tree_tokens more ++ rest) ≡ tokens_true version (k || tree_holds more version) Read rest
    by_part true e = passed more version true 0 rest refl ∙ h true
    by_part false e = e
read (single a) version value rest h = read a version value rest tt
read (both a more) version value rest h =
    ap (tokens_true version value Read) (append_assoc (tree_tokens a) (token.And ∷ tree_tokens more) rest)
    ∙ read a version value (token.And ∷ tree_tokens more ++ rest) tt
    ∙ by_atom (tree_holds a version) (read more version true rest h)
  where
    by_atom : (k : Bool) → tokens_true version true Read (tree_tokens more ++ rest) ≡ tokens_true version
        (tree_holds more version) Read rest
        → tokens_true version k Read (token.And ∷ tree_tokens more ++ rest) ≡ tokens_true version (k && tree_holds more version) Read rest
    by_atom true e = e
    by_atom false e = passed more version false 0 rest tt ∙ h
read (test t) version value rest h = refl
read (parens inside) version value rest h =
    ap (tokens_true version value Read) (append_assoc (tree_tokens inside) (token.Close ∷ []) rest)
    ∙ read inside version value (token.Close ∷ rest) (λ k. refl)

-- the tokens of a clause say what its tree says
pub tree_true : (tree : Tree or) (version : List ℕ) → tokens_true version false Read (tree_tokens tree) ≡ tree_holds tree version
tree_true tree version = ap (tokens_true version false Read) (sym (append-nil (tree_tokens tree))) ∙ read tree version false [] (λ k. refl)

-- Two trees as one.

pub either_of : Tree or → Tree or → Tree or
either_of (part p) t = either p t
either_of (either p more) t = either p (either_of more t)

pub both_of : Tree and → Tree and → Tree and
both_of (single a) t = both a t
both_of (both a more) t = both a (both_of more t)

or_assoc : (a b c : Bool) → (a || (b || c)) ≡ ((a || b) || c)
or_assoc true b c = refl
or_assoc false b c = refl

and_assoc : (a b c : Bool) → (a && (b && c)) ≡ ((a && b) && c)
and_assoc true b c = refl
and_assoc false b c = refl

pub either_holds : (s t : Tree or) (version : List ℕ) → tree_holds (either_of s t) version ≡ (tree_holds s version || tree_holds t version)
unfolding either_of
either_holds (part p) t version = refl
either_holds (either p more) t version =
    ap (λ k. tree_holds p version || k) (either_holds more t version)
    ∙ or_assoc (tree_holds p version) (tree_holds more version) (tree_holds t version)

pub both_holds : (s t : Tree and) (version : List ℕ) → tree_holds (both_of s t) version ≡ (tree_holds s version && tree_holds t version)
unfolding both_of
both_holds (single a) t version = refl
both_holds (both a more) t version =
    ap (λ k. tree_holds a version && k) (both_holds more t version)
    ∙ and_assoc (tree_holds a version) (tree_holds more version) (tree_holds t version)

pub either_writes : (s t : Tree or) (a b : List ℕ) → Writes s a → Writes t b → Writes (either_of s t) (a ++ bar ∷ b)
unfolding either_of
either_writes (part p) t a b h k = (a, b, refl, h, k)
either_writes (either p more) t a b h k =
    (h.0, h.1 ++ bar ∷ b, ap (λ r. r ++ bar ∷ b) h.2 ∙ append_assoc h.0 (bar ∷ h.1) (bar ∷ b), h.3, either_writes more t h.1 b h.4 k)

pub both_writes : (s t : Tree and) (a b : List ℕ) → Writes s a → Writes t b → Writes (both_of s t) (a ++ comma ∷ b)
unfolding both_of
both_writes (single p) t a b h k = (a, b, refl, h, k)
both_writes (both p more) t a b h k =
    (h.0, h.1 ++ comma ∷ b, ap (λ r. r ++ comma ∷ b) h.2 ∙ append_assoc h.0 (comma ∷ h.1) (comma ∷ b), h.3, both_writes more t h.1 b h.4 k)
