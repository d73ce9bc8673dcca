-- Lemmas on texts without a fault.
use Rattle.std.proofs.Common.{◌≡◌, ℕ, ◌+◌, ◌<◌, Bool, true, false, nat_lt, List, [], ◌∷◌, length, Option, None, Some, Result, Ok, Err, refl, arith}
use Rattle.std.specs.Prelude.{if◌then◌else◌, is_some}
use Rattle.std.specs.List.{list_all}
use Rattle.conda_clause.specs.declared.error.SpecWhy.{SpecWhy}
use Rattle.conda_clause.specs.declared.error.SpecWhy.TheVariants.{Paren}
use Rattle.conda_clause.specs.declared.reading.Wanted.{Wanted}
use Rattle.conda_clause.specs.declared.reading.Wanted.TheVariants.{Atom, Joint}
use Rattle.conda_clause.specs.declared.token.Token.{Token}
use Rattle.conda_clause.specs.Clause.{after, clause_fault, fault_from, lesser, step, unclosed}
use Rattle.conda_clause.specs.Pieces.{pieces, token_of}
use Rattle.conda_clause.proofs.TestLemmas.{and_both}

-- nothing is wrong from the left either
pub left_none : (text : List ℕ) → clause_fault text ≡ None → fault_from Atom 0 0 (pieces text) ≡ None
left_none text h = by_both (unclosed 0 text) (fault_from Atom 0 0 (pieces text)) h
  where
    by_less : (at : ℕ) (found : ℕ × SpecWhy) (k : Bool) → (if k then Some found else Some (at, Paren)) ≡ None → Some found ≡ None
    by_less at found true k = k
    by_less at found false k = absurd cc

    by_both : (u : Option ℕ) (f : Option (ℕ × SpecWhy)) → lesser u f ≡ None → f ≡ None
    by_both None f k = k
    by_both (Some at) None k = refl
    by_both (Some at) (Some found) k = by_less at found (nat_lt found.0 at) k

pub some_text : (text : List ℕ) → clause_fault text ≡ None → 0 < length text
some_text [] h = absurd cc
some_text (b ∷ bs) h = omega arith

pub no_comma : (bs : List ℕ) → clause_fault (44 ∷ bs) ≡ None → ⊥
no_comma bs h = let left = left_none (44 ∷ bs) h in cc

pub no_bar : (bs : List ℕ) → clause_fault (124 ∷ bs) ≡ None → ⊥
no_bar bs h = let left = left_none (124 ∷ bs) h in cc

-- Each piece has a token.

abbrev pub is_token : List ℕ → Bool
is_token piece = is_some (token_of piece)

pub after_none : (at : ℕ) (r : Result (Wanted × ℕ) SpecWhy) (next : Wanted → ℕ → Option (ℕ × SpecWhy))
    → after r next (λ why. Some (at, why)) ≡ None
    → (state : Wanted × ℕ) × (r ≡ Ok state) × (next state.0 state.1 ≡ None)
after_none at (Ok state) next h = (state, refl, h)
after_none at (Err why) next h = absurd cc

pub step_some : (wanted : Wanted) (depth : ℕ) (o : Option Token) (state : Wanted × ℕ) → step wanted depth o ≡ Ok state → is_some o ≡ true
step_some wanted depth (Some t) state h = refl
step_some Atom depth None state h = absurd cc
step_some Joint depth None state h = absurd cc

pub tokens_all : (wanted : Wanted) (depth at : ℕ) (ps : List (List ℕ)) → fault_from wanted depth at ps ≡ None → list_all is_token ps ≡ true
tokens_all wanted depth at [] h = refl
tokens_all wanted depth at (p ∷ ps) h =
    let next = after_none at (step wanted depth (token_of p)) (λ w d. fault_from w d (at + length p) ps) h in
    and_both (is_some (token_of p)) (list_all is_token ps) (step_some wanted depth (token_of p) next.0 next.1)
    (tokens_all next.0.0 next.0.1 (at + length p) ps next.2)
