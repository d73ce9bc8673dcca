-- Lemmas on the pieces of a clause.
use Rattle.std.proofs.Common.{◌≡◌, ℕ, suc, zero, ◌+◌, ◌-◌, ◌<◌, ◌≤◌, Bool, true, false, cond, not, List, [], ◌∷◌, ◌++◌, length, take, drop, Option, None, Some, Ok, Err, refl, sym, ap, ◌∙◌, append_assoc, append-nil, arith, length-drop}
use Rattle.std.proofs.lemmas.List.{length-take-le}
use Rattle.std.specs.Prelude.{if◌then◌else◌}
use Rattle.std.specs.List.{cons_option, filter_map, onto_first, prefix_len}
use Rattle.conda_clause.specs.declared.error.SpecWhy.{SpecWhy}
use Rattle.conda_clause.specs.declared.reading.Wanted.{Wanted}
use Rattle.conda_clause.specs.declared.token.Token.{Token}
use Rattle.conda_clause.specs.Clause.{after, fault_from, step}
use Rattle.conda_clause.specs.Pieces.{begins_test, is_mark, piece_len, pieces, token_of, tokens}

abbrev pub free : ℕ → Bool
free b = not (is_mark b)

FirstPiece : List ℕ → Type 0
FirstPiece bs = pieces bs ≡ take (piece_len bs) bs ∷ pieces (drop (piece_len bs) bs)

first_mark : (b : ℕ) (bs : List ℕ) → is_mark b ≡ true → FirstPiece (b ∷ bs)
unfolding FirstPiece
first_mark b bs e =
    let len : piece_len (b ∷ bs) ≡ 1 = ap (λ k. if not k then prefix_len free (b ∷ bs) else 1) e in
    ap (λ k. if k then (b ∷ []) ∷ pieces bs else if begins_test bs then onto_first b (pieces bs) else (b ∷ []) ∷ pieces bs) e
    ∙ sym (ap (λ n. take n (b ∷ bs) ∷ pieces (drop n (b ∷ bs))) len)

pub free_len : (b : ℕ) (bs : List ℕ) → is_mark b ≡ false → piece_len (b ∷ bs) ≡ suc (prefix_len free bs)
free_len b bs e =
    ap (λ k. if not k then prefix_len free (b ∷ bs) else 1) e ∙ ap (λ k. cond (not k) (1 + prefix_len free bs) 0) e ∙ omega arith

first_alone : (b c : ℕ) (cs : List ℕ) → is_mark b ≡ false → is_mark c ≡ true → FirstPiece (b ∷ c ∷ cs)
unfolding FirstPiece
first_alone b c cs e f =
    let bs : List ℕ = c ∷ cs in
    let none : prefix_len free bs ≡ 0 = ap (λ k. cond (not k) (1 + prefix_len free cs) 0) f in
    let len : piece_len (b ∷ bs) ≡ suc zero = free_len b bs e ∙ ap suc none in
    ap (λ k. if k then (b ∷ []) ∷ pieces bs else if begins_test bs then onto_first b (pieces bs) else (b ∷ []) ∷ pieces bs) e
    ∙ ap (λ k. if not k then onto_first b (pieces bs) else (b ∷ []) ∷ pieces bs) f
    ∙ sym (ap (λ n. take n (b ∷ bs) ∷ pieces (drop n (b ∷ bs))) len)

first_joined : (b c : ℕ) (cs : List ℕ) → is_mark b ≡ false → is_mark c ≡ false → FirstPiece (c ∷ cs) → FirstPiece (b ∷ c ∷ cs)
unfolding FirstPiece
first_joined b c cs e f ih =
    let bs : List ℕ = c ∷ cs in
    let more : piece_len bs ≡ prefix_len free bs = ap (λ k. if not k then prefix_len free bs else 1) f in
    let len : piece_len (b ∷ bs) ≡ suc (piece_len bs) = free_len b bs e ∙ ap suc (sym more) in
    ap (λ k. if k then (b ∷ []) ∷ pieces bs else if begins_test bs then onto_first b (pieces bs) else (b ∷ []) ∷ pieces bs) e
    ∙ ap (λ k. if not k then onto_first b (pieces bs) else (b ∷ []) ∷ pieces bs) f
    ∙ ap (onto_first b) ih
    ∙ sym (ap (λ n. take n (b ∷ bs) ∷ pieces (drop n (b ∷ bs))) len)

first_step : (b c : ℕ) (cs : List ℕ) (k j : Bool) → is_mark b ≡ k → is_mark c ≡ j → FirstPiece (c ∷ cs) → FirstPiece (b ∷ c ∷ cs)
first_step b c cs true j e f ih = first_mark b (c ∷ cs) e
first_step b c cs false true e f ih = first_alone b c cs e f
first_step b c cs false false e f ih = first_joined b c cs e f ih

first_only : (b : ℕ) (k : Bool) → is_mark b ≡ k → FirstPiece (b ∷ [])
unfolding FirstPiece
first_only b true e = first_mark b [] e
first_only b false e =
    ap (λ k. if k then (b ∷ []) ∷ [] else (b ∷ []) ∷ []) e ∙ sym (ap (λ n. take n (b ∷ []) ∷ pieces (drop n (b ∷ []))) (free_len b [] e))

first_of_cons : (b : ℕ) (bs : List ℕ) → FirstPiece (b ∷ bs)
first_of_cons b [] = first_only b (is_mark b) refl
first_of_cons b (c ∷ cs) = first_step b c cs (is_mark b) (is_mark c) refl refl (first_of_cons c cs)

-- the first piece, and those behind it
pub pieces_first : (bs : List ℕ) → 0 < length bs → pieces bs ≡ take (piece_len bs) bs ∷ pieces (drop (piece_len bs) bs)
unfolding FirstPiece
pieces_first [] h = absurd (omega arith)
pieces_first (b ∷ bs) h = first_of_cons b bs

-- The first piece and the rest, as a reader takes them.
pub record IsCut (left piece rest : List ℕ) : Type 0 where
  pub whole : pieces left ≡ piece ∷ pieces rest
  pub lengths : length piece + length rest ≡ length left
  pub shorter : length rest < length left

pub cut_at : (left piece rest : List ℕ) (len : ℕ) → 0 < length left → len ≡ piece_len left → 0 < len → len ≤ length left
    → piece ≡ take len left → rest ≡ drop len left
    → IsCut left piece rest
cut_at left piece rest len some is_len more inside is_piece is_rest =
    let front : length piece ≡ len = ap length is_piece ∙ length-take-le len left inside in
    let back : length rest ≡ length left - len = ap length is_rest ∙ length-drop len left in
    record {
      whole =
          pieces_first left some ∙ ap (λ n. take n left ∷ pieces (drop n left)) (sym is_len)
          ∙ ap (λ p. p ∷ pieces (drop len left)) (sym is_piece)
          ∙ ap (λ r. piece ∷ pieces r) (sym is_rest);
      lengths = omega (arith, front, back);
      shorter = omega (arith, back);
    }

pub reads_on : (wanted next : Wanted) (depth deep at : ℕ) (left piece rest : List ℕ) → IsCut left piece rest
    → Ok (next, deep) ≡ step wanted depth (token_of piece)
    → fault_from next deep (at + length piece) (pieces rest) ≡ fault_from wanted depth at (pieces left)
reads_on wanted next depth deep at left piece rest cut e =
    ap (λ s. after s (λ n d. fault_from n d (at + length piece) (pieces rest)) (λ why. Some (at, why))) e
    ∙ sym (ap (fault_from wanted depth at) cut.whole)

pub stops : (wanted : Wanted) (depth at : ℕ) (why : SpecWhy) (left piece rest : List ℕ) → IsCut left piece rest
    → Err why ≡ step wanted depth (token_of piece)
    → Some (at, why) ≡ fault_from wanted depth at (pieces left)
stops wanted depth at why left piece rest cut e =
    ap (λ s. after s (λ n d. fault_from n d (at + length piece) (pieces rest)) (λ y. Some (at, y))) e
    ∙ sym (ap (fault_from wanted depth at) cut.whole)

cons_onto : (token : Option Token) (made rest : List Token) → (made ++ cons_option token []) ++ rest ≡ made ++ cons_option token rest
cons_onto None made rest = ap (λ m. m ++ rest) (append-nil made)
cons_onto (Some token) made rest = append_assoc made (token ∷ []) rest

pub tokens_on : (made more : List Token) (left piece rest : List ℕ) → IsCut left piece rest → more ≡ made ++ cons_option (token_of piece) []
    → more ++ tokens rest ≡ made ++ tokens left
tokens_on made more left piece rest cut e =
    ap (λ m. m ++ tokens rest) e ∙ cons_onto (token_of piece) made (tokens rest) ∙ ap (λ ps. made ++ filter_map token_of ps) (sym cut.whole)
