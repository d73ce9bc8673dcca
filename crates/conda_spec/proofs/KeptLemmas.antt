-- Lemmas on what is kept of a text of one or two words.
use Rattle.conda_spec.specs.Parts.{NoneOf}
use Rattle.std.proofs.Common.{◌≡◌, ◌==◌, ℕ, ◌+◌, ◌-◌, Bool, true, false, cond, length, List, [], ◌∷◌, ◌++◌, map, refl, ap, ◌∙◌, append-nil}
use Rattle.std.proofs.lemmas.List.{map-append}
use Rattle.std.specs.Prelude.{None, Some, ◌||◌, not, Option}
use Rattle.conda_clause.specs.Kept.{drops_behind, has_gap, is_joint, kept, kept_runs, last_of, chars_at}
use Rattle.conda_spec.proofs.PieceLemmas.{first_part, one_part}

-- a space
abbrev pub is_space : ℕ → Bool
is_space b = b == 32

marked : (at : ℕ) (text : List ℕ) → map (λ (m : ℕ × ℕ). m.1) (chars_at at text) ≡ text
marked at [] = refl
marked at (b ∷ bs) = ap (λ t. b ∷ t) (marked (at + 1) bs)

marked_last : (at : ℕ) (text : List ℕ) → map (λ (m : ℕ × ℕ). m.1) (chars_at at text ++ []) ≡ text
marked_last at text = ap (λ (ms : List (ℕ × ℕ)). map (λ (m : ℕ × ℕ). m.1) ms) (append-nil (chars_at at text)) ∙ marked at text

-- one word behind a space
pub kept_word : (b : ℕ) (bs : List ℕ) → NoneOf is_space (b ∷ bs) → kept (32 ∷ (b ∷ bs)) ≡ b ∷ bs
kept_word b bs h =
    ap (λ (runs : List (List ℕ)). map (λ (m : ℕ × ℕ). m.1) (kept_runs None 1 runs)) (one_part is_space (b ∷ bs) h) ∙ marked_last 1 (b ∷ bs)

neither : (p q : Bool) → p ≡ false → q ≡ false → (not (p || q)) ≡ true
neither p q h k = rw h (rw k refl)

kept_behind : (before : Option ℕ) (last at c : ℕ) (cs : List ℕ) → before ≡ Some last → drops_behind last ≡ false → is_joint c ≡ false
    → map (λ (m : ℕ × ℕ). m.1) (kept_runs before at ((c ∷ cs) ∷ [])) ≡ 32 ∷ (c ∷ cs)
kept_behind before last at c cs is h k =
    let gap : has_gap before c ≡ true = ap (λ l. has_gap l c) is ∙ neither (drops_behind last) (is_joint c) h k in
    ap (λ (stays : Bool). map (λ (m : ℕ × ℕ). m.1) (cond stays ((at - 1, 32) ∷ chars_at at (c ∷ cs)) (chars_at at (c ∷ cs)) ++ [])) gap
    ∙ ap (λ t. 32 ∷ t) (marked_last at (c ∷ cs))

-- two words, each behind a space
pub kept_words : (b : ℕ) (bs : List ℕ) (c : ℕ) (cs : List ℕ) (last : ℕ) → NoneOf is_space (b ∷ bs) → NoneOf is_space (c ∷ cs)
    → last_of None (b ∷ bs) ≡ Some last → drops_behind last ≡ false → is_joint c ≡ false
    → kept (32 ∷ ((b ∷ bs) ++ (32 ∷ (c ∷ cs)))) ≡ (b ∷ bs) ++ (32 ∷ (c ∷ cs))
kept_words b bs c cs last h k is ends begins =
    let rest : List (ℕ × ℕ) = kept_runs (last_of None (b ∷ bs)) (1 + length (b ∷ bs) + 1) ((c ∷ cs) ∷ []) in
    ap (λ (runs : List (List ℕ)). map (λ (m : ℕ × ℕ). m.1) (kept_runs None 1 runs))
    (first_part is_space (b ∷ bs) 32 (c ∷ cs) h refl ∙ ap (λ (r : List (List ℕ)). (b ∷ bs) ∷ r) (one_part is_space (c ∷ cs) k))
    ∙ map-append (λ (m : ℕ × ℕ). m.1) (chars_at 1 (b ∷ bs)) rest
    ∙ ap (λ t. t ++ map (λ (m : ℕ × ℕ). m.1) rest) (marked 1 (b ∷ bs))
    ∙ ap (λ t. (b ∷ bs) ++ t) (kept_behind (last_of None (b ∷ bs)) last (1 + length (b ∷ bs) + 1) c cs is ends begins)
