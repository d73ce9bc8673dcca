-- Cuts of a text, as std's methods give them.
use Rattle.std.proofs.Common.{◌≡◌, ◌≢◌, ◌==◌, ◌&&◌, ◌≤◌, ◌<◌, ◌+◌, ◌⊎◌, ℕ, Bool, true, false, cond, length, List, [], ◌∷◌, ◌++◌, take, drop, get_or, refl, sym, ap, ◌∙◌, arith, true≢false, Option, Some, None, MatchOption, inl, inr, suc, zero, Bor}
use Rattle.std.specs.Option.{option_map}
use Rattle.std.specs.Str.Pattern.{FindsText}
use Rattle.std.proofs.lemmas.Bool.{eqb-true, eq-eqb}
use Rattle.std.proofs.lemmas.Bool.Decides.{eqb_tells}
use Rattle.conda_base.specs.Texts.{begins_with, in_front}
use Rattle.conda_spec.specs.Cuts.{cut_colons, without_last}

same_test : (b : ℕ) → (b == b) ≡ true
same_test b = eq-eqb b b refl

-- the first `::`

not_here : (b : ℕ) (bs : List ℕ) → ((r : List ℕ) → b ∷ bs ≢ 58 ∷ (58 ∷ r)) → (b == 58 && begins_with 58 bs) ≡ false
not_here b bs h = by (eqb_tells b 58)
  where
    second : (bs : List ℕ) → ((r : List ℕ) → bs ≢ 58 ∷ r) → begins_with 58 bs ≡ false
    second [] h = refl
    second (c ∷ cs) h = at (eqb_tells c 58)
      where
        at : ((c == 58) ≡ true) × (c ≡ 58) ⊎ ((c == 58) ≡ false) × (c ≢ 58) → (c == 58) ≡ false
        at (inl g) = absurd (h cs (ap (λ d. d ∷ cs) g.1))
        at (inr g) = g.0

    by : ((b == 58) ≡ true) × (b ≡ 58) ⊎ ((b == 58) ≡ false) × (b ≢ 58) → (b == 58 && begins_with 58 bs) ≡ false
    by (inl g) = rw (g.0, second bs (λ r e. h r (ap (λ d. d ∷ bs) g.1 ∙ ap (λ q. 58 ∷ q) e))) refl
    by (inr g) = rw g.0 refl

colons_step : (b : ℕ) (bs : List ℕ) → ((r : List ℕ) → b ∷ bs ≢ 58 ∷ (58 ∷ r))
    → cut_colons (b ∷ bs) ≡ option_map (in_front b) (cut_colons bs)
colons_step b bs h =
    ap (λ k. cond k (Some ([], drop 1 bs)) (option_map (in_front b) (cut_colons bs))) (not_here b bs h)

colons_none : (s : List ℕ) → ((k : ℕ) → k ≤ length s → (r : List ℕ) → drop k s ≢ 58 ∷ (58 ∷ r)) → cut_colons s ≡ None
colons_none [] h = refl
colons_none (b ∷ bs) h =
    colons_step b bs (h 0 (omega arith)) ∙ ap (option_map (in_front b)) (colons_none bs (λ k q. h (suc k) (omega (arith, q))))

colons_some : (i : ℕ) (s rest : List ℕ) → drop i s ≡ 58 ∷ (58 ∷ rest) → ((k : ℕ) → k < i → (r : List ℕ) → drop k s ≢ 58 ∷ (58 ∷ r))
    → cut_colons s ≡ Some (take i s, rest)
colons_some zero s rest e h = ap cut_colons e
colons_some (suc i) [] rest e h = absurd (cc)
colons_some (suc i) (b ∷ bs) rest e h =
    colons_step b bs (h 0 (omega arith)) ∙ ap (option_map (in_front b)) (colons_some i bs rest e (λ k q. h (suc k) (omega (arith, q))))

pub colons_are : (s : List ℕ) (r : Option (Bor (List ℕ) × Bor (List ℕ)))
    → MatchOption r (FindsText (58 ∷ (58 ∷ [])) s None)
    (λ x. (i : ℕ) × (j : ℕ) × FindsText (58 ∷ (58 ∷ [])) s (Some (i, j)) × (x.0.now ≡ take i s) × (x.1.now ≡ drop j s) × (i ≤ j)
    × (length x.0.now ≡ i) × (length x.1.now + j ≡ length s)) → option_map (λ x. (x.0.now, x.1.now)) r ≡ cut_colons s
colons_are s None h = sym (colons_none s h)
colons_are s (Some x) h =
    ap (λ q. Some (q, x.1.now)) h.3
    ∙ ap (λ q. Some (take h.0 s, q)) h.4
    ∙ sym (colons_some h.0 s (drop h.1 s) h.2.1.split h.2.0)

-- a character at the end

end_some : (mark : ℕ) (front : List ℕ) → without_last mark (front ++ (mark ∷ [])) ≡ Some front
end_some mark [] = rw same_test refl
end_some mark (b ∷ []) = ap (option_map (λ front. b ∷ front)) (end_some mark [])
end_some mark (b ∷ c ∷ front) = ap (option_map (λ front. b ∷ front)) (end_some mark (c ∷ front))

end_none : (mark : ℕ) (s : List ℕ) → ((front : List ℕ) → s ≢ front ++ (mark ∷ [])) → without_last mark s ≡ None
end_none mark [] h = refl
end_none mark (b ∷ []) h = by (b == mark) refl
  where
    by : (v : Bool) → (b == mark) ≡ v → without_last mark (b ∷ []) ≡ None
    by true e = absurd (h [] (ap (λ c. c ∷ []) (eqb-true b mark e)))
    by false e = rw e refl
end_none mark (b ∷ c ∷ bs) h =
    ap (option_map (λ front. b ∷ front)) (end_none mark (c ∷ bs) (λ front e. h (b ∷ front) (ap (λ q. b ∷ q) e)))

pub end_is : (mark : ℕ) (s : List ℕ) (r : Option (Bor (List ℕ)))
    → MatchOption r ((front : List ℕ) → s ≢ front ++ (mark ∷ [])) (λ x. s ≡ x.now ++ (mark ∷ []))
    → option_map (λ x. x.now) r ≡ without_last mark s
end_is mark s None h = sym (end_none mark s h)
end_is mark s (Some x) h = sym (ap (without_last mark) h ∙ end_some mark x.now)

-- a text that begins with a character holds one, and that one
pub first_of : (mark : ℕ) (s : List ℕ) → begins_with mark s ≡ true → (0 < length s) × (get_or s 0 0 ≡ mark)
first_of mark [] h = absurd (true≢false (sym h))
first_of mark (b ∷ bs) h = (omega arith, eqb-true b mark h)
