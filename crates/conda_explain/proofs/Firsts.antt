-- The reasons that are shown, by recursion.
use Rattle.std.proofs.Common.{◌≡◌, ℕ, ◌+◌, ◌<◌, ℤ, Bool, true, false, not, cond, ◌&&◌, ◌||◌, List, [], ◌∷◌, ◌++◌, length, map, filter, take, get_or, refl, sym, ap, ◌∙◌, arith, append_assoc, append-nil, take_at}
use Rattle.std.specs.List.{zip}
use Rattle.std.proofs.lemmas.List.{length-append, map-append, take_more}
use Rattle.std.proofs.lemmas.Slice.Zip.{get_or-zip, length-zip}
use Rattle.conda_refute.specs.declared.log.Log.{Log}
use Rattle.conda_encode.specs.Clauses.{Reason}
use Rattle.conda_encode.specs.Variables.{numbered}
use Rattle.conda_encode.specs.declared.encoded.Why.{Why}
use Rattle.conda_explain.specs.Shown.{holds, is_clause, is_shown, shown, used}
use Rattle.conda_explain.proofs.Holding.{holds-append, same_clause}

abbrev pub clauses_of : List Reason → List (List ℤ)
clauses_of rs = map (λ (r : Reason). r.1) rs

-- those of these whose clause is wanted and wasn't seen
abbrev pub firsts : (List ℤ → Bool) → List (List ℤ) → List Reason → List Reason
firsts wanted seen [] = []
firsts wanted seen (r ∷ rs) =
    cond (wanted r.1 && not (holds seen r.1)) (r ∷ firsts wanted (seen ++ r.1 ∷ []) rs) (firsts wanted (seen ++ r.1 ∷ []) rs)

-- ---- they are those that are shown

one_more : (b d : Bool) (x : ℕ × Reason) (xs : List (ℕ × Reason)) (rs : List Reason) → b ≡ d → map (λ (y : ℕ × Reason). y.1) xs ≡ rs →
    map (λ (y : ℕ × Reason). y.1) (cond b (x ∷ xs) xs) ≡ cond d (x.1 ∷ rs) rs
one_more true true x xs rs e f = ap (λ l. x.1 ∷ l) f
one_more true false x xs rs e f = cc
one_more false true x xs rs e f = cc
one_more false false x xs rs e f = f

abbrev shown_among : List Reason → Log → ℕ → List Reason → List Reason
shown_among all log n rs = map (λ (x : ℕ × Reason). x.1) (filter (is_shown all log) (numbered n rs))

shown_from : (log : Log) (front rs : List Reason) → shown_among (front ++ rs) log (length front) rs ≡ firsts (holds (used log)) (clauses_of front) rs
shown_from log front [] = refl
shown_from log front (r ∷ rs) =
    let ends : (front ++ r ∷ []) ++ rs ≡ front ++ r ∷ rs = append_assoc front (r ∷ []) rs in
    let long : length (front ++ r ∷ []) ≡ length front + 1 = omega (arith, length-append front (r ∷ [])) in
    let seen : clauses_of (front ++ r ∷ []) ≡ clauses_of front ++ r.1 ∷ [] = map-append (λ (s : Reason). s.1) front (r ∷ []) in
    let rest : shown_among (front ++ r ∷ rs) log (length front + 1) rs ≡ firsts (holds (used log)) (clauses_of front ++ r.1 ∷ []) rs
    = ap (λ (n : ℕ). shown_among (front ++ r ∷ rs) log n rs) (sym long)
    ∙ ap (λ (all : List Reason). shown_among all log (length (front ++ r ∷ [])) rs) (sym ends)
    ∙ shown_from log (front ++ r ∷ []) rs
    ∙ ap (λ (s : List (List ℤ)). firsts (holds (used log)) s rs) seen in
    let before : is_shown (front ++ r ∷ rs) log (length front, r) ≡ (holds (used log) r.1 && not (holds (clauses_of front) r.1))
    = ap (λ (l : List Reason). holds (used log) r.1 && not (holds (clauses_of l) r.1)) (take_at front (r ∷ rs) (length front) refl) in
    one_more _ _ (length front, r) _ _ before rest

pub shown-firsts : (rs : List Reason) (log : Log) → shown rs log ≡ firsts (holds (used log)) [] rs
shown-firsts rs log = shown_from log [] rs

-- ---- one more reason at the end

cond_over : (b : Bool) (r : Reason) (xs ys more : List Reason) → xs ≡ ys ++ more → cond b (r ∷ xs) xs ≡ cond b (r ∷ ys) ys ++ more
cond_over true r xs ys more e = ap (λ l. r ∷ l) e
cond_over false r xs ys more e = e

firsts_push : (wanted : List ℤ → Bool) (seen : List (List ℤ)) (rs : List Reason) (r : Reason) →
    firsts wanted seen (rs ++ r ∷ []) ≡ firsts wanted seen rs ++ cond (wanted r.1 && not (holds (seen ++ clauses_of rs) r.1)) (r ∷ []) []
firsts_push wanted seen [] r = ap (λ (s : List (List ℤ)). cond (wanted r.1 && not (holds s r.1)) (r ∷ []) []) (sym (append-nil seen))
firsts_push wanted seen (x ∷ rs) r =
    cond_over (wanted x.1 && not (holds seen x.1)) x _ _ _
    (firsts_push wanted (seen ++ x.1 ∷ []) rs r
    ∙ ap (λ (s : List (List ℤ)). firsts wanted (seen ++ x.1 ∷ []) rs ++ cond (wanted r.1 && not (holds s r.1)) (r ∷ []) []) (append_assoc seen (x.1 ∷ []) (clauses_of rs)))

-- ---- which clauses they have

not_seen : (w h s : Bool) → (h && (w && not (s || (false || false)))) ≡ ((false || h) && (w && not s))
not_seen w h true = refl
not_seen w h false = refl

seen_now : (w h s : Bool) → ((w && not s) || (h && (w && not (s || (true || false))))) ≡ ((true || h) && (w && not s))
seen_now true true true = refl
seen_now true true false = refl
seen_now true false true = refl
seen_now true false false = refl
seen_now false true true = refl
seen_now false true false = refl
seen_now false false true = refl
seen_now false false false = refl

holds_cond : (b : Bool) (r : Reason) (rs : List Reason) (c : List ℤ) → holds (clauses_of (cond b (r ∷ rs) rs)) c ≡ ((b && is_clause c r.1) || holds (clauses_of rs) c)
holds_cond true r rs c = refl
holds_cond false r rs c = refl

and_true : (b : Bool) → (b && true) ≡ b
and_true true = refl
and_true false = refl

and_false : (b : Bool) → (b && false) ≡ false
and_false true = refl
and_false false = refl

pub holds-firsts : (wanted : List ℤ → Bool) (seen : List (List ℤ)) (rs : List Reason) (c : List ℤ) →
    holds (clauses_of (firsts wanted seen rs)) c ≡ (holds (clauses_of rs) c && (wanted c && not (holds seen c)))
holds-firsts wanted seen [] c = refl
holds-firsts wanted seen (r ∷ rs) c =
    holds_cond (wanted r.1 && not (holds seen r.1)) r (firsts wanted (seen ++ r.1 ∷ []) rs) c
    ∙ ap (λ (b : Bool). ((wanted r.1 && not (holds seen r.1)) && is_clause c r.1) || b) (holds-firsts wanted (seen ++ r.1 ∷ []) rs c)
    ∙ ap (λ (b : Bool). ((wanted r.1 && not (holds seen r.1)) && is_clause c r.1) || (holds (clauses_of rs) c && (wanted c && not b))) (holds-append seen (r.1 ∷ []) c)
    ∙ by (is_clause c r.1) refl
  where
    by : (b : Bool) → is_clause c r.1 ≡ b →
        (((wanted r.1 && not (holds seen r.1)) && is_clause c r.1) || (holds (clauses_of rs) c && (wanted c && not (holds seen c || (is_clause c r.1 || false)))))
        ≡ ((is_clause c r.1 || holds (clauses_of rs) c) && (wanted c && not (holds seen c)))
    by true e =
        let same : c ≡ r.1 = same_clause c r.1 e in
        ap (λ (b : Bool). ((wanted r.1 && not (holds seen r.1)) && b) || (holds (clauses_of rs) c && (wanted c && not (holds seen c || (b || false))))) e
        ∙ ap (λ (b : Bool). b || (holds (clauses_of rs) c && (wanted c && not (holds seen c || (true || false))))) (and_true (wanted r.1 && not (holds seen r.1)))
        ∙ ap (λ (d : List ℤ). (wanted d && not (holds seen d)) || (holds (clauses_of rs) c && (wanted c && not (holds seen c || (true || false))))) (sym same)
        ∙ seen_now (wanted c) (holds (clauses_of rs) c) (holds seen c)
        ∙ ap (λ (b : Bool). (b || holds (clauses_of rs) c) && (wanted c && not (holds seen c))) (sym e)
    by false e =
        ap (λ (b : Bool). ((wanted r.1 && not (holds seen r.1)) && b) || (holds (clauses_of rs) c && (wanted c && not (holds seen c || (b || false))))) e
        ∙ ap (λ (b : Bool). b || (holds (clauses_of rs) c && (wanted c && not (holds seen c || (false || false))))) (and_false (wanted r.1 && not (holds seen r.1)))
        ∙ not_seen (wanted c) (holds (clauses_of rs) c) (holds seen c)
        ∙ ap (λ (b : Bool). (b || holds (clauses_of rs) c) && (wanted c && not (holds seen c))) (sym e)

pub holds-shown : (rs : List Reason) (log : Log) (c : List ℤ) → holds (clauses_of (shown rs log)) c ≡ (holds (clauses_of rs) c && holds (used log) c)
holds-shown rs log c =
    ap (λ (l : List Reason). holds (clauses_of l) c) (shown-firsts rs log)
    ∙ holds-firsts (holds (used log)) [] rs c
    ∙ ap (λ (b : Bool). holds (clauses_of rs) c && b) (and_true (holds (used log) c))

-- ---- a step of a loop over reasons

shown_step : (log : Log) (rs : List Reason) (r : Reason) (b : Bool) → (holds (used log) r.1 && not (holds (clauses_of rs) r.1)) ≡ b → shown (rs ++ r ∷ []) log ≡ shown rs log ++ cond b (r ∷ []) []
shown_step log rs r b e =
    shown-firsts (rs ++ r ∷ []) log
    ∙ firsts_push (holds (used log)) [] rs r
    ∙ ap (λ (x : Bool). firsts (holds (used log)) [] rs ++ cond x (r ∷ []) []) e
    ∙ ap (λ (l : List Reason). l ++ cond b (r ∷ []) []) (sym (shown-firsts rs log))

keeps : (u h k : Bool) → k ≡ (h && u) → u ≡ true → k ≡ false → (u && not h) ≡ true
keeps true true k e f g = cc
keeps true false k e f g = refl
keeps false h k e f g = cc

skips : (u h k : Bool) → k ≡ (h && u) → k ≡ true → (u && not h) ≡ false
skips true true k e f = refl
skips true false k e f = cc
skips false h k e f = refl

unused : (u h : Bool) → u ≡ false → (u && not h) ≡ false
unused true h e = cc
unused false h e = refl

-- used, and not among those that are shown
pub shown_more : (log : Log) (rs : List Reason) (r : Reason) → holds (used log) r.1 ≡ true → holds (clauses_of (shown rs log)) r.1 ≡ false → shown (rs ++ r ∷ []) log ≡ shown rs log ++ r ∷ []
shown_more log rs r u k = shown_step log rs r true (keeps _ _ _ (holds-shown rs log r.1) u k)

pub shown_again : (log : Log) (rs : List Reason) (r : Reason) → holds (clauses_of (shown rs log)) r.1 ≡ true → shown (rs ++ r ∷ []) log ≡ shown rs log
shown_again log rs r k = shown_step log rs r false (skips _ _ _ (holds-shown rs log r.1) k) ∙ append-nil (shown rs log)

pub shown_unused : (log : Log) (rs : List Reason) (r : Reason) → holds (used log) r.1 ≡ false → shown (rs ++ r ∷ []) log ≡ shown rs log
shown_unused log rs r u = shown_step log rs r false (unused _ _ u) ∙ append-nil (shown rs log)

-- the first so many of two lists, as pairs
pub zip_more : (ws : List Why) (cs : List (List ℤ)) (n : ℕ) (w : Why) (c : List ℤ) → n < length ws → n < length cs → w ≡ get_or ws n w → c ≡ get_or cs n c →
    take (n + 1) (zip ws cs) ≡ take n (zip ws cs) ++ (w, c) ∷ []
zip_more ws cs n w c lw lc ew ec =
    take_more (zip ws cs) n (w, c) (omega (arith, length-zip ws cs))
    ∙ ap (λ (p : Reason). take n (zip ws cs) ++ p ∷ []) (get_or-zip ws cs n (w, c) lw lc)
    ∙ ap (λ (x : Why). take n (zip ws cs) ++ (x, get_or cs n c) ∷ []) (sym ew)
    ∙ ap (λ (x : List ℤ). take n (zip ws cs) ++ (w, x) ∷ []) (sym ec)

pub zip_back : (rs : List Reason) → zip (map (λ (r : Reason). r.0) rs) (map (λ (r : Reason). r.1) rs) ≡ rs
zip_back [] = refl
zip_back (r ∷ rs) = ap (λ (l : List Reason). r ∷ l) (zip_back rs)
