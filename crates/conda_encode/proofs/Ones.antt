-- The clauses on names: that they are true is that no two records of a name are chosen, with the helpers as they are meant.
use Rattle.std.proofs.Common.{◌≡◌, ◌≢◌, ℕ, zero, suc, ◌+◌, ◌-◌, ◌≤◌, ◌<◌, nat_lt, Bool, true, false, cond, ◌||◌, List, [], ◌∷◌, ◌++◌, length, drop, refl, sym, ap, ◌∙◌, subst, ◌⊎◌, inl, inr, true≢false, arith}
use Rattle.std.proofs.lemmas.Bool.{le-ltb, lt-ltb, ltb-true, or_cases, or_left, or_right}
use Rattle.std.proofs.lemmas.List.{length-append, length-drop}
use Rattle.std.specs.List.{AllPairs, Contains}
use Rattle.conda_refute.specs.Literals.{clause_true}
use Rattle.conda_record.specs.declared.pkg_record.PkgRecord.{PkgRecord}
use Rattle.conda_record.specs.declared.pool.NamePool.{NamePool}
use Rattle.conda_encode.specs.Clauses.{Reason, off, on, one_at, one_of, one_step, ones}
use Rattle.conda_encode.specs.Matching.{lowered}
use Rattle.conda_encode.specs.Variables.{helpers_of, numbered, records}
use Rattle.conda_encode.specs.declared.encoded.Why.{Why}
use Rattle.conda_encode.proofs.Members.{In, in_either, in_flat_map, in_left, in_right, number_high, number_low, numbered_in, of_flat_map, to_contains}
use Rattle.conda_encode.proofs.Literals.{off_then, off_true, off_unless, on_from, on_true, one_literal, only_literal}
use Rattle.conda_encode.proofs.Meaning.{Hold, holds}
use Rattle.conda_encode.proofs.Sides.{Numbered}

-- ---- clauses of two literals

then_on : (v : ℕ → Bool) (a b : ℕ) → clause_true v (off a ∷ on b ∷ []) ≡ true → v a ≡ true → v b ≡ true
then_on v a b h k = on_true v b (only_literal v (on b) (off_then v a (on b ∷ []) h k))

then_off : (v : ℕ → Bool) (a b : ℕ) → clause_true v (off a ∷ off b ∷ []) ≡ true → v a ≡ true → v b ≡ true → ⊥
then_off v a b h k = off_true v b (only_literal v (off b) (off_then v a (off b ∷ []) h k))

from_on : (v : ℕ → Bool) (a b : ℕ) → 1 ≤ a → 1 ≤ b → (v a ≡ true → v b ≡ true) → clause_true v (off a ∷ on b ∷ []) ≡ true
from_on v a b low high f = off_unless v a (on b ∷ []) low (λ h. one_literal v (on b) (on_from v b high (f h)))

from_off : (v : ℕ → Bool) (a b : ℕ) → 1 ≤ a → 1 ≤ b → (v a ≡ true → v b ≡ true → ⊥) → clause_true v (off a ∷ off b ∷ []) ≡ true
from_off v a b low high f =
    off_unless v a (off b ∷ []) low (λ h. off_unless v b [] high (λ k. absurd (f h k)))

-- ---- numbers in a row

pub number_at : {A : Type 0} (s : ℕ) (xs : List A) (i : ℕ) → i < length xs → (x : A) × In (s + i, x) (numbered s xs)
number_at s [] i lt = absurd (omega arith)
number_at s (y ∷ ys) zero lt = let e : s ≡ s + 0 = omega arith in (y, inl (ap (λ u. (u, y)) e))
number_at {A} s (y ∷ ys) (suc i) lt =
    let w : (x : A) × In (s + 1 + i, x) (numbered (s + 1) ys) = number_at (s + 1) ys i (omega arith) in
    let e : s + 1 + i ≡ s + suc i = omega arith in
    let P : ℕ → Type 0 = λ n. In (n, w.0) (numbered (s + 1) ys) in
    (w.0, inr (subst P e w.1))

pub numbered-append : {A : Type 0} (s : ℕ) (xs ys : List A) → numbered s (xs ++ ys) ≡ numbered s xs ++ numbered (s + length xs) ys
numbered-append s [] ys = let e : s ≡ s + 0 = omega arith in ap (λ n. numbered n ys) e
numbered-append {A} s (x ∷ xs) ys =
    let e : s + 1 + length xs ≡ s + suc (length xs) = omega arith in
    let ih : numbered (s + 1) (xs ++ ys) ≡ numbered (s + 1) xs ++ numbered (s + 1 + length xs) ys = numbered-append (s + 1) xs ys in
    let step : numbered (s + 1) xs ++ numbered (s + 1 + length xs) ys ≡ numbered (s + 1) xs ++ numbered (s + suc (length xs)) ys
    = ap (λ n. numbered (s + 1) xs ++ numbered n ys) e in
    ap (λ zs. (s, x) ∷ zs) (ih ∙ step)

-- ---- one pool

-- what the clauses of a pool say, where it has k records
pub record Chain (v : ℕ → Bool) (n s k : ℕ) : Type 0 where
  pub first : (i : ℕ) → i + 1 < k → v (n + i) ≡ true → v (s + i) ≡ true
  pub next : (i : ℕ) → i + 2 < k → v (s + i) ≡ true → v (s + i + 1) ≡ true
  pub last : (i : ℕ) → i + 1 < k → v (n + i + 1) ≡ true → v (s + i) ≡ true → ⊥

in_middle : (r : Reason) (b : Bool) (front behind : Reason) → b ≡ true → In r (front ∷ ((cond b (r ∷ []) []) ++ behind ∷ []))
in_middle r true front behind e = inr (inl refl)
in_middle r false front behind e = absurd (true≢false (sym e))

in_last : (b : Bool) (front middle behind : Reason) → In behind (front ∷ ((cond b (middle ∷ []) []) ++ behind ∷ []))
in_last true front middle behind = inr (inr (inl refl))
in_last false front middle behind = inr (inl refl)

pub of_step : (r : Reason) (b : Bool) (front middle behind : Reason) → In r (front ∷ ((cond b (middle ∷ []) []) ++ behind ∷ [])) →
    (front ≡ r) ⊎ (((b ≡ true) × (middle ≡ r)) ⊎ (behind ≡ r))
of_step r b front middle behind (inl e) = inl e
of_step r true front middle behind (inr (inl e)) = inr (inl (refl, e))
of_step r true front middle behind (inr (inr (inl e))) = inr (inr e)
of_step r true front middle behind (inr (inr (inr i))) = absurd i
of_step r false front middle behind (inr (inl e)) = inr (inr e)
of_step r false front middle behind (inr (inr i)) = absurd i

in_pool : (name : List ℕ) (n s : ℕ) (recs : List PkgRecord) (i : ℕ) (r : Reason) → i + 1 < length recs →
    In r (one_step name (n + i) (s + i) (nat_lt (i + 2) (length recs))) → In r (one_of name n s recs)
in_pool name n s recs i r lt h =
    let short : i < length (drop 1 recs) = omega (arith, length-drop 1 recs) in
    let w : (x : PkgRecord) × In (0 + i, x) (numbered 0 (drop 1 recs)) = number_at 0 (drop 1 recs) i short in
    let e : 0 + i ≡ i = omega arith in
    let P : ℕ → Type 0 = λ j. In (j, w.0) (numbered 0 (drop 1 recs)) in
    in_flat_map (one_at name n s (length recs)) (numbered 0 (drop 1 recs)) (i, w.0) r (subst P e w.1) h

pub chain_from : (v : ℕ → Bool) (name : List ℕ) (n s : ℕ) (recs : List PkgRecord) → Hold v (one_of name n s recs) → Chain v n s (length recs)
chain_from v name n s recs hold = record {
  first = λ i lt h.
      then_on v (n + i) (s + i) (hold (Why.One name, off (n + i) ∷ on (s + i) ∷ []) (in_pool name n s recs i (Why.One name, off (n + i) ∷ on (s + i) ∷ []) lt (inl refl))) h;
  next = λ i lt h.
      let r : Reason = (Why.One name, off (s + i) ∷ on (s + i + 1) ∷ []) in
      let more : nat_lt (i + 2) (length recs) ≡ true = lt-ltb (i + 2) (length recs) lt in
      then_on v (s + i) (s + i + 1) (hold r (in_pool name n s recs i r (omega arith)
      (in_middle r (nat_lt (i + 2) (length recs)) (Why.One name, off (n + i) ∷ on (s + i) ∷ []) (Why.One name, off (n + i + 1) ∷ off (s + i) ∷ []) more))) h;
  last = λ i lt h k.
      let r : Reason = (Why.One name, off (n + i + 1) ∷ off (s + i) ∷ []) in
      then_off v (n + i + 1) (s + i) (hold r (in_pool name n s recs i r lt
      (in_last (nat_lt (i + 2) (length recs)) (Why.One name, off (n + i) ∷ on (s + i) ∷ []) (Why.One name, off (s + i) ∷ on (s + i + 1) ∷ []) r))) h k;
}

pub chain_hold : (v : ℕ → Bool) (name : List ℕ) (n s : ℕ) (recs : List PkgRecord) → 1 ≤ n → 1 ≤ s → Chain v n s (length recs) → Hold v (one_of name n s recs)
chain_hold v name n s recs low high chain r i =
    let w : (x : ℕ × PkgRecord) × In x (numbered 0 (drop 1 recs)) × In r (one_at name n s (length recs) x)
    = of_flat_map (one_at name n s (length recs)) (numbered 0 (drop 1 recs)) r i in
    let j : ℕ = w.0.0 in
    let end : w.0.0 < 0 + length (drop 1 recs) = number_high 0 (drop 1 recs) w.0 w.1 in
    let lt : w.0.0 + 1 < length recs = omega (arith, length-drop 1 recs) in
    elim (of_step r (nat_lt (j + 2) (length recs)) (Why.One name, off (n + j) ∷ on (s + j) ∷ []) (Why.One name, off (s + j) ∷ on (s + j + 1) ∷ []) (Why.One name, off (n + j + 1) ∷ off (s + j) ∷ []) w.2) [
      | inl e ↦ ap (holds v) (sym e) ∙ from_on v (n + j) (s + j) (omega arith) (omega arith) (chain.first j lt)
      | inr (inl h) ↦ ap (holds v) (sym h.1) ∙ from_on v (s + j) (s + j + 1) (omega arith) (omega arith) (chain.next j (ltb-true (j + 2) (length recs) h.0))
      | inr (inr e) ↦ ap (holds v) (sym e) ∙ from_off v (n + j + 1) (s + j) (omega arith) (omega arith) (chain.last j lt)
    ]

-- the helper of a record is true where it or an earlier one is chosen
reaches : (v : ℕ → Bool) (n s k : ℕ) → Chain v n s k → (a d : ℕ) → a + d + 1 < k → v (n + a) ≡ true → v (s + (a + d)) ≡ true
reaches v n s k chain a zero lt h =
    let e : a ≡ a + 0 = omega arith in
    let P : ℕ → Type 0 = λ j. v (s + j) ≡ true in
    subst P e (chain.first a (omega arith) h)
reaches v n s k chain a (suc d) lt h =
    let e : s + (a + d) + 1 ≡ s + (a + suc d) = omega arith in
    let P : ℕ → Type 0 = λ j. v j ≡ true in
    subst P e (chain.next (a + d) (omega arith) (reaches v n s k chain a d (omega arith) h))

no_two : (v : ℕ → Bool) (n s k : ℕ) → Chain v n s k → (a b : ℕ) → a < b → b < k → v (n + a) ≡ true → v (n + b) ≡ true → ⊥
no_two v n s k chain a b lt short h g =
    let e : a + (b - a - 1) ≡ b - 1 = omega arith in
    let P : ℕ → Type 0 = λ j. v (s + j) ≡ true in
    let p : v (s + (b - 1)) ≡ true = subst P e (reaches v n s k chain a (b - a - 1) (omega arith) h) in
    let f : n + b ≡ n + (b - 1) + 1 = omega arith in
    let Q : ℕ → Type 0 = λ j. v j ≡ true in
    chain.last (b - 1) (omega arith) (subst Q f g) p

below_not : (v : ℕ → Bool) (n s k : ℕ) → Chain v n s k → (x y : ℕ) → n ≤ x → x < y → y < n + k → v x ≡ true → v y ≡ true → ⊥
below_not v n s k chain x y low lt high h g =
    let Q : ℕ → Type 0 = λ j. v j ≡ true in
    let e : x ≡ n + (x - n) = omega arith in
    let f : y ≡ n + (y - n) = omega arith in
    no_two v n s k chain (x - n) (y - n) (omega arith) (omega arith) (subst Q e h) (subst Q f g)

pub same_or_less : (a b : ℕ) → (a ≡ b) ⊎ ((a < b) ⊎ (b < a))
same_or_less zero zero = inl refl
same_or_less zero (suc b) = inr (inl (omega arith))
same_or_less (suc a) zero = inr (inr (omega arith))
same_or_less (suc a) (suc b) =
    elim (same_or_less a b) [
      | inl e ↦ inl (ap suc e)
      | inr (inl h) ↦ inr (inl (omega arith))
      | inr (inr h) ↦ inr (inr (omega arith))
    ]

one_chosen : (v : ℕ → Bool) (n s k : ℕ) → Chain v n s k → (x y : ℕ) → n ≤ x → x < n + k → n ≤ y → y < n + k → v x ≡ true → v y ≡ true → x ≡ y
one_chosen v n s k chain x y a b c d h g =
    elim (same_or_less x y) [
      | inl e ↦ e
      | inr (inl lt) ↦ absurd (below_not v n s k chain x y a lt d h g)
      | inr (inr lt) ↦ absurd (below_not v n s k chain y x c lt b g h)
    ]

-- ---- all pools

-- the pools from here on, each of another name, with records of its name alone
pub record Own (pools : List NamePool) : Type 0 where
  pub own : (pool : NamePool) → In pool pools → (pkg : PkgRecord) → In pkg pool.recs → lowered pkg.name ≡ pool.name
  pub apart : AllPairs (λ p q. p.name ≢ q.name) pools

pub first_pair : {A : Type 0} (R : A → A → Type 0) (x y : A) (xs : List A) → AllPairs R (x ∷ xs) → In y xs → R x y
first_pair {A} R x y xs pairs i =
    let c : Contains xs y = to_contains xs y i in
    let P : A → Type 0 = λ u. R x u in
    let lt : suc c.0 < length (x ∷ xs) = omega (arith, c.1) in
    subst P c.2 (pairs 0 (suc c.0) y (omega arith) lt)

pub rest_pairs : {A : Type 0} (R : A → A → Type 0) (x : A) (xs : List A) → AllPairs R (x ∷ xs) → AllPairs R xs
rest_pairs R x xs pairs i j d lt short = pairs (suc i) (suc j) d (omega arith) (omega arith)

pub rest_own : (pool : NamePool) (rest : List NamePool) → Own (pool ∷ rest) → Own rest
rest_own pool rest o = record {
  own = λ p i. o.own p (inr i);
  apart = rest_pairs (λ (p q : NamePool). p.name ≢ q.name) pool rest o.apart;
}

-- a record of the first pool has another name than one of a later pool
other_names : (pool : NamePool) (rest : List NamePool) → Own (pool ∷ rest) → (m k : PkgRecord) → In m pool.recs → In k (records rest) → lowered m.name ≡ lowered k.name → ⊥
other_names pool rest o m k i j same =
    let w : (p : NamePool) × In p rest × In k p.recs = of_flat_map (λ (p : NamePool). p.recs) rest k j in
    first_pair (λ (p q : NamePool). p.name ≢ q.name) pool w.0 rest o.apart w.1
    (sym (o.own pool (inl refl) m i) ∙ same ∙ o.own w.0 (inr w.1) k w.2)

abbrev pub Side : (ℕ → Bool) → ℕ → List PkgRecord → Numbered → Type 0
Side v n recs x = In x (numbered n recs) × (v x.0 ≡ true)

split_number : (n : ℕ) (xs ys : List PkgRecord) (x : Numbered) → In x (numbered n (xs ++ ys)) → In x (numbered n xs) ⊎ In x (numbered (n + length xs) ys)
split_number n xs ys x i =
    let P : List Numbered → Type 0 = λ zs. In x zs in
    in_either (numbered n xs) (numbered (n + length xs) ys) x (subst P (numbered-append n xs ys) i)

pub ones_once : (v : ℕ → Bool) (n s : ℕ) (pools : List NamePool) → Own pools → Hold v (ones n s pools) →
    (x y : Numbered) → Side v n (records pools) x → Side v n (records pools) y → lowered x.1.name ≡ lowered y.1.name → x.0 ≡ y.0
ones_once v n s [] o hold x y a b same = absurd a.0
ones_once v n s (pool ∷ rest) o hold x y a b same =
    let chain : Chain v n s (length pool.recs)
    = chain_from v pool.name n s pool.recs (λ r i. hold r (in_left (one_of pool.name n s pool.recs) (ones (n + length pool.recs) (s + helpers_of pool) rest) r i)) in
    let later : Hold v (ones (n + length pool.recs) (s + helpers_of pool) rest)
    = λ r i. hold r (in_right (one_of pool.name n s pool.recs) (ones (n + length pool.recs) (s + helpers_of pool) rest) r i) in
    elim (split_number n pool.recs (records rest) x a.0) [
      | inl i ↦ elim (split_number n pool.recs (records rest) y b.0) [
        | inl j ↦ one_chosen v n s (length pool.recs) chain x.0 y.0 (number_low n pool.recs x i) (number_high n pool.recs x i) (number_low n pool.recs y j) (number_high n pool.recs y j) a.1 b.1
        | inr j ↦ absurd (other_names pool rest o x.1 y.1 (numbered_in n pool.recs x i) (numbered_in (n + length pool.recs) (records rest) y j) same)
      ]
      | inr i ↦ elim (split_number n pool.recs (records rest) y b.0) [
        | inl j ↦ absurd (other_names pool rest o y.1 x.1 (numbered_in n pool.recs y j) (numbered_in (n + length pool.recs) (records rest) x i) (sym same))
        | inr j ↦ ones_once v (n + length pool.recs) (s + helpers_of pool) rest (rest_own pool rest o) later x y (i, a.1) (j, b.1) same
      ]
    ]

-- ---- the helpers as they are meant

-- one of the records from n on, up to i more, is chosen
some_upto : (ℕ → Bool) → ℕ → ℕ → Bool
some_upto w n zero = w n
some_upto w n (suc i) = some_upto w n i || w (n + suc i)

upto_here : (w : ℕ → Bool) (n i : ℕ) → w (n + i) ≡ true → some_upto w n i ≡ true
unfolding some_upto
upto_here w n zero h =
    let e : n + 0 ≡ n = omega arith in
    let P : ℕ → Type 0 = λ j. w j ≡ true in
    subst P e h
upto_here w n (suc i) h = or_right (some_upto w n i) (w (n + suc i)) h

upto_more : (w : ℕ → Bool) (n i : ℕ) → some_upto w n i ≡ true → some_upto w n (i + 1) ≡ true
unfolding some_upto
upto_more w n i h =
    let e : suc i ≡ i + 1 = omega arith in
    let P : ℕ → Type 0 = λ j. some_upto w n j ≡ true in
    subst P e (or_left (some_upto w n i) (w (n + suc i)) h)

upto_some : (w : ℕ → Bool) (n i : ℕ) → some_upto w n i ≡ true → (j : ℕ) × (j ≤ i) × (w (n + j) ≡ true)
unfolding some_upto
upto_some w n zero h =
    let e : n ≡ n + 0 = omega arith in
    let P : ℕ → Type 0 = λ j. w j ≡ true in
    (0, omega arith, subst P e h)
upto_some w n (suc i) h =
    elim (or_cases (some_upto w n i) (w (n + suc i)) h) [
      | inl e ↦ let r : (j : ℕ) × (j ≤ i) × (w (n + j) ≡ true) = upto_some w n i e in (r.0, omega (arith, r.1), r.2)
      | inr e ↦ (suc i, omega arith, e)
    ]

pub helper_side : (ℕ → Bool) → ℕ → ℕ → List NamePool → ℕ → Bool
helper_side w n s [] h = false
helper_side w n s (pool ∷ rest) h =
    cond (nat_lt h (s + helpers_of pool)) (some_upto w n (h - s)) (helper_side w (n + length pool.recs) (s + helpers_of pool) rest h)

helper_here : (w : ℕ → Bool) (n s : ℕ) (pool : NamePool) (rest : List NamePool) (i : ℕ) → i + 1 < length pool.recs → helper_side w n s (pool ∷ rest) (s + i) ≡ some_upto w n i
unfolding helper_side
helper_here w n s pool rest i lt =
    let test : nat_lt (s + i) (s + helpers_of pool) ≡ true = lt-ltb (s + i) (s + helpers_of pool) (omega arith) in
    let e : s + i - s ≡ i = omega arith in
    ap (λ b. cond b (some_upto w n (s + i - s)) (helper_side w (n + length pool.recs) (s + helpers_of pool) rest (s + i))) test
    ∙ ap (some_upto w n) e

helper_later : (w : ℕ → Bool) (n s : ℕ) (pool : NamePool) (rest : List NamePool) (h : ℕ) → s + helpers_of pool ≤ h →
    helper_side w n s (pool ∷ rest) h ≡ helper_side w (n + length pool.recs) (s + helpers_of pool) rest h
unfolding helper_side
helper_later w n s pool rest h far =
    let test : nat_lt h (s + helpers_of pool) ≡ false = le-ltb h (s + helpers_of pool) far in
    ap (λ b. cond b (some_upto w n (h - s)) (helper_side w (n + length pool.recs) (s + helpers_of pool) rest h)) test

-- the sides choose at most one record of a name among these
abbrev pub Once : (ℕ → Bool) → ℕ → List PkgRecord → Type 0
Once w n recs = (x y : Numbered) → Side w n recs x → Side w n recs y → lowered x.1.name ≡ lowered y.1.name → x.0 ≡ y.0

upto_one : (w : ℕ → Bool) (n : ℕ) (pool : NamePool) (rest : List NamePool) → Own (pool ∷ rest) → Once w n (records (pool ∷ rest)) →
    (a b : ℕ) → a < b → b < length pool.recs → w (n + a) ≡ true → w (n + b) ≡ true → ⊥
upto_one w n pool rest o once a b lt short h g =
    let x : (r : PkgRecord) × In (n + a, r) (numbered n pool.recs) = number_at n pool.recs a (omega arith) in
    let y : (r : PkgRecord) × In (n + b, r) (numbered n pool.recs) = number_at n pool.recs b short in
    let P : List Numbered → Type 0 = λ zs. In (n + a, x.0) zs in
    let Q : List Numbered → Type 0 = λ zs. In (n + b, y.0) zs in
    let i = subst P (sym (numbered-append n pool.recs (records rest))) (in_left (numbered n pool.recs) (numbered (n + length pool.recs) (records rest)) (n + a, x.0) x.1) in
    let j = subst Q (sym (numbered-append n pool.recs (records rest))) (in_left (numbered n pool.recs) (numbered (n + length pool.recs) (records rest)) (n + b, y.0) y.1) in
    let e : n + a ≡ n + b = once (n + a, x.0) (n + b, y.0) (i, h) (j, g)
    (o.own pool (inl refl) x.0 (numbered_in n pool.recs (n + a, x.0) x.1) ∙ sym (o.own pool (inl refl) y.0 (numbered_in n pool.recs (n + b, y.0) y.1))) in
    omega arith

pub ones_hold : (w u : ℕ → Bool) (n s : ℕ) (pools : List NamePool) → 1 ≤ n → n + length (records pools) ≤ s → Own pools →
    Once w n (records pools) → ((m : ℕ) → m < n + length (records pools) → u m ≡ w m) → ((h : ℕ) → s ≤ h → u h ≡ helper_side w n s pools h) →
    Hold u (ones n s pools)
ones_hold w u n s [] low far o once sides helpers r i = absurd i
ones_hold w u n s (pool ∷ rest) low far o once sides helpers r i =
    let k = length pool.recs in
    let total : length (records (pool ∷ rest)) ≡ k + length (records rest) = length-append pool.recs (records rest) in
    let at : (j : ℕ) → j < k → u (n + j) ≡ w (n + j) = λ j lt. sides (n + j) (omega (arith, total)) in
    let helper : (j : ℕ) → j + 1 < k → u (s + j) ≡ some_upto w n j = λ j lt. helpers (s + j) (omega arith) ∙ helper_here w n s pool rest j lt in
    let chain : Chain u n s k = record {
      first = λ j lt h. helper j lt ∙ upto_here w n j (sym (at j (omega arith)) ∙ h);
      next = λ j lt h.
          let e : s + (j + 1) ≡ s + j + 1 = omega arith in
          let P : ℕ → Type 0 = λ t. u t ≡ true in
          subst P e (helper (j + 1) (omega arith) ∙ upto_more w n j (sym (helper j (omega arith)) ∙ h));
      last = λ j lt h g.
          let m : (t : ℕ) × (t ≤ j) × (w (n + t) ≡ true) = upto_some w n j (sym (helper j lt) ∙ g) in
          let e : n + j + 1 ≡ n + (j + 1) = omega arith in
          let P : ℕ → Type 0 = λ t. u t ≡ true in
          upto_one w n pool rest o once m.0 (j + 1) (omega (arith, m.1)) lt m.2 (sym (at (j + 1) lt) ∙ subst P e h);
    } in
    elim (in_either (one_of pool.name n s pool.recs) (ones (n + k) (s + helpers_of pool) rest) r i) [
      | inl a ↦ chain_hold u pool.name n s pool.recs low (omega arith) chain r a
      | inr a ↦
          ones_hold w u (n + k) (s + helpers_of pool) rest (omega arith) (omega (arith, total)) (rest_own pool rest o)
          (λ x y f g same.
          let P : List Numbered → Type 0 = λ zs. In x zs in
          let Q : List Numbered → Type 0 = λ zs. In y zs in
          once x y
          (subst P (sym (numbered-append n pool.recs (records rest))) (in_right (numbered n pool.recs) (numbered (n + k) (records rest)) x f.0), f.1)
          (subst Q (sym (numbered-append n pool.recs (records rest))) (in_right (numbered n pool.recs) (numbered (n + k) (records rest)) y g.0), g.1)
          same)
          (λ m lt. sides m (omega (arith, total)))
          (λ h start. helpers h (omega arith) ∙ helper_later w n s pool rest h start)
          r a
    ]
