-- What the clauses of a request mean: their models are the solutions.
use Rattle.std.proofs.Common.{◌≡◌, ◌↔◌, ℕ, zero, suc, ◌+◌, ◌≤◌, ◌<◌, ◌==◌, nat_lt, Bool, true, false, cond, List, [], ◌∷◌, ◌++◌, length, refl, sym, ap, ◌∙◌, subst, ◌⊎◌, inl, inr, true≢false, arith, eqb-true, eq-eqb}
use Rattle.std.proofs.lemmas.Bool.{le-ltb, lt-ltb, ne_eqb}
use Rattle.std.proofs.lemmas.List.Folds.{list_all-map}
use Rattle.std.specs.List.{AllPairs, Contains, list_any}
use Rattle.conda_refute.specs.Literals.{clause_true}
use Rattle.conda_record.specs.declared.pkg_record.PkgRecord.{PkgRecord}
use Rattle.conda_record.specs.declared.pool.NamePool.{NamePool}
use Rattle.conda_encode.specs.Clauses.{Reason, barred, needed, ones, pinned, reasons, wanted}
use Rattle.conda_encode.specs.Matching.{lowered}
use Rattle.conda_encode.specs.Models.{Chooses, IsCut, IsModel, chosen}
use Rattle.conda_encode.specs.Solution.{HaveOtherNames, IsReached, IsSolution}
use Rattle.conda_encode.specs.Variables.{IsRequest, numbered, records, variables}
use Rattle.conda_encode.specs.declared.asked.Asked.{Asked}
use Rattle.conda_encode.proofs.Members.{In, all_at, all_from, any_at, any_from, from_contains, in_either, in_flat_map, in_left, in_right, number_high, number_of, number_once, to_contains}
use Rattle.conda_encode.proofs.Cuts.{cut_solves, solution_sides}
use Rattle.conda_encode.proofs.Meaning.{Hold, barred_hold, holds, needed_hold, needed_met, none_barred, pinned_hold, pins_kept, wanted_hold, wanted_met}
use Rattle.conda_encode.proofs.Ones.{Own, first_pair, helper_side, ones_hold, ones_once, rest_pairs, same_or_less}
use Rattle.conda_encode.proofs.Sides.{AreSides, IsMetBy, IsTrueOf, Numbered}

-- ---- models are sides as they are asked for, and back

abbrev pub first_helper : List NamePool → ℕ
first_helper pools = length (records pools) + 1

model_holds : (pools : List NamePool) (items : List Asked) (v : ℕ → Bool) → IsModel pools items v → Hold v (reasons pools items)
model_holds pools items v model r i =
    all_at (holds v) (reasons pools items) r (sym (list_all-map (clause_true v) (λ (r : Reason). r.1) (reasons pools items)) ∙ model) i

holds_model : (pools : List NamePool) (items : List Asked) (v : ℕ → Bool) → Hold v (reasons pools items) → IsModel pools items v
holds_model pools items v hold =
    list_all-map (clause_true v) (λ (r : Reason). r.1) (reasons pools items) ∙ all_from (holds v) (reasons pools items) hold

own_of : (pools : List NamePool) (items : List Asked) → IsRequest pools items → Own pools
own_of pools items request = record {
  own = λ pool i pkg j. request.own pool (to_contains pools pool i) pkg (to_contains pool.recs pkg j);
  apart = request.apart;
}

pub model_sides : (pools : List NamePool) (items : List Asked) (v : ℕ → Bool) → IsRequest pools items → IsModel pools items v → AreSides pools items v
model_sides pools items v request model =
    let hold : Hold v (reasons pools items) = model_holds pools items v model in
    let a = wanted pools items in
    let b = needed pools in
    let c = barred pools in
    let d = ones 1 (first_helper pools) pools in
    let e = pinned pools items in
    record {
      wanted = wanted_met pools items v (λ r i. hold r (in_left (a ++ b ++ c ++ d) e r (in_left (a ++ b ++ c) d r (in_left (a ++ b) c r (in_left a b r i)))));
      needed = needed_met pools v (λ r i. hold r (in_left (a ++ b ++ c ++ d) e r (in_left (a ++ b ++ c) d r (in_left (a ++ b) c r (in_right a b r i)))));
      barred = none_barred pools v (λ r i. hold r (in_left (a ++ b ++ c ++ d) e r (in_left (a ++ b ++ c) d r (in_right (a ++ b) c r i))));
      once = ones_once v 1 (first_helper pools) pools (own_of pools items request) (λ r i. hold r (in_left (a ++ b ++ c ++ d) e r (in_right (a ++ b ++ c) d r i)));
      pinned = pins_kept pools items v (λ r i. hold r (in_right (a ++ b ++ c ++ d) e r i));
    }

-- the sides of the records' variables, and behind them those of the helpers
model_of : List NamePool → (ℕ → Bool) → ℕ → Bool
model_of pools w n = cond (nat_lt n (first_helper pools)) (w n) (helper_side w 1 (first_helper pools) pools n)

model_low : (pools : List NamePool) (w : ℕ → Bool) (n : ℕ) → n < first_helper pools → model_of pools w n ≡ w n
unfolding model_of
model_low pools w n lt =
    ap (λ b. cond b (w n) (helper_side w 1 (first_helper pools) pools n)) (lt-ltb n (first_helper pools) lt)

model_high : (pools : List NamePool) (w : ℕ → Bool) (n : ℕ) → first_helper pools ≤ n → model_of pools w n ≡ helper_side w 1 (first_helper pools) pools n
unfolding model_of
model_high pools w n far =
    ap (λ b. cond b (w n) (helper_side w 1 (first_helper pools) pools n)) (le-ltb n (first_helper pools) far)

-- sides that agree on the records' variables
abbrev pub Agree : List NamePool → (ℕ → Bool) → (ℕ → Bool) → Type 0
Agree pools u w = (n : ℕ) → n < first_helper pools → u n ≡ w n

true_of : (pools : List NamePool) (u w : ℕ → Bool) → Agree pools u w → (x : Numbered) → IsTrueOf pools u x → IsTrueOf pools w x
true_of pools u w agree x t =
    let lt : x.0 < 1 + length (records pools) = number_high 1 (records pools) x t.0 in
    (t.0, sym (agree x.0 (omega arith)) ∙ t.1)

sides_of : (pools : List NamePool) (items : List Asked) (u w : ℕ → Bool) → Agree pools u w → AreSides pools items w → AreSides pools items u
sides_of pools items u w agree sides =
    let back : Agree pools w u = λ n lt. sym (agree n lt) in
    let found : (spec : _) → IsMetBy pools w spec → IsMetBy pools u spec = λ spec m. (m.0, true_of pools w u back m.0 m.1, m.2) in
    record {
      wanted = λ spec wants. found spec (sides.wanted spec wants);
      needed = λ x t spec d. found spec (sides.needed x (true_of pools u w agree x t) spec d);
      barred = λ x y a b. sides.barred x y (true_of pools u w agree x a) (true_of pools u w agree y b);
      once = λ x y a b. sides.once x y (true_of pools u w agree x a) (true_of pools u w agree y b);
      pinned = λ spec pins y t. sides.pinned spec pins y (true_of pools u w agree y t);
    }

pub sides_model : (pools : List NamePool) (items : List Asked) (w : ℕ → Bool) → IsRequest pools items → AreSides pools items w →
    (v : ℕ → Bool) × IsModel pools items v × Agree pools v w
sides_model pools items w request sides =
    let v = model_of pools w in
    let agree : Agree pools v w = model_low pools w in
    let own = sides_of pools items v w agree sides in
    let a = wanted pools items in
    let b = needed pools in
    let c = barred pools in
    let d = ones 1 (first_helper pools) pools in
    let e = pinned pools items in
    let last : Hold v d = ones_hold w v 1 (first_helper pools) pools (omega arith) (omega arith) (own_of pools items request) sides.once
    (λ m lt. agree m (omega arith)) (model_high pools w) in (
      v,
      holds_model pools items v (λ r i.
          elim (in_either (a ++ b ++ c ++ d) e r i) [
            | inr h ↦ pinned_hold pools items v own.pinned r h
            | inl i ↦ elim (in_either (a ++ b ++ c) d r i) [
              | inr h ↦ last r h
              | inl i ↦ elim (in_either (a ++ b) c r i) [
                | inr h ↦ barred_hold pools v own.barred r h
                | inl i ↦ elim (in_either a b r i) [
                  | inl h ↦ wanted_hold pools items v own.wanted r h
                  | inr h ↦ needed_hold pools v own.needed r h
                ]
              ]
            ]
          ]),
      agree,
    )

-- ---- the laws

pub cut_solution : (pools : List NamePool) (items : List Asked) → IsRequest pools items → (v : ℕ → Bool) → IsModel pools items v →
    (set : List PkgRecord) → IsCut pools items v set → IsSolution set items pools
cut_solution pools items request v model set (w, same, keeps) =
    let P : List PkgRecord → Type 0 = λ u. IsSolution u items pools in
    subst P (sym same) (cut_solves pools items v w request (model_sides pools items v request model) keeps)

pub same_model : (pools : List NamePool) (items : List Asked) → IsRequest pools items → (set : List PkgRecord) → IsSolution set items pools →
    (w : ℕ → Bool) → Chooses pools w set → (v : ℕ → Bool) × IsModel pools items v × ((n : ℕ) → n ≤ length (records pools) → v n ≡ w n)
same_model pools items request set solution w chooses =
    let m = sides_model pools items w request (solution_sides pools items set w solution chooses) in
    (m.0, m.1, λ n le. m.2 n (omega arith))

-- ---- each solution is chosen by variables

-- the variables of these records, each in its place
abbrev pub Zipped : List PkgRecord → List ℕ → List PkgRecord → Type 0
Zipped recs [] [] = Unit {0}
Zipped recs [] (m ∷ ms) = ⊥
Zipped recs (n ∷ ns) [] = ⊥
Zipped recs (n ∷ ns) (m ∷ ms) = In (n, m) (numbered 1 recs) × Zipped recs ns ms

variables_for : (recs set : List PkgRecord) → ((m : PkgRecord) → In m set → In m recs) → (ns : List ℕ) × Zipped recs ns set
variables_for recs [] each = ([], tt)
variables_for recs (m ∷ ms) each =
    let n : (n : ℕ) × In (n, m) (numbered 1 recs) = number_of 1 recs m (each m (inl refl)) in
    let rest : (ns : List ℕ) × Zipped recs ns ms = variables_for recs ms (λ k i. each k (inr i)) in
    (n.0 ∷ rest.0, (n.1, rest.1))

member_of : (recs set : List PkgRecord) (ns : List ℕ) → Zipped recs ns set → (n : ℕ) → In n ns → (m : PkgRecord) × In m set × In (n, m) (numbered 1 recs)
member_of recs [] [] z n i = absurd i
member_of recs [] (k ∷ ks) z n i = absurd z
member_of recs (m ∷ ms) [] z n i = absurd z
member_of recs (m ∷ ms) (k ∷ ks) z n (inl e) =
    let P : ℕ → Type 0 = λ j. In (j, m) (numbered 1 recs) in
    (m, inl refl, subst P e z.0)
member_of recs (m ∷ ms) (k ∷ ks) z n (inr i) =
    let w : (r : PkgRecord) × In r ms × In (n, r) (numbered 1 recs) = member_of recs ms ks z.1 n i in
    (w.0, inr w.1, w.2)

number_in : (recs set : List PkgRecord) (ns : List ℕ) → Zipped recs ns set → (m : PkgRecord) → In m set → (n : ℕ) × In n ns × In (n, m) (numbered 1 recs)
number_in recs [] ns z m i = absurd i
number_in recs (k ∷ ks) [] z m i = absurd z
number_in recs (k ∷ ks) (n ∷ ns) z m (inl e) =
    let P : PkgRecord → Type 0 = λ r. In (n, r) (numbered 1 recs) in
    (n, inl refl, subst P e z.0)
number_in recs (k ∷ ks) (n ∷ ns) z m (inr i) =
    let w : (j : ℕ) × In j ns × In (j, m) (numbered 1 recs) = number_in recs ks ns z.1 m i in
    (w.0, inr w.1, w.2)

zipped_once : (recs set : List PkgRecord) (ns : List ℕ) → Zipped recs ns set → AllPairs HaveOtherNames set →
    (x y : Numbered) → In x (numbered 1 recs) → In y (numbered 1 recs) → In x.0 ns → In y.0 ns → lowered x.1.name ≡ lowered y.1.name → x.0 ≡ y.0
zipped_once recs [] [] z apart x y a b i j same = absurd i
zipped_once recs [] (k ∷ ks) z apart x y a b i j same = absurd z
zipped_once recs (m ∷ ms) [] z apart x y a b i j same = absurd z
zipped_once recs (m ∷ ms) (k ∷ ks) z apart x y a b (inl e) (inl f) same = sym e ∙ f
zipped_once recs (m ∷ ms) (k ∷ ks) z apart x y a b (inr i) (inr j) same =
    zipped_once recs ms ks z.1 (rest_pairs HaveOtherNames m ms apart) x y a b i j same
zipped_once recs (m ∷ ms) (k ∷ ks) z apart x y a b (inl e) (inr j) same =
    let w = member_of recs ms ks z.1 y.0 j in
    let p : m ≡ x.1 = number_once 1 recs (k, m) x z.0 a e in
    let q : w.0 ≡ y.1 = number_once 1 recs (y.0, w.0) y w.2 b refl in
    absurd (first_pair HaveOtherNames m w.0 ms apart w.1
    (ap (λ (r : PkgRecord). lowered r.name) p ∙ same ∙ ap (λ (r : PkgRecord). lowered r.name) (sym q)))
zipped_once recs (m ∷ ms) (k ∷ ks) z apart x y a b (inr i) (inl f) same =
    let w = member_of recs ms ks z.1 x.0 i in
    let p : m ≡ y.1 = number_once 1 recs (k, m) y z.0 b f in
    let q : w.0 ≡ x.1 = number_once 1 recs (x.0, w.0) x w.2 a refl in
    absurd (first_pair HaveOtherNames m w.0 ms apart w.1
    (ap (λ (r : PkgRecord). lowered r.name) p ∙ sym same ∙ ap (λ (r : PkgRecord). lowered r.name) (sym q)))

is_among : List ℕ → ℕ → Bool
is_among ns n = list_any (λ k. k == n) ns

among_from : (ns : List ℕ) (n : ℕ) → In n ns → is_among ns n ≡ true
unfolding is_among
among_from ns n i = any_from (λ k. k == n) ns n i (eq-eqb n n refl)

among_of : (ns : List ℕ) (n : ℕ) → is_among ns n ≡ true → In n ns
unfolding is_among
among_of ns n h =
    let w : (k : ℕ) × In k ns × ((k == n) ≡ true) = any_at (λ k. k == n) ns h in
    let P : ℕ → Type 0 = λ k. In k ns in
    subst P (eqb-true w.0 n w.2) w.1

chooses_from : (pools : List NamePool) (items : List Asked) (set : List PkgRecord) → IsSolution set items pools → (w : ℕ → Bool) × Chooses pools w set
chooses_from pools items set solution =
    let recs = records pools in
    let z = variables_for recs set (λ m i.
    let p = solution.of_pools m (to_contains set m i) in
    in_flat_map (λ (q : NamePool). q.recs) pools p.0 m (from_contains pools p.0 p.1) (from_contains p.0.recs m p.3)) in (
      is_among z.0,
      record {
        only = λ x c h.
            let w = member_of recs set z.0 z.1 x.0 (among_of z.0 x.0 h) in
            let P : PkgRecord → Type 0 = λ r. Contains set r in
            subst P (number_once 1 recs (x.0, w.0) x w.2 (from_contains (variables pools) x c) refl) (to_contains set w.0 w.1);
        all = λ m c.
            let w = number_in recs set z.0 z.1 m (from_contains set m c) in
            (w.0, to_contains (variables pools) (w.0, m) w.2, among_from z.0 w.0 w.1);
        once = λ x y c d a b same.
            zipped_once recs set z.0 z.1 solution.apart x y (from_contains (variables pools) x c) (from_contains (variables pools) y d) (among_of z.0 x.0 a) (among_of z.0 y.0 b) same;
      },
    )

-- sides that agree on the records choose the same
agree_chooses : (pools : List NamePool) (u w : ℕ → Bool) (set : List PkgRecord) → Agree pools u w → Chooses pools w set → Chooses pools u set
agree_chooses pools u w set agree chooses =
    let low : (x : Numbered) → Contains (variables pools) x → x.0 < first_helper pools = λ x c.
    let lt : x.0 < 1 + length (records pools) = number_high 1 (records pools) x (from_contains (variables pools) x c) in omega arith in
    let over : (x : Numbered) → Contains (variables pools) x → u x.0 ≡ true → w x.0 ≡ true = λ x c h. sym (agree x.0 (low x c)) ∙ h in
    record {
      only = λ x c h. chooses.only x c (over x c h);
      all = λ m c. let n = chooses.all m c in (n.0, n.1, agree n.0 (low (n.0, m) n.1) ∙ n.2);
      once = λ x y c d a b same. chooses.once x y c d (over x c a) (over y d b) same;
    }

pub solution_model : (pools : List NamePool) (items : List Asked) → IsRequest pools items → (set : List PkgRecord) → IsSolution set items pools →
    (v : ℕ → Bool) × IsModel pools items v × Chooses pools v set
solution_model pools items request set solution =
    let w = chooses_from pools items set solution in
    let m = sides_model pools items w.0 request (solution_sides pools items set w.0 solution w.1) in
    (m.0, m.1, agree_chooses pools m.0 w.0 set m.2 w.1)

-- ---- no solution, no model

abbrev pub Decided : Type 0 → Type 0
Decided P = P ⊎ (P → ⊥)

last_or : (P : ℕ → Type 0) (n k : ℕ) → k < suc n → ((j : ℕ) → j < n → Decided (P j)) → Decided (P n) → Decided (P k)
last_or P n k lt below answer =
    let Q : ℕ → Type 0 = λ j. Decided (P j) in
    elim (same_or_less k n) [
      | inl e ↦ subst Q (sym e) answer
      | inr (inl h) ↦ below k h
      | inr (inr h) ↦ absurd (omega arith)
    ]

-- each of the first numbers has a property or not: this can't be denied
decided : (P : ℕ → Type 0) (n : ℕ) → (((k : ℕ) → k < n → Decided (P k)) → ⊥) → ⊥
decided P zero deny = deny (λ k lt. absurd (omega arith))
decided P (suc n) deny =
    decided P n (λ below.
    let here : Decided (P n) → ⊥ = λ answer. deny (λ k lt. last_or P n k lt below answer) in
    here (inr (λ p. here (inl p))))

-- a record with this variable is true and reached
abbrev pub IsKept : List NamePool → List Asked → (ℕ → Bool) → ℕ → Type 0
IsKept pools items v n = (x : Numbered) × In x (variables pools) × (x.0 ≡ n) × ((v n ≡ true) × IsReached items (chosen pools v) x.1)

side_from : {P : Type 0} → Decided P → Bool
side_from (inl p) = true
side_from (inr q) = false

side_true : {P : Type 0} (d : Decided P) → side_from d ≡ true → P
unfolding side_from
side_true (inl p) h = p
side_true (inr q) h = absurd (true≢false (sym h))

true_side : {P : Type 0} (d : Decided P) → P → side_from d ≡ true
unfolding side_from
true_side (inl p) h = refl
true_side (inr q) h = absurd (q h)

-- sides from answers below a limit
sides_below : {P : ℕ → Type 0} (limit : ℕ) → ((k : ℕ) → k < limit → Decided (P k)) → (w : ℕ → Bool) × ((k : ℕ) → k < limit → (w k ≡ true) ↔ P k)
sides_below {P} zero answers = (λ k. false, λ k lt. absurd (omega arith))
sides_below {P} (suc n) answers =
    let below : (w : ℕ → Bool) × ((k : ℕ) → k < n → (w k ≡ true) ↔ P k) = sides_below n (λ k lt. answers k (omega arith)) in
    let here : Decided (P n) = answers n (omega arith) in
    let w : ℕ → Bool = λ k. cond (k == n) (side_from here) (below.0 k) in
    let Q : ℕ → Type 0 = λ k. (w k ≡ true) ↔ P k in
    let same : (w n ≡ side_from here) = ap (λ b. cond b (side_from here) (below.0 n)) (eq-eqb n n refl) in (
      w,
      λ k lt.
          elim (same_or_less k n) [
            | inl e ↦ subst Q (sym e) (λ h. side_true here (sym same ∙ h), λ p. same ∙ true_side here p)
            | inr (inl h) ↦
                let other : w k ≡ below.0 k = ap (λ b. cond b (side_from here) (below.0 k)) (ne_eqb k n (λ e. let f : k ≡ n = e in omega arith)) in
                (λ t. (below.1 k h).0 (sym other ∙ t), λ p. other ∙ (below.1 k h).1 p)
            | inr (inr h) ↦ absurd (omega arith)
          ],
    )

some_cut : (pools : List NamePool) (items : List Asked) (v : ℕ → Bool) → (((set : List PkgRecord) → IsCut pools items v set → ⊥) → ⊥)
some_cut pools items v deny =
    decided (IsKept pools items v) (first_helper pools) (λ answers.
    let s = sides_below (first_helper pools) answers in
    let w : ℕ → Bool = s.0 in
    deny (chosen pools w) (
      w,
      refl,
      λ x c.
          let i = from_contains (variables pools) x c in
          let lt : x.0 < 1 + length (records pools) = number_high 1 (records pools) x i in
          let both = s.1 x.0 (omega arith) in
          let P : PkgRecord → Type 0 = λ r. IsReached items (chosen pools v) r in
          (λ h. let k = both.0 h in (k.3.0, subst P (number_once 1 (records pools) k.0 x k.1 i k.2) k.3.1), λ h. both.1 (x, i, refl, h)),
    ))

pub none_law : (pools : List NamePool) (items : List Asked) → IsRequest pools items →
    ((set : List PkgRecord) → IsSolution set items pools → ⊥) ↔ ((v : ℕ → Bool) → IsModel pools items v → ⊥)
none_law pools items request = (
  λ none v model. some_cut pools items v (λ set cut. none set (cut_solution pools items request v model set cut)),
  λ none set solution. let m = solution_model pools items request set solution in none m.0 m.1,
)
