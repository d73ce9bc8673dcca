-- The literals of a request's clauses are of its variables.
use Rattle.std.proofs.Common.{◌≡◌, ℕ, zero, suc, ◌+◌, ◌-◌, ◌≤◌, ◌<◌, nat_le, nat_lt, ℤ, true, List, [], ◌∷◌, ◌++◌, length, filter, drop, refl, sym, ap, ◌∙◌, subst, inl, inr, arith}
use Rattle.std.proofs.lemmas.Bool.{and_from, le-leb, ltb-true}
use Rattle.std.proofs.lemmas.List.{length-append, length-drop}
use Rattle.std.proofs.lemmas.List.Folds.{list_all-map}
use Rattle.std.proofs.lemmas.List.Sums.{sum_by-cons}
use Rattle.std.specs.List.{list_all, sum_by}
use Rattle.conda_encode.specs.Sides.{is_within}
use Rattle.conda_spec.specs.Parts.{Parts}
use Rattle.conda_record.specs.declared.pkg_record.PkgRecord.{PkgRecord}
use Rattle.conda_record.specs.declared.pool.NamePool.{NamePool}
use Rattle.conda_encode.specs.Clauses.{Reason, barred, barred_by, barred_entry, barred_pair, clauses, each_barred, is_other, needed, needed_by, needed_entry, off, on, one_at, one_of, ones, pinned, pinned_at, pinned_item, pinned_literal, reasons, some_named, wanted, wanted_at, wanted_item}
use Rattle.conda_encode.specs.Matching.{bars, names}
use Rattle.conda_encode.specs.Variables.{helpers_of, numbered, records, variables, vars_of}
use Rattle.conda_encode.specs.declared.asked.Asked.{Asked}
use Rattle.conda_encode.specs.declared.asked.AskKind.{AskKind}
use Rattle.conda_encode.specs.declared.asked.AskKind.TheVariants.{Pinned, Wanted}
use Rattle.conda_encode.specs.declared.encoded.Why.{Why}
use Rattle.conda_encode.proofs.Members.{In, all_from, in_either, number_high, number_low, of_filter, of_flat_map, of_map}
use Rattle.conda_encode.proofs.Ones.{of_step}
use Rattle.conda_encode.proofs.Sides.{Numbered}

-- all literals of the clause are of so many variables
abbrev pub Lies : ℕ → List ℤ → Type 0
Lies vars clause = list_all (is_within vars) clause ≡ true

on_within : (vars n : ℕ) → 1 ≤ n → n ≤ vars → is_within vars (on n) ≡ true
on_within vars n low high = and_from (nat_le 1 n) (nat_le n vars) (le-leb 1 n low) (le-leb n vars high)

off_within : (vars n : ℕ) → 1 ≤ n → n ≤ vars → is_within vars (off n) ≡ true
off_within vars zero low high = absurd (omega arith)
off_within vars (suc n) low high = and_from (nat_le 1 (n + 1)) (nat_le (n + 1) vars) (le-leb 1 (n + 1) (omega arith)) (le-leb (n + 1) vars (omega arith))

more_lies : (vars : ℕ) (l : ℤ) (rest : List ℤ) → is_within vars l ≡ true → Lies vars rest → Lies vars (l ∷ rest)
more_lies vars l rest a b = and_from (is_within vars l) (list_all (is_within vars) rest) a b

-- the variable of a record is one of so many
abbrev pub Few : ℕ → List NamePool → Type 0
Few vars pools = length (records pools) ≤ vars

high_of : (vars : ℕ) (pools : List NamePool) → Few vars pools → (x : Numbered) → In x (variables pools) → x.0 ≤ vars
high_of vars pools few x i = let h : x.0 < 1 + length (records pools) = number_high 1 (records pools) x i in omega arith

low_of : (pools : List NamePool) (x : Numbered) → In x (variables pools) → 1 ≤ x.0
low_of pools x i = number_low 1 (records pools) x i

named_lies : (vars : ℕ) (pools : List NamePool) (spec : Parts) → Few vars pools → Lies vars (some_named pools spec)
named_lies vars pools spec few =
    all_from (is_within vars) (some_named pools spec) (λ l i.
    let x : (x : Numbered) × In x (filter (λ x. names spec x.1) (variables pools)) × (on x.0 ≡ l) = of_map (λ (x : Numbered). on x.0) (filter (λ x. names spec x.1) (variables pools)) l i in
    let f = of_filter (λ (y : Numbered). names spec y.1) (variables pools) x.0 x.1 in
    ap (is_within vars) (sym x.2) ∙ on_within vars x.0.0 (low_of pools x.0 f.0) (high_of vars pools few x.0 f.0))

barred_within : (vars : ℕ) (pools : List NamePool) (spec : Parts) → Few vars pools → (l : ℤ) → In l (each_barred pools spec) → is_within vars l ≡ true
barred_within vars pools spec few l i =
    let x : (x : Numbered) × In x (filter (λ x. bars spec x.1) (variables pools)) × (off x.0 ≡ l) = of_map (λ (x : Numbered). off x.0) (filter (λ x. bars spec x.1) (variables pools)) l i in
    let f = of_filter (λ (y : Numbered). bars spec y.1) (variables pools) x.0 x.1 in
    ap (is_within vars) (sym x.2) ∙ off_within vars x.0.0 (low_of pools x.0 f.0) (high_of vars pools few x.0 f.0)

-- the clauses of all these reasons lie within
abbrev pub Lie : ℕ → List Reason → Type 0
Lie vars rs = (r : Reason) → In r rs → Lies vars r.1

along : (vars : ℕ) (a b : Reason) → a ≡ b → Lies vars a.1 → Lies vars b.1
along vars a b e h = let P : Reason → Type 0 = λ r. Lies vars r.1 in subst P e h

wanted_at_lie : (vars : ℕ) (pools : List NamePool) (kind : AskKind) (spec : Parts) (n : ℕ) → Few vars pools → Lie vars (wanted_at pools kind spec n)
wanted_at_lie vars pools Wanted spec n few r (inl e) = along vars (Why.Asked n, some_named pools spec) r e (named_lies vars pools spec few)
wanted_at_lie vars pools Wanted spec n few r (inr i) = absurd i
wanted_at_lie vars pools Pinned spec n few r i = absurd i

wanted_lie : (vars : ℕ) (pools : List NamePool) (items : List Asked) → Few vars pools → Lie vars (wanted pools items)
wanted_lie vars pools items few r i =
    let w : (x : ℕ × Asked) × In x (numbered 0 items) × In r (wanted_item pools x) = of_flat_map (wanted_item pools) (numbered 0 items) r i in
    wanted_at_lie vars pools w.0.1.kind w.0.1.spec w.0.0 few r w.2

needed_lie : (vars : ℕ) (pools : List NamePool) → Few vars pools → Lie vars (needed pools)
needed_lie vars pools few r i =
    let x : (x : Numbered) × In x (variables pools) × In r (needed_by pools x) = of_flat_map (needed_by pools) (variables pools) r i in
    let d : (d : ℕ × Parts) × In d (numbered 0 x.0.1.depends) × (needed_entry pools x.0.0 d ≡ r) = of_map (needed_entry pools x.0.0) (numbered 0 x.0.1.depends) r x.2 in
    along vars (needed_entry pools x.0.0 d.0) r d.2
    (more_lies vars (off x.0.0) (some_named pools d.0.1) (off_within vars x.0.0 (low_of pools x.0 x.1) (high_of vars pools few x.0 x.1)) (named_lies vars pools d.0.1 few))

barred_lie : (vars : ℕ) (pools : List NamePool) → Few vars pools → Lie vars (barred pools)
barred_lie vars pools few r i =
    let x : (x : Numbered) × In x (variables pools) × In r (barred_by pools x) = of_flat_map (barred_by pools) (variables pools) r i in
    let c : (c : ℕ × Parts) × In c (numbered 0 x.0.1.constrains) × In r (barred_entry pools x.0.0 c) = of_flat_map (barred_entry pools x.0.0) (numbered 0 x.0.1.constrains) r x.2 in
    let l : (l : ℤ) × In l (filter (is_other x.0.0) (each_barred pools c.0.1)) × (barred_pair x.0.0 c.0.0 l ≡ r)
    = of_map (barred_pair x.0.0 c.0.0) (filter (is_other x.0.0) (each_barred pools c.0.1)) r c.2 in
    let f = of_filter (is_other x.0.0) (each_barred pools c.0.1) l.0 l.1 in
    along vars (barred_pair x.0.0 c.0.0 l.0) r l.2
    (more_lies vars (off x.0.0) (l.0 ∷ []) (off_within vars x.0.0 (low_of pools x.0 x.1) (high_of vars pools few x.0 x.1))
    (more_lies vars l.0 [] (barred_within vars pools c.0.1 few l.0 f.0) refl))

pinned_at_lie : (vars : ℕ) (pools : List NamePool) (kind : AskKind) (spec : Parts) (n : ℕ) → Few vars pools → Lie vars (pinned_at pools kind spec n)
pinned_at_lie vars pools Wanted spec n few r i = absurd i
pinned_at_lie vars pools Pinned spec n few r i =
    let l : (l : ℤ) × In l (each_barred pools spec) × (pinned_literal n l ≡ r) = of_map (pinned_literal n) (each_barred pools spec) r i in
    along vars (pinned_literal n l.0) r l.2 (more_lies vars l.0 [] (barred_within vars pools spec few l.0 l.1) refl)

pinned_lie : (vars : ℕ) (pools : List NamePool) (items : List Asked) → Few vars pools → Lie vars (pinned pools items)
pinned_lie vars pools items few r i =
    let w : (x : ℕ × Asked) × In x (numbered 0 items) × In r (pinned_item pools x) = of_flat_map (pinned_item pools) (numbered 0 items) r i in
    pinned_at_lie vars pools w.0.1.kind w.0.1.spec w.0.0 few r w.2

one_lie : (vars : ℕ) (name : List ℕ) (n s : ℕ) (recs : List PkgRecord) → 1 ≤ n → 1 ≤ s → n + length recs ≤ vars + 1 → s + (length recs - 1) ≤ vars + 1 → Lie vars (one_of name n s recs)
one_lie vars name n s recs low lows high highs r i =
    let w : (x : Numbered) × In x (numbered 0 (drop 1 recs)) × In r (one_at name n s (length recs) x) = of_flat_map (one_at name n s (length recs)) (numbered 0 (drop 1 recs)) r i in
    let j : ℕ = w.0.0 in
    let end : w.0.0 < 0 + length (drop 1 recs) = number_high 0 (drop 1 recs) w.0 w.1 in
    let lt : w.0.0 + 1 < length recs = omega (arith, length-drop 1 recs) in
    elim (of_step r (nat_lt (j + 2) (length recs)) (Why.One name, off (n + j) ∷ on (s + j) ∷ []) (Why.One name, off (s + j) ∷ on (s + j + 1) ∷ []) (Why.One name, off (n + j + 1) ∷ off (s + j) ∷ []) w.2) [
      | inl e ↦ along vars (Why.One name, off (n + j) ∷ on (s + j) ∷ []) r e
          (more_lies vars (off (n + j)) (on (s + j) ∷ []) (off_within vars (n + j) (omega arith) (omega arith)) (more_lies vars (on (s + j)) [] (on_within vars (s + j) (omega arith) (omega arith)) refl))
      | inr (inl h) ↦
          let more : j + 2 < length recs = ltb-true (j + 2) (length recs) h.0 in
          along vars (Why.One name, off (s + j) ∷ on (s + j + 1) ∷ []) r h.1
          (more_lies vars (off (s + j)) (on (s + j + 1) ∷ []) (off_within vars (s + j) (omega arith) (omega arith)) (more_lies vars (on (s + j + 1)) [] (on_within vars (s + j + 1) (omega arith) (omega arith)) refl))
      | inr (inr e) ↦ along vars (Why.One name, off (n + j + 1) ∷ off (s + j) ∷ []) r e
          (more_lies vars (off (n + j + 1)) (off (s + j) ∷ []) (off_within vars (n + j + 1) (omega arith) (omega arith)) (more_lies vars (off (s + j)) [] (off_within vars (s + j) (omega arith) (omega arith)) refl))
    ]

ones_lie : (vars n s : ℕ) (pools : List NamePool) → 1 ≤ n → 1 ≤ s → n + length (records pools) ≤ vars + 1 → s + sum_by helpers_of pools ≤ vars + 1 → Lie vars (ones n s pools)
ones_lie vars n s [] low lows high highs r i = absurd i
ones_lie vars n s (pool ∷ rest) low lows high highs r i =
    let a : length (records (pool ∷ rest)) ≡ length pool.recs + length (records rest) = length-append pool.recs (records rest) in
    let b : sum_by helpers_of (pool ∷ rest) ≡ length pool.recs - 1 + sum_by helpers_of rest = sum_by-cons helpers_of pool rest in
    elim (in_either (one_of pool.name n s pool.recs) (ones (n + length pool.recs) (s + helpers_of pool) rest) r i) [
      | inl h ↦ one_lie vars pool.name n s pool.recs low lows (omega arith) (omega arith) r h
      | inr h ↦ ones_lie vars (n + length pool.recs) (s + helpers_of pool) rest (omega arith) (omega arith) (omega arith) (omega arith) r h
    ]

all_lie : (pools : List NamePool) (items : List Asked) → Lie (vars_of pools) (reasons pools items)
all_lie pools items r i =
    let vars = vars_of pools in
    let few : length (records pools) ≤ vars_of pools = omega arith in
    let a = wanted pools items in
    let b = needed pools in
    let c = barred pools in
    let d = ones 1 (length (records pools) + 1) pools in
    let e = pinned pools items in
    elim (in_either (a ++ b ++ c ++ d) e r i) [
      | inr h ↦ pinned_lie vars pools items few r h
      | inl i ↦ elim (in_either (a ++ b ++ c) d r i) [
        | inr h ↦ ones_lie vars 1 (length (records pools) + 1) pools (omega arith) (omega arith) (omega arith) (omega arith) r h
        | inl i ↦ elim (in_either (a ++ b) c r i) [
          | inr h ↦ barred_lie vars pools few r h
          | inl i ↦ elim (in_either a b r i) [
            | inl h ↦ wanted_lie vars pools items few r h
            | inr h ↦ needed_lie vars pools few r h
          ]
        ]
      ]
    ]

pub clauses_within : (pools : List NamePool) (items : List Asked) → list_all (list_all (is_within (vars_of pools))) (clauses pools items) ≡ true
clauses_within pools items =
    list_all-map (list_all (is_within (vars_of pools))) (λ (r : Reason). r.1) (reasons pools items)
    ∙ all_from (λ (r : Reason). list_all (is_within (vars_of pools)) r.1) (reasons pools items) (all_lie pools items)
