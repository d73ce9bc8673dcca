-- The clauses but for those on names: that they are true is what is asked of the sides.
use Rattle.std.proofs.Common.{◌≡◌, ℕ, ◌≤◌, ℤ, Bool, true, not, List, [], ◌∷◌, map, filter, refl, sym, ap, ◌∙◌, subst, inl, inr, true≢false, int_eq}
use Rattle.std.proofs.lemmas.Bool.Decides.{Decides-int_eq}
use Rattle.conda_refute.specs.Literals.{clause_true, literal_true}
use Rattle.conda_spec.specs.Parts.{Parts}
use Rattle.conda_record.specs.declared.pool.NamePool.{NamePool}
use Rattle.conda_encode.specs.Clauses.{Reason, barred, barred_by, barred_entry, each_barred, needed, needed_by, off, on, pinned, pinned_at, some_named, wanted, wanted_at}
use Rattle.conda_encode.specs.Matching.{bars, names}
use Rattle.conda_encode.specs.Variables.{numbered, records, variables}
use Rattle.conda_encode.specs.declared.asked.Asked.{Asked}
use Rattle.conda_encode.specs.declared.asked.AskKind.{AskKind}
use Rattle.conda_encode.specs.declared.asked.AskKind.TheVariants.{Pinned, Wanted}
use Rattle.conda_encode.specs.declared.encoded.Why.{Why}
use Rattle.conda_encode.proofs.Members.{In, any_at, any_from, from_contains, in_filter, in_flat_map, in_map, number_low, number_of, numbered_in, of_filter, of_flat_map, of_map, to_contains}
use Rattle.conda_encode.proofs.Literals.{by_side, off_same, off_then, off_true, off_unless, on_from, on_true, only_literal}
use Rattle.conda_encode.proofs.Sides.{IsMetBy, NeededMet, NoneBarred, Numbered, PinsKept, WantedMet}

-- the clause of a reason is true
abbrev pub holds : (ℕ → Bool) → Reason → Bool
holds v r = clause_true v r.1

abbrev pub Hold : (ℕ → Bool) → List Reason → Type 0
Hold v rs = (r : Reason) → In r rs → holds v r ≡ true

pub some_true : (pools : List NamePool) (v : ℕ → Bool) (spec : Parts) → clause_true v (some_named pools spec) ≡ true → IsMetBy pools v spec
some_true pools v spec h =
    let kept : List Numbered = filter (λ x. names spec x.1) (variables pools) in
    let l : (l : ℤ) × In l (map (λ (x : Numbered). on x.0) kept) × (literal_true v l ≡ true) = any_at (literal_true v) (some_named pools spec) h in
    let x : (x : Numbered) × In x kept × (on x.0 ≡ l.0) = of_map (λ (x : Numbered). on x.0) kept l.0 l.1 in
    let f : In x.0 (variables pools) × (names spec x.0.1 ≡ true) = of_filter (λ (y : Numbered). names spec y.1) (variables pools) x.0 x.1 in
    (x.0, (f.0, on_true v x.0.0 (ap (literal_true v) x.2 ∙ l.2)), f.1)

pub low_of : (pools : List NamePool) (x : Numbered) → In x (variables pools) → 1 ≤ x.0
low_of pools x i = number_low 1 (records pools) x i

pub some_from : (pools : List NamePool) (v : ℕ → Bool) (spec : Parts) → IsMetBy pools v spec → clause_true v (some_named pools spec) ≡ true
some_from pools v spec (x, t, named) =
    any_from (literal_true v) (some_named pools spec) (on x.0)
    (in_map (λ (y : Numbered). on y.0) (filter (λ y. names spec y.1) (variables pools)) x (in_filter (λ (y : Numbered). names spec y.1) (variables pools) x t.0 named))
    (on_from v x.0 (low_of pools x t.0) t.1)

in_barred : (pools : List NamePool) (spec : Parts) (y : Numbered) → In y (variables pools) → bars spec y.1 ≡ true → In (off y.0) (each_barred pools spec)
in_barred pools spec y i bar =
    in_map (λ (x : Numbered). off x.0) (filter (λ x. bars spec x.1) (variables pools)) y (in_filter (λ (x : Numbered). bars spec x.1) (variables pools) y i bar)

of_barred : (pools : List NamePool) (spec : Parts) (l : ℤ) → In l (each_barred pools spec) → (y : Numbered) × In y (variables pools) × (bars spec y.1 ≡ true) × (off y.0 ≡ l)
of_barred pools spec l i =
    let x : (x : Numbered) × In x (filter (λ x. bars spec x.1) (variables pools)) × (off x.0 ≡ l)
    = of_map (λ (x : Numbered). off x.0) (filter (λ x. bars spec x.1) (variables pools)) l i in
    let f = of_filter (λ (y : Numbered). bars spec y.1) (variables pools) x.0 x.1 in
    (x.0, f.0, f.1, x.2)

-- ---- what is wanted

in_wanted : (pools : List NamePool) (kind : AskKind) (spec : Parts) (n : ℕ) → kind ≡ Wanted → In (Why.Asked n, some_named pools spec) (wanted_at pools kind spec n)
in_wanted pools kind spec n e =
    let P : AskKind → Type 0 = λ k. In (Why.Asked n, some_named pools spec) (wanted_at pools k spec n) in
    subst P (sym e) (inl refl)

of_wanted : (pools : List NamePool) (kind : AskKind) (spec : Parts) (n : ℕ) (r : Reason) → In r (wanted_at pools kind spec n) → (kind ≡ Wanted) × (r.1 ≡ some_named pools spec)
of_wanted pools Wanted spec n r (inl e) = (refl, ap (λ (q : Reason). q.1) (sym e))
of_wanted pools Wanted spec n r (inr i) = absurd i
of_wanted pools Pinned spec n r i = absurd i

pub wanted_met : (pools : List NamePool) (items : List Asked) (v : ℕ → Bool) → Hold v (wanted pools items) → WantedMet pools items v
wanted_met pools items v hold spec (item, c, kind, same) =
    let n : (n : ℕ) × In (n, item) (numbered 0 items) = number_of 0 items item (from_contains items item c) in
    let r : Reason = (Why.Asked n.0, some_named pools item.spec) in
    let i : In r (wanted pools items)
    = in_flat_map (λ (i : ℕ × Asked). wanted_at pools i.1.kind i.1.spec i.0) (numbered 0 items) (n.0, item) r n.1 (in_wanted pools item.kind item.spec n.0 kind) in
    let P : Parts → Type 0 = λ s. IsMetBy pools v s in
    subst P same (some_true pools v item.spec (hold r i))

pub wanted_hold : (pools : List NamePool) (items : List Asked) (v : ℕ → Bool) → WantedMet pools items v → Hold v (wanted pools items)
wanted_hold pools items v met r i =
    let w : (x : ℕ × Asked) × In x (numbered 0 items) × In r (wanted_at pools x.1.kind x.1.spec x.0)
    = of_flat_map (λ (i : ℕ × Asked). wanted_at pools i.1.kind i.1.spec i.0) (numbered 0 items) r i in
    let f = of_wanted pools w.0.1.kind w.0.1.spec w.0.0 r w.2 in
    ap (clause_true v) f.1 ∙ some_from pools v w.0.1.spec (met w.0.1.spec (w.0.1, to_contains items w.0.1 (numbered_in 0 items w.0 w.1), f.0, refl))

-- ---- what is needed

pub needed_met : (pools : List NamePool) (v : ℕ → Bool) → Hold v (needed pools) → NeededMet pools v
needed_met pools v hold x t spec d =
    let n : (n : ℕ) × In (n, spec) (numbered 0 x.1.depends) = number_of 0 x.1.depends spec d in
    let r : Reason = (Why.Needs x.0 n.0, off x.0 ∷ some_named pools spec) in
    let i : In r (needed pools)
    = in_flat_map (needed_by pools) (variables pools) x r t.0
    (in_map (λ (d : ℕ × Parts). (Why.Needs x.0 d.0, off x.0 ∷ some_named pools d.1)) (numbered 0 x.1.depends) (n.0, spec) n.1) in
    some_true pools v spec (off_then v x.0 (some_named pools spec) (hold r i) t.1)

pub needed_hold : (pools : List NamePool) (v : ℕ → Bool) → NeededMet pools v → Hold v (needed pools)
needed_hold pools v met r i =
    let x : (x : Numbered) × In x (variables pools) × In r (needed_by pools x) = of_flat_map (needed_by pools) (variables pools) r i in
    let d : (d : ℕ × Parts) × In d (numbered 0 x.0.1.depends) × ((Why.Needs x.0.0 d.0, off x.0.0 ∷ some_named pools d.1) ≡ r)
    = of_map (λ (d : ℕ × Parts). (Why.Needs x.0.0 d.0, off x.0.0 ∷ some_named pools d.1)) (numbered 0 x.0.1.depends) r x.2 in
    let e : off x.0.0 ∷ some_named pools d.0.1 ≡ r.1 = ap (λ (q : Reason). q.1) d.2 in
    ap (clause_true v) (sym e)
    ∙ off_unless v x.0.0 (some_named pools d.0.1) (low_of pools x.0 x.1)
    (λ yes. some_from pools v d.0.1 (met x.0 (x.1, yes) d.0.1 (numbered_in 0 x.0.1.depends d.0 d.1)))

-- ---- what is barred

pub none_barred : (pools : List NamePool) (v : ℕ → Bool) → Hold v (barred pools) → NoneBarred pools v
none_barred pools v hold x y a b spec d bar =
    elim (by_side (int_eq (off y.0) (off x.0))) [
      | inl same ↦ sym (off_same y.0 x.0 ((Decides-int_eq (off y.0) (off x.0)).0 same))
      | inr other ↦
          let n : (n : ℕ) × In (n, spec) (numbered 0 x.1.constrains) = number_of 0 x.1.constrains spec d in
          let r : Reason = (Why.Constrains x.0 n.0, off x.0 ∷ off y.0 ∷ []) in
          let q : ℤ → Bool = λ l. not (int_eq l (off x.0)) in
          let k : In r (barred_entry pools x.0 (n.0, spec))
          = in_map (λ (l : ℤ). (Why.Constrains x.0 n.0, off x.0 ∷ l ∷ [])) (filter q (each_barred pools spec)) (off y.0)
          (in_filter q (each_barred pools spec) (off y.0) (in_barred pools spec y b.0 bar) (ap not other)) in
          let i : In r (barred pools)
          = in_flat_map (barred_by pools) (variables pools) x r a.0
          (in_flat_map (barred_entry pools x.0) (numbered 0 x.1.constrains) (n.0, spec) r n.1 k) in
          absurd (off_true v y.0 (only_literal v (off y.0) (off_then v x.0 (off y.0 ∷ []) (hold r i) a.1)) b.1)
    ]

pub barred_hold : (pools : List NamePool) (v : ℕ → Bool) → NoneBarred pools v → Hold v (barred pools)
barred_hold pools v none r i =
    let x : (x : Numbered) × In x (variables pools) × In r (barred_by pools x)
    = of_flat_map (barred_by pools) (variables pools) r i in
    let c : (c : ℕ × Parts) × In c (numbered 0 x.0.1.constrains) × In r (barred_entry pools x.0.0 c)
    = of_flat_map (barred_entry pools x.0.0) (numbered 0 x.0.1.constrains) r x.2 in
    let q : ℤ → Bool = λ l. not (int_eq l (off x.0.0)) in
    let l : (l : ℤ) × In l (filter q (each_barred pools c.0.1)) × ((Why.Constrains x.0.0 c.0.0, off x.0.0 ∷ l ∷ []) ≡ r)
    = of_map (λ (l : ℤ). (Why.Constrains x.0.0 c.0.0, off x.0.0 ∷ l ∷ [])) (filter q (each_barred pools c.0.1)) r c.2 in
    let f : In l.0 (each_barred pools c.0.1) × (q l.0 ≡ true) = of_filter q (each_barred pools c.0.1) l.0 l.1 in
    let y = of_barred pools c.0.1 l.0 f.0 in
    let e : off x.0.0 ∷ l.0 ∷ [] ≡ r.1 = ap (λ (q : Reason). q.1) l.2 in
    let P : ℤ → Type 0 = λ m. clause_true v (m ∷ []) ≡ true in
    ap (clause_true v) (sym e)
    ∙ off_unless v x.0.0 (l.0 ∷ []) (low_of pools x.0 x.1) (λ yes.
    subst P y.3 (off_unless v y.0.0 [] (low_of pools y.0 y.1) (λ also.
    let same : x.0.0 ≡ y.0.0 = none x.0 y.0 (x.1, yes) (y.1, also) c.0.1 (numbered_in 0 x.0.1.constrains c.0 c.1) y.2 in
    let eq : int_eq l.0 (off x.0.0) ≡ true = (Decides-int_eq l.0 (off x.0.0)).1 (sym y.3 ∙ ap off (sym same)) in
    absurd (true≢false (sym f.1 ∙ ap not eq)))))

-- ---- what is pinned

in_pinned : (pools : List NamePool) (kind : AskKind) (spec : Parts) (n : ℕ) (l : ℤ) → kind ≡ Pinned → In l (each_barred pools spec) → In (Why.Pinned n, l ∷ []) (pinned_at pools kind spec n)
in_pinned pools kind spec n l e i =
    let P : AskKind → Type 0 = λ k. In (Why.Pinned n, l ∷ []) (pinned_at pools k spec n) in
    subst P (sym e) (in_map (λ (l : ℤ). (Why.Pinned n, l ∷ [])) (each_barred pools spec) l i)

of_pinned : (pools : List NamePool) (kind : AskKind) (spec : Parts) (n : ℕ) (r : Reason) → In r (pinned_at pools kind spec n) →
    (kind ≡ Pinned) × ((l : ℤ) × In l (each_barred pools spec) × ((Why.Pinned n, l ∷ []) ≡ r))
of_pinned pools Wanted spec n r i = absurd i
of_pinned pools Pinned spec n r i = (refl, of_map (λ (l : ℤ). (Why.Pinned n, l ∷ [])) (each_barred pools spec) r i)

pub pins_kept : (pools : List NamePool) (items : List Asked) (v : ℕ → Bool) → Hold v (pinned pools items) → PinsKept pools items v
pins_kept pools items v hold spec (item, c, kind, same) y t bar =
    let n : (n : ℕ) × In (n, item) (numbered 0 items) = number_of 0 items item (from_contains items item c) in
    let P : Parts → Type 0 = λ s. bars s y.1 ≡ true in
    let r : Reason = (Why.Pinned n.0, off y.0 ∷ []) in
    let i : In r (pinned pools items)
    = in_flat_map (λ (i : ℕ × Asked). pinned_at pools i.1.kind i.1.spec i.0) (numbered 0 items) (n.0, item) r n.1
    (in_pinned pools item.kind item.spec n.0 (off y.0) kind (in_barred pools item.spec y t.0 (subst P (sym same) bar))) in
    off_true v y.0 (only_literal v (off y.0) (hold r i)) t.1

pub pinned_hold : (pools : List NamePool) (items : List Asked) (v : ℕ → Bool) → PinsKept pools items v → Hold v (pinned pools items)
pinned_hold pools items v kept r i =
    let w : (x : ℕ × Asked) × In x (numbered 0 items) × In r (pinned_at pools x.1.kind x.1.spec x.0)
    = of_flat_map (λ (i : ℕ × Asked). pinned_at pools i.1.kind i.1.spec i.0) (numbered 0 items) r i in
    let f = of_pinned pools w.0.1.kind w.0.1.spec w.0.0 r w.2 in
    let y = of_barred pools w.0.1.spec f.1.0 f.1.1 in
    let e : f.1.0 ∷ [] ≡ r.1 = ap (λ (q : Reason). q.1) f.1.2 in
    let P : ℤ → Type 0 = λ m. clause_true v (m ∷ []) ≡ true in
    ap (clause_true v) (sym e)
    ∙ subst P y.3 (off_unless v y.0.0 [] (low_of pools y.0 y.1) (λ yes.
    absurd (kept w.0.1.spec (w.0.1, to_contains items w.0.1 (numbered_in 0 items w.0 w.1), f.0, refl) y.0 (y.1, yes) y.2)))
