-- A solution is chosen by any variables of its members: of records that stand twice in a pool, either may be true.
use Rattle.std.proofs.Common.{◌≡◌, ℕ, ◌<◌, ◌+◌, ◌==◌, Bool, true, false, cond, List, [], ◌∷◌, length, refl, sym, ap, ◌∙◌, subst, ◌⊎◌, inl, inr, true≢false, arith, eqb-true, eq-eqb}
use Rattle.std.specs.List.{Contains}
use Rattle.conda_record.specs.declared.pkg_record.PkgRecord.{PkgRecord}
use Rattle.conda_record.specs.declared.pool.NamePool.{NamePool}
use Rattle.conda_encode.specs.Models.{Chooses, IsModel}
use Rattle.conda_encode.specs.Solution.{IsSolution}
use Rattle.conda_encode.specs.Variables.{IsRequest, records, variables}
use Rattle.conda_encode.specs.declared.asked.Asked.{Asked}
use Rattle.conda_encode.proofs.Literals.{by_side}
use Rattle.conda_encode.proofs.Members.{In, from_contains, number_high, number_once, to_contains}
use Rattle.conda_encode.proofs.Requests.{same_model, solution_model}
use Rattle.conda_encode.proofs.Sides.{IsTrueOf, Numbered}
use Rattle.conda_resolve.proofs.Naming.{name_of}
use Rattle.conda_resolve.proofs.Walk.{AllTrue, Differ}

-- sides with one variable true in place of another
swapped : (ℕ → Bool) → ℕ → ℕ → ℕ → Bool
swapped w at old n = cond (n == at) true (cond (n == old) false (w n))

at_new : (w : ℕ → Bool) (at old n : ℕ) → n ≡ at → swapped w at old n ≡ true
unfolding swapped
at_new w at old n e = ap (λ b. cond b true (cond (n == old) false (w n))) (eq-eqb n at e)

at_other : (w : ℕ → Bool) (at old n : ℕ) → (n ≡ old → ⊥) → w n ≡ true → swapped w at old n ≡ true
unfolding swapped
at_other w at old n other h =
    elim (by_side (n == at)) [
      | inl e ↦ ap (λ b. cond b true (cond (n == old) false (w n))) e
      | inr e ↦ elim (by_side (n == old)) [
        | inl f ↦ absurd (other (eqb-true n old f))
        | inr f ↦ ap (λ b. cond b true (cond (n == old) false (w n))) e ∙ ap (λ b. cond b false (w n)) f ∙ h
      ]
    ]

true_at : (w : ℕ → Bool) (at old n : ℕ) → swapped w at old n ≡ true → (n ≡ at) ⊎ ((n ≡ old → ⊥) × (w n ≡ true))
unfolding swapped
true_at w at old n h =
    elim (by_side (n == at)) [
      | inl e ↦ inl (eqb-true n at e)
      | inr e ↦
          let g : cond (n == old) false (w n) ≡ true = sym (ap (λ b. cond b true (cond (n == old) false (w n))) e) ∙ h in
          elim (by_side (n == old)) [
            | inl f ↦ absurd (true≢false (sym g ∙ ap (λ b. cond b false (w n)) f))
            | inr f ↦ inr (λ same. true≢false (sym (eq-eqb n old same) ∙ f), sym (ap (λ b. cond b false (w n)) f) ∙ g)
          ]
    ]

pub swap : (pools : List NamePool) (w : ℕ → Bool) (set : List PkgRecord) (x : Numbered) → Chooses pools w set → In x (variables pools) → Contains set x.1 →
    (u : ℕ → Bool) × Chooses pools u set × (u x.0 ≡ true)
    × ((z : Numbered) → In z (variables pools) → (name_of x.1 ≡ name_of z.1 → ⊥) → w z.0 ≡ true → u z.0 ≡ true)
swap pools w set x chooses i c =
    let o = chooses.all x.1 c in
    let old : ℕ = o.0 in
    let j : In (old, x.1) (variables pools) = from_contains (variables pools) (old, x.1) o.1 in
    let once : (a : Numbered) → In a (variables pools) → (b : Numbered) → In b (variables pools) → a.0 ≡ b.0 → a.1 ≡ b.1
    = λ a k b l e. number_once 1 (records pools) a b k l e in
    let only_old : (z : Numbered) → In z (variables pools) → w z.0 ≡ true → name_of x.1 ≡ name_of z.1 → z.0 ≡ old
    = λ z k h same. sym (chooses.once (old, x.1) z o.1 (to_contains (variables pools) z k) o.2 h same) in
    let mixed : (y z : Numbered) → In y (variables pools) → In z (variables pools) → y.0 ≡ x.0 → (z.0 ≡ old → ⊥) × (w z.0 ≡ true) → name_of y.1 ≡ name_of z.1 → ⊥
    = λ y z k l e h same. h.0 (only_old z l h.1 (ap name_of (once x i y k (sym e)) ∙ same)) in (
      swapped w x.0 old,
      record {
        only = λ z k h. elim (true_at w x.0 old z.0 h) [
          | inl e ↦ (let P : PkgRecord → Type 0 = λ r. Contains set r in subst P (once x i z (from_contains (variables pools) z k) (sym e)) c)
          | inr g ↦ chooses.only z k g.1
        ];
        all = λ m d.
            let n = chooses.all m d in
            let k : In (n.0, m) (variables pools) = from_contains (variables pools) (n.0, m) n.1 in
            elim (by_side (n.0 == old)) [
              | inl e ↦
                  let same : x.1 ≡ m = once (old, x.1) j (n.0, m) k (sym (eqb-true n.0 old e)) in
                  let P : PkgRecord → Type 0 = λ r. (k : ℕ) × Contains (variables pools) (k, r) × (swapped w x.0 old k ≡ true) in
                  subst P same (x.0, to_contains (variables pools) x i, at_new w x.0 old x.0 refl)
              | inr e ↦ (n.0, n.1, at_other w x.0 old n.0 (λ same. true≢false (sym (eq-eqb n.0 old same) ∙ e)) n.2)
            ];
        once = λ y z k l a b same.
            let p : In y (variables pools) = from_contains (variables pools) y k in
            let q : In z (variables pools) = from_contains (variables pools) z l in
            elim (true_at w x.0 old y.0 a) [
              | inl e ↦ elim (true_at w x.0 old z.0 b) [
                | inl f ↦ e ∙ sym f
                | inr g ↦ absurd (mixed y z p q e g same)
              ]
              | inr h ↦ elim (true_at w x.0 old z.0 b) [
                | inl f ↦ absurd (mixed z y q p f h (sym same))
                | inr g ↦ chooses.once y z k l h.1 g.1 same
              ]
            ];
      },
      at_new w x.0 old x.0 refl,
      λ z k other h. at_other w x.0 old z.0 (λ e. other (ap name_of (once (old, x.1) j z k (sym e)))) h,
    )

pub swap_all : (pools : List NamePool) (w : ℕ → Bool) (set : List PkgRecord) (xs : List Numbered) → Chooses pools w set → ((x : Numbered) → In x xs → In x (variables pools)) → Differ xs →
    ((x : Numbered) → In x xs → Contains set x.1) → (u : ℕ → Bool) × Chooses pools u set × AllTrue pools u xs
swap_all pools w set [] chooses vars differ all = (w, chooses, λ x i. absurd i)
swap_all pools w set (x ∷ xs) chooses vars differ all =
    let r : (u : ℕ → Bool) × Chooses pools u set × AllTrue pools u xs = swap_all pools w set xs chooses (λ y i. vars y (inr i)) differ.1 (λ y i. all y (inr i)) in
    let s = swap pools r.0 set x r.1 (vars x (inl refl)) (all x (inl refl)) in
    let P : Numbered → Type 0 = λ y. IsTrueOf pools s.0 y in (
      s.0,
      s.1,
      λ y i. elim i as (λ _. IsTrueOf pools s.0 y) [
        | inl e ↦ subst P e (vars x (inl refl), s.2)
        | inr j ↦ (vars y (inr j), s.3 y (vars y (inr j)) (differ.0 y j) (r.2 y j).1)
      ],
    )

-- a solution that has all of these is a model in which their own variables are true
pub stands_in_model : (pools : List NamePool) (items : List Asked) (set : List PkgRecord) (xs : List Numbered) → IsRequest pools items → IsSolution set items pools →
    ((x : Numbered) → In x xs → In x (variables pools)) → Differ xs → ((x : Numbered) → In x xs → Contains set x.1) →
    (v : ℕ → Bool) × IsModel pools items v × AllTrue pools v xs
stands_in_model pools items set xs request solution vars differ all =
    let m = solution_model pools items request set solution in
    let s = swap_all pools m.0 set xs m.2 vars differ all in
    let n = same_model pools items request set solution s.0 s.1 in (
      n.0,
      n.1,
      λ x i.
          let lt : x.0 < 1 + length (records pools) = number_high 1 (records pools) x (vars x i) in
          (vars x i, n.2 x.0 (omega (arith, lt)) ∙ (s.2 x i).1),
    )
