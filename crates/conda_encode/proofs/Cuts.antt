-- Sides as the clauses ask for them, cut to what is reached, are a solution; and those that choose a solution are such sides.
use Rattle.std.proofs.Common.{◌≡◌, ◌↔◌, ℕ, zero, suc, ◌+◌, ◌≤◌, ◌<◌, Bool, true, false, cond, List, [], ◌∷◌, map, filter, refl, sym, ap, ◌∙◌, subst, ◌⊎◌, inl, inr, true≢false, arith}
use Rattle.std.proofs.lemmas.List.Kept.{AllPairs-cons}
use Rattle.std.proofs.lemmas.Bool.Decides.{Decides-eqb}
use Rattle.std.proofs.lemmas.Slice.Eq.{slice_eq-Decides}
use Rattle.std.specs.Bool.{Decides}
use Rattle.conda_base.specs.Texts.{is_text}
use Rattle.std.specs.List.{All, AllPairs, Contains}
use Rattle.conda_spec.specs.Parts.{Parts}
use Rattle.conda_record.specs.declared.pkg_record.PkgRecord.{PkgRecord}
use Rattle.conda_record.specs.declared.pool.NamePool.{NamePool}
use Rattle.conda_encode.specs.Matching.{lowered}
use Rattle.conda_encode.specs.Models.{Chooses, chosen}
use Rattle.conda_encode.specs.Solution.{HaveOtherNames, IsBound, IsMet, IsOfItsPool, IsReached, IsSolution, NoNameTwice}
use Rattle.conda_encode.specs.Solution.IsReached.{needed, wanted}
use Rattle.conda_encode.specs.Variables.{IsRequest, numbered, records, variables}
use Rattle.conda_encode.specs.declared.asked.Asked.{Asked}
use Rattle.conda_encode.proofs.Members.{In, from_contains, to_contains, number_low, number_once, numbered_in, of_filter, of_flat_map, of_map}
use Rattle.conda_encode.proofs.Sides.{AreSides, IsMetBy, IsTrueOf, Numbered, bound_from, bound_or_barred, in_chosen, of_chosen}

-- what a cut keeps of the sides
abbrev pub Keeps : List NamePool → List Asked → (ℕ → Bool) → (ℕ → Bool) → Type 0
Keeps pools items v w =
    (x : Numbered) → Contains (variables pools) x → (w x.0 ≡ true) ↔ ((v x.0 ≡ true) × IsReached items (chosen pools v) x.1)

kept : (pools : List NamePool) (items : List Asked) (v w : ℕ → Bool) → Keeps pools items v w →
    (x : Numbered) → IsTrueOf pools v x → IsReached items (chosen pools v) x.1 → IsTrueOf pools w x
kept pools items v w keeps x t r = (t.0, (keeps x (to_contains (variables pools) x t.0)).1 (t.1, r))

was : (pools : List NamePool) (items : List Asked) (v w : ℕ → Bool) → Keeps pools items v w →
    (x : Numbered) → IsTrueOf pools w x → IsTrueOf pools v x × IsReached items (chosen pools v) x.1
was pools items v w keeps x t =
    let h : (v x.0 ≡ true) × IsReached items (chosen pools v) x.1 = (keeps x (to_contains (variables pools) x t.0)).0 t.1 in
    ((t.0, h.0), h.1)

stays : (pools : List NamePool) (items : List Asked) (v w : ℕ → Bool) → Keeps pools items v w →
    (m : PkgRecord) → Contains (chosen pools v) m → IsReached items (chosen pools v) m → Contains (chosen pools w) m
stays pools items v w keeps m c r =
    let x = of_chosen pools v m c in
    let P : PkgRecord → Type 0 = λ u. IsReached items (chosen pools v) u in
    let Q : PkgRecord → Type 0 = λ u. Contains (chosen pools w) u in
    subst Q x.2 (in_chosen pools w x.0 (kept pools items v w keeps x.0 x.1 (subst P (sym x.2) r)))

-- what is reached among all that is chosen is reached within the cut
within : (pools : List NamePool) (items : List Asked) (v w : ℕ → Bool) → Keeps pools items v w →
    (m : PkgRecord) → IsReached items (chosen pools v) m → IsReached items (chosen pools w) m
within pools items v w keeps m (wanted spec _ wants c named) =
    wanted spec m wants (stays pools items v w keeps m c (wanted spec m wants c named)) named
within pools items v w keeps m (needed n spec _ r d c named) =
    needed n spec m (within pools items v w keeps n r) d (stays pools items v w keeps m c (needed n spec m r d c named)) named

-- ---- each rule of a solution

own_pool : (pools : List NamePool) (items : List Asked) → IsRequest pools items → (pkg : PkgRecord) → In pkg (records pools) → IsOfItsPool pools pkg
own_pool pools items request pkg i =
    let w : (pool : NamePool) × In pool pools × In pkg pool.recs = of_flat_map (λ (p : NamePool). p.recs) pools pkg i in
    let a = to_contains pools w.0 w.1 in
    let b = to_contains w.0.recs pkg w.2 in
    (w.0, a, sym (request.own w.0 a pkg b), b)

pub AllFrom : {A : Type 0} (P : A → Type 0) (xs : List A) → ((x : A) → In x xs → P x) → All P xs
AllFrom {A} P [] each k d lt = absurd (omega arith)
AllFrom {A} P (y ∷ ys) each zero d lt = each y (inl refl)
AllFrom {A} P (y ∷ ys) each (suc k) d lt = AllFrom P ys (λ x i. each x (inr i)) k d (omega arith)

-- records of true variables stand in any relation that holds of two different variables
pairs : (R : PkgRecord → PkgRecord → Type 0) (w : ℕ → Bool) (s : ℕ) (xs : List PkgRecord) →
    ((x y : Numbered) → In x (numbered s xs) → In y (numbered s xs) → w x.0 ≡ true → w y.0 ≡ true → x.0 < y.0 → R x.1 y.1) →
    AllPairs R (map (λ x. x.1) (filter (λ x. w x.0) (numbered s xs)))
pairs R w s [] each = λ i j d lt far. absurd (omega arith)
pairs R w s (m ∷ ms) each =
    let rest = map (λ (x : Numbered). x.1) (filter (λ x. w x.0) (numbered (s + 1) ms)) in
    let later : AllPairs R rest = pairs R w (s + 1) ms (λ x y i j. each x y (inr i) (inr j)) in
    let P : Bool → Type 0 = λ b. w s ≡ b → AllPairs R (map (λ (x : Numbered). x.1) (cond b ((s, m) ∷ filter (λ x. w x.0) (numbered (s + 1) ms)) (filter (λ x. w x.0) (numbered (s + 1) ms)))) in
    let cases : (b : Bool) → P b = λ b. elim b as P [
      | true ↦ λ here. AllPairs-cons R m rest
          (AllFrom (R m) rest (λ n i.
          let o : (y : Numbered) × In y (filter (λ x. w x.0) (numbered (s + 1) ms)) × (y.1 ≡ n) = of_map (λ (x : Numbered). x.1) (filter (λ x. w x.0) (numbered (s + 1) ms)) n i in
          let f = of_filter (λ (x : Numbered). w x.0) (numbered (s + 1) ms) o.0 o.1 in
          let low : s + 1 ≤ o.0.0 = number_low (s + 1) ms o.0 f.0 in
          let Q : PkgRecord → Type 0 = λ u. R m u in
          subst Q o.2 (each (s, m) o.0 (inl refl) (inr f.0) here f.1 (omega arith))))
          later
      | false ↦ λ here. later
    ] in
    cases (w s) refl

apart : (pools : List NamePool) (w : ℕ → Bool) → ((x y : Numbered) → IsTrueOf pools w x → IsTrueOf pools w y → lowered x.1.name ≡ lowered y.1.name → x.0 ≡ y.0) →
    NoNameTwice (chosen pools w)
apart pools w once =
    pairs HaveOtherNames w 1 (records pools) (λ x y i j a b lt same. let e : x.0 ≡ y.0 = once x y (i, a) (j, b) same in absurd (omega arith))

met : (pools : List NamePool) (items : List Asked) (v w : ℕ → Bool) → Keeps pools items v w → (spec : Parts) →
    (found : IsMetBy pools v spec) → (Contains (chosen pools v) found.0.1 → IsReached items (chosen pools v) found.0.1) → IsMet (chosen pools w) spec
met pools items v w keeps spec found reached =
    (found.0.1, in_chosen pools w found.0 (kept pools items v w keeps found.0 found.1 (reached (in_chosen pools v found.0 found.1))), found.2)

pub cut_solves : (pools : List NamePool) (items : List Asked) (v w : ℕ → Bool) → IsRequest pools items → AreSides pools items v → Keeps pools items v w →
    IsSolution (chosen pools w) items pools
cut_solves pools items v w request sides keeps = record {
  of_pools = λ m c.
      let x = of_chosen pools w m c in
      let P : PkgRecord → Type 0 = λ u. IsOfItsPool pools u in
      subst P x.2 (own_pool pools items request x.0.1 (numbered_in 1 (records pools) x.0 x.1.0));
  apart = apart pools w (λ x y a b same. sides.once x y (was pools items v w keeps x a).0 (was pools items v w keeps y b).0 same);
  wanted = λ spec wants.
      let found = sides.wanted spec wants in
      met pools items v w keeps spec found (λ c. wanted spec found.0.1 wants c found.2);
  depends = λ m c spec d.
      let x = of_chosen pools w m c in
      let t = was pools items v w keeps x.0 x.1 in
      let P : PkgRecord → Type 0 = λ u. Contains u.depends spec in
      let e : Contains x.0.1.depends spec = subst P (sym x.2) d in
      let found = sides.needed x.0 t.0 spec (from_contains x.0.1.depends spec e) in
      met pools items v w keeps spec found (λ k. needed x.0.1 spec found.0.1 t.1 e k found.2);
  pinned = λ spec pins m c.
      let x = of_chosen pools w m c in
      let P : PkgRecord → Type 0 = λ u. IsBound spec u in
      subst P x.2 (bound_from spec x.0.1 (λ bar. sides.pinned spec pins x.0 (was pools items v w keeps x.0 x.1).0 bar));
  constrains = λ m n a b others spec d.
      let x = of_chosen pools w m a in
      let y = of_chosen pools w n b in
      let P : PkgRecord → Type 0 = λ u. Contains u.constrains spec in
      let e : Contains x.0.1.constrains spec = subst P (sym x.2) d in
      let Q : PkgRecord → Type 0 = λ u. IsBound spec u in
      subst Q y.2 (bound_from spec y.0.1 (λ bar.
      let same : x.0.0 ≡ y.0.0 = sides.barred x.0 y.0 (was pools items v w keeps x.0 x.1).0 (was pools items v w keeps y.0 y.1).0 spec (from_contains x.0.1.constrains spec e) bar in
      let one : x.0.1 ≡ y.0.1 = number_once 1 (records pools) x.0 y.0 x.1.0 y.1.0 same in
      others (ap (λ (u : PkgRecord). lowered u.name) (sym x.2 ∙ one ∙ y.2))));
  reached = λ m c.
      let x = of_chosen pools w m c in
      let P : PkgRecord → Type 0 = λ u. IsReached items (chosen pools w) u in
      subst P x.2 (within pools items v w keeps x.0.1 (was pools items v w keeps x.0 x.1).1);
}

-- ---- and back

names_same_or : (m n : PkgRecord) → (lowered m.name ≡ lowered n.name) ⊎ HaveOtherNames m n
names_same_or m n =
    let d : Decides (is_text (lowered m.name) (lowered n.name)) (lowered m.name ≡ lowered n.name)
    = slice_eq-Decides Decides-eqb (lowered m.name) (lowered n.name) (is_text (lowered m.name) (lowered n.name)) refl in
    let P : Bool → Type 0 = λ b. is_text (lowered m.name) (lowered n.name) ≡ b → (lowered m.name ≡ lowered n.name) ⊎ HaveOtherNames m n in
    let cases : (b : Bool) → P b = λ b. elim b as P [ true ↦ λ e. inl (d.0 e) | false ↦ λ e. inr (λ same. true≢false (sym (d.1 same) ∙ e)) ] in
    cases (is_text (lowered m.name) (lowered n.name)) refl

pub solution_sides : (pools : List NamePool) (items : List Asked) (set : List PkgRecord) (w : ℕ → Bool) → IsSolution set items pools → Chooses pools w set →
    AreSides pools items w
solution_sides pools items set w solution chooses =
    let found : (spec : Parts) → IsMet set spec → IsMetBy pools w spec = λ spec m.
    let o = chooses.all m.0 m.1 in ((o.0, m.0), (from_contains (variables pools) (o.0, m.0) o.1, o.2), m.2) in
    let member : (x : Numbered) → IsTrueOf pools w x → Contains set x.1 = λ x t. chooses.only x (to_contains (variables pools) x t.0) t.1 in
    let once : (x y : Numbered) → IsTrueOf pools w x → IsTrueOf pools w y → lowered x.1.name ≡ lowered y.1.name → x.0 ≡ y.0 =
    λ x y a b same. chooses.once x y (to_contains (variables pools) x a.0) (to_contains (variables pools) y b.0) a.1 b.1 same in
    record {
      wanted = λ spec wants. found spec (solution.wanted spec wants);
      needed = λ x t spec d. found spec (solution.depends x.1 (member x t) spec (to_contains x.1.depends spec d));
      barred = λ x y a b spec d bar. elim (names_same_or x.1 y.1) [
        | inl same ↦ once x y a b same
        | inr others ↦ absurd (bound_or_barred spec y.1 (solution.constrains x.1 y.1 (member x a) (member y b) others spec (to_contains x.1.constrains spec d)) bar)
      ];
      once = once;
      pinned = λ spec pins y t bar. bound_or_barred spec y.1 (solution.pinned spec pins y.1 (member y t)) bar;
    }
