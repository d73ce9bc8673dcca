-- What is decided and true is part of a solution: one name after another is answered, until none comes up.
use Rattle.std.proofs.Common.{◌≡◌, ℕ, zero, suc, ◌+◌, ◌≤◌, ◌<◌, Bool, true, false, List, [], ◌∷◌, ◌++◌, None, Some, refl, sym, ap, ◌∙◌, subst, inl, inr, true≢false, arith}
use Rattle.std.proofs.lemmas.List.Kept.{AllPairs-cons}
use Rattle.std.specs.List.{Contains}
use Rattle.conda_spec.specs.Parts.{Parts}
use Rattle.conda_record.specs.declared.pkg_record.PkgRecord.{PkgRecord}
use Rattle.conda_record.specs.declared.pool.NamePool.{NamePool}
use Rattle.conda_encode.specs.Matching.{names}
use Rattle.conda_encode.specs.Solution.{HaveOtherNames, IsBound, IsMet, IsOfItsPool, IsSolution, NoNameTwice}
use Rattle.conda_encode.specs.Variables.{IsPlain, IsRequest, records, variables}
use Rattle.conda_encode.specs.declared.asked.Asked.{Asked}
use Rattle.conda_encode.proofs.Cuts.{AllFrom}
use Rattle.conda_encode.proofs.Members.{In, from_contains, in_left, number_once, numbered_in, of_flat_map, to_contains}
use Rattle.conda_encode.proofs.Places.{named_own}
use Rattle.conda_encode.proofs.Sides.{AreSides, IsMetBy, Numbered, bound_from}
use Rattle.conda_resolve.specs.Choice.{CanStand, is_decided, next_name}
use Rattle.conda_resolve.proofs.Naming.{by_option, decided_by, decided_from, name_of, needed_comes, next_is, none_next, pending, plain, wanted_comes}
use Rattle.conda_resolve.proofs.Walk.{AllTrue, Differ, IsSound, all_more, answers, in_plain, of_plain, one_more, plain_more, record_in}

-- ---- where no name comes up any more

twice : (xs : List Numbered) → Differ xs → NoNameTwice (plain xs)
twice [] d = λ i j e lt far. absurd (omega arith)
twice (x ∷ xs) d =
    AllPairs-cons HaveOtherNames x.1 (plain xs)
    (AllFrom (HaveOtherNames x.1) (plain xs) (λ m i.
    let y = of_plain xs m i in
    let P : PkgRecord → Type 0 = λ r. HaveOtherNames x.1 r in
    subst P y.2 (d.0 y.0 y.1)))
    (twice xs d.1)

own_pool : (pools : List NamePool) (items : List Asked) → IsRequest pools items → (pkg : PkgRecord) → In pkg (records pools) → IsOfItsPool pools pkg
own_pool pools items request pkg i =
    let w : (pool : NamePool) × In pool pools × In pkg pool.recs = of_flat_map (λ (p : NamePool). p.recs) pools pkg i in
    let a = to_contains pools w.0 w.1 in
    let b = to_contains w.0.recs pkg w.2 in
    (w.0, a, sym (request.own w.0 a pkg b), b)

-- the true record that a specification names is decided, where its name is
met : (pools : List NamePool) (v : ℕ → Bool) (items : List Asked) (xs : List Numbered) → AreSides pools items v → AllTrue pools v xs → (spec : Parts) → IsPlain spec →
    is_decided (plain xs) spec.name ≡ true → IsMetBy pools v spec → IsMet (plain xs) spec
met pools v items xs sides all spec p known (y, t, named) =
    let m = decided_by (plain xs) spec.name known in
    let x = of_plain xs m.0 m.1 in
    let own : spec.name ≡ name_of y.1 = named_own spec y.1 p named in
    let same_name : name_of x.0.1 ≡ name_of y.1 = ap name_of x.2 ∙ sym m.2 ∙ own in
    let n : x.0.0 ≡ y.0 = sides.once x.0 y (all x.0 x.1) t same_name in
    let same : x.0.1 ≡ y.1 = number_once 1 (records pools) x.0 y (all x.0 x.1).0 t.0 n in
    let P : PkgRecord → Type 0 = λ r. names spec r ≡ true in
    (x.0.1, to_contains (plain xs) x.0.1 (in_plain xs x.0 x.1), subst P (sym same) named)

pub closed_solves : (pools : List NamePool) (items : List Asked) (v : ℕ → Bool) (xs : List Numbered) → IsRequest pools items → AreSides pools items v → AllTrue pools v xs → IsSound pools items xs →
    next_name items (plain xs) ≡ None → IsSolution (plain xs) items pools
closed_solves pools items v xs request sides all sound none =
    let of : (m : PkgRecord) → Contains (plain xs) m → (x : Numbered) × In x xs × (x.1 ≡ m) = λ m c. of_plain xs m (from_contains (plain xs) m c) in
    let known : (name : List ℕ) → In name (pending items (plain xs)) → is_decided (plain xs) name ≡ true = none_next items (plain xs) none in
    record {
      of_pools = λ m c.
          let x = of m c in
          let P : PkgRecord → Type 0 = λ r. IsOfItsPool pools r in
          subst P x.2 (own_pool pools items request x.0.1 (numbered_in 1 (records pools) x.0 (sound.numbered x.0 x.1)));
      apart = twice xs sound.differ;
      wanted = λ spec wants.
          let P : Parts → Type 0 = λ s. IsPlain s in
          met pools v items xs sides all spec (subst P wants.3 (request.items_plain wants.0 wants.1))
          (known spec.name (wanted_comes items (plain xs) spec wants)) (sides.wanted spec wants);
      depends = λ m c spec d.
          let x = of m c in
          let P : PkgRecord → Type 0 = λ r. Contains r.depends spec in
          let e : Contains x.0.1.depends spec = subst P (sym x.2) d in
          let t = all x.0 x.1 in
          met pools v items xs sides all spec (request.depends_plain x.0.1 (record_in pools x.0 t.0) spec e)
          (known spec.name (needed_comes items (plain xs) x.0.1 spec (in_plain xs x.0 x.1) (from_contains x.0.1.depends spec e)))
          (sides.needed x.0 t spec (from_contains x.0.1.depends spec e));
      pinned = λ spec pins m c.
          let x = of m c in
          let P : PkgRecord → Type 0 = λ r. IsBound spec r in
          subst P x.2 (bound_from spec x.0.1 (λ bar. sides.pinned spec pins x.0 (all x.0 x.1) bar));
      constrains = λ m n a b others spec d.
          let x = of m a in
          let y = of n b in
          let P : PkgRecord → Type 0 = λ r. Contains r.constrains spec in
          let e : Contains x.0.1.constrains spec = subst P (sym x.2) d in
          let Q : PkgRecord → Type 0 = λ r. IsBound spec r in
          subst Q y.2 (bound_from spec y.0.1 (λ bar.
          let n : x.0.0 ≡ y.0.0 = sides.barred x.0 y.0 (all x.0 x.1) (all y.0 y.1) spec (from_contains x.0.1.constrains spec e) bar in
          let one : x.0.1 ≡ y.0.1 = number_once 1 (records pools) x.0 y.0 (all x.0 x.1).0 (all y.0 y.1).0 n in
          others (ap name_of (sym x.2 ∙ one ∙ y.2))));
      reached = λ m c. sound.reached m (from_contains (plain xs) m c);
    }

-- ---- how many records are of names that aren't decided

one_left : Bool → ℕ
one_left true = 0
one_left false = 1

pub left : List PkgRecord → List PkgRecord → ℕ
left decided [] = 0
left decided (r ∷ rs) = one_left (is_decided decided (name_of r)) + left decided rs

pub more_decided : (decided : List PkgRecord) (x : PkgRecord) (name : List ℕ) → is_decided decided name ≡ true → is_decided (decided ++ x ∷ []) name ≡ true
more_decided decided x name h =
    let m = decided_by decided name h in
    decided_from (decided ++ x ∷ []) name m.0 (in_left decided (x ∷ []) m.0 m.1) m.2

one_less : (a b : Bool) → (a ≡ true → b ≡ true) → one_left b ≤ one_left a
unfolding one_left
one_less true true f = omega arith
one_less true false f = absurd (true≢false (sym (f refl)))
one_less false true f = omega arith
one_less false false f = omega arith

left_less : (decided : List PkgRecord) (x : PkgRecord) (rs : List PkgRecord) → left (decided ++ x ∷ []) rs ≤ left decided rs
unfolding left
left_less decided x [] = omega arith
left_less decided x (r ∷ rs) =
    let here : one_left (is_decided (decided ++ x ∷ []) (name_of r)) ≤ one_left (is_decided decided (name_of r))
    = one_less (is_decided decided (name_of r)) (is_decided (decided ++ x ∷ []) (name_of r)) (more_decided decided x (name_of r)) in
    let rest = left_less decided x rs in
    omega (arith, here, rest)

pub left_falls : (decided : List PkgRecord) (x r : PkgRecord) (rs : List PkgRecord) → In r rs → is_decided decided (name_of r) ≡ false → is_decided (decided ++ x ∷ []) (name_of r) ≡ true →
    left (decided ++ x ∷ []) rs < left decided rs
unfolding left one_left
left_falls decided x r [] i free taken = absurd i
left_falls decided x r (s ∷ rs) (inl e) free taken =
    let a : one_left (is_decided decided (name_of s)) ≡ 1 = ap (λ (u : PkgRecord). one_left (is_decided decided (name_of u))) e ∙ ap one_left free in
    let b : one_left (is_decided (decided ++ x ∷ []) (name_of s)) ≡ 0 = ap (λ (u : PkgRecord). one_left (is_decided (decided ++ x ∷ []) (name_of u))) e ∙ ap one_left taken in
    let rest = left_less decided x rs in
    omega (arith, a, b, rest)
left_falls decided x r (s ∷ rs) (inr i) free taken =
    let here : one_left (is_decided (decided ++ x ∷ []) (name_of s)) ≤ one_left (is_decided decided (name_of s))
    = one_less (is_decided decided (name_of s)) (is_decided (decided ++ x ∷ []) (name_of s)) (more_decided decided x (name_of s)) in
    let rest = left_falls decided x r rs i free taken in
    omega (arith, here, rest)

pub last_in : (ms : List PkgRecord) (m : PkgRecord) → In m (ms ++ m ∷ [])
last_in [] m = inl refl
last_in (k ∷ ks) m = inr (last_in ks m)

-- the record of a new variable is one that was left
pub falls : (pools : List NamePool) (xs : List Numbered) (name : List ℕ) (x : Numbered) → In x (variables pools) → is_decided (plain xs) name ≡ false → name ≡ name_of x.1 →
    left (plain (xs ++ x ∷ [])) (records pools) < left (plain xs) (records pools)
falls pools xs name x i free own =
    let P : List ℕ → Type 0 = λ n. is_decided (plain xs) n ≡ false in
    let Q : List PkgRecord → Type 0 = λ ds. left ds (records pools) < left (plain xs) (records pools) in
    subst Q (sym (plain_more xs x))
    (left_falls (plain xs) x.1 x.1 (records pools) (numbered_in 1 (records pools) x i) (subst P own free)
    (decided_from (plain xs ++ x.1 ∷ []) (name_of x.1) x.1 (last_in (plain xs) x.1) refl))

-- ---- until none comes up

pub record Complete (pools : List NamePool) (items : List Asked) (v : ℕ → Bool) (xs : List Numbered) : Type 0 where
  pub ys : List Numbered
  pub all : AllTrue pools v ys
  pub sound : IsSound pools items ys
  pub none : next_name items (plain ys) ≡ None
  pub holds : (m : PkgRecord) → In m (plain xs) → In m (plain ys)

-- the true record that answers to the next name
record Further (pools : List NamePool) (items : List Asked) (v : ℕ → Bool) (xs : List Numbered) : Type 0 where
  pub x : Numbered
  pub all : AllTrue pools v (xs ++ x ∷ [])
  pub sound : IsSound pools items (xs ++ x ∷ [])
  pub falls : left (plain (xs ++ x ∷ [])) (records pools) < left (plain xs) (records pools)

further : (pools : List NamePool) (items : List Asked) (v : ℕ → Bool) (xs : List Numbered) (name : List ℕ) → IsRequest pools items → AreSides pools items v → AllTrue pools v xs →
    IsSound pools items xs → next_name items (plain xs) ≡ Some name → Further pools items v xs
further pools items v xs name request sides all sound next =
    let n = next_is items (plain xs) name next in
    let a = answers pools items v xs name request sides all n.0 in
    record {
      x = a.found;
      all = all_more pools v xs a.found all a.is_true;
      sound = one_more pools items v xs name a.found request sides all sound n.0 n.1 a.is_true a.named;
      falls = falls pools xs name a.found a.is_true.0 n.1 a.named;
    }

stays : (xs : List Numbered) (x : Numbered) (m : PkgRecord) → In m (plain xs) → In m (plain (xs ++ x ∷ []))
stays xs x m i =
    let P : List PkgRecord → Type 0 = λ ms. In m ms in
    subst P (sym (plain_more xs x)) (in_left (plain xs) (x.1 ∷ []) m i)

pub complete : (k : ℕ) (pools : List NamePool) (items : List Asked) (v : ℕ → Bool) (xs : List Numbered) → left (plain xs) (records pools) ≤ k → IsRequest pools items → AreSides pools items v →
    AllTrue pools v xs → IsSound pools items xs → Complete pools items v xs
complete zero pools items v xs le request sides all sound =
    elim (by_option (next_name items (plain xs))) [
      | inl none ↦ record { ys = xs; all = all; sound = sound; none = none; holds = λ m i. i }
      | inr some ↦ let f = further pools items v xs some.0 request sides all sound some.1 in absurd (omega (arith, f.falls))
    ]
complete (suc k) pools items v xs le request sides all sound =
    elim (by_option (next_name items (plain xs))) [
      | inl none ↦ record { ys = xs; all = all; sound = sound; none = none; holds = λ m i. i }
      | inr some ↦
          let f = further pools items v xs some.0 request sides all sound some.1 in
          let c = complete k pools items v (xs ++ f.x ∷ []) (omega (arith, f.falls)) request sides f.all f.sound in
          record { ys = c.ys; all = c.all; sound = c.sound; none = c.none; holds = λ m i. c.holds m (stays xs f.x m i) }
    ]

-- ---- the record can stand

-- what is decided and true is part of a solution
pub stands : (pools : List NamePool) (items : List Asked) (v : ℕ → Bool) (xs : List Numbered) → IsRequest pools items → AreSides pools items v → AllTrue pools v xs → IsSound pools items xs →
    (set : List PkgRecord) × IsSolution set items pools × ((m : PkgRecord) → In m (plain xs) → Contains set m)
stands pools items v xs request sides all sound =
    let c = complete (left (plain xs) (records pools)) pools items v xs (omega arith) request sides all sound in
    (plain c.ys, closed_solves pools items v c.ys request sides c.all c.sound c.none, λ m i. to_contains (plain c.ys) m (c.holds m i))

pub can_stand : (pools : List NamePool) (items : List Asked) (v : ℕ → Bool) (xs : List Numbered) (x : Numbered) → IsRequest pools items → AreSides pools items v → AllTrue pools v (xs ++ x ∷ []) →
    IsSound pools items (xs ++ x ∷ []) → CanStand pools items (plain xs) x.1
can_stand pools items v xs x request sides all sound =
    let s = stands pools items v (xs ++ x ∷ []) request sides all sound in
    let P : List PkgRecord → Type 0 = λ ms. In x.1 ms in
    (s.0, s.1, s.2 x.1 (subst P (sym (plain_more xs x)) (last_in (plain xs) x.1)), λ m c. s.2 m (stays xs x m (from_contains (plain xs) m c)))
