-- Records by name: those of a list whose names all differ, in one way.
use Rattle.std.proofs.Common.{◌≡◌, ◌↔◌, ℕ, List, [], ◌∷◌, map, refl, sym, ap, ◌∙◌, subst, ◌⊎◌, inl, inr, arith}
use Rattle.std.proofs.lemmas.Bool.Decides.{Decides-eqb}
use Rattle.std.proofs.lemmas.Cmp.{nat_list_cmp_total, tied_itself}
use Rattle.std.proofs.lemmas.List.Kept.{AllPairs-cons}
use Rattle.std.proofs.lemmas.Slice.Eq.{slice_eq-Decides}
use Rattle.std.specs.Bool.{Decides}
use Rattle.std.specs.Cmp.Lexicographic.{slice_cmp, texts_ties}
use Rattle.std.specs.List.{Contains}
use Rattle.std.specs.Ordering.{is_eq, nat_cmp, ordering_reverse}
use Rattle.std.specs.declared.cmp.Ordering.{Ordering}
use Rattle.std.specs.declared.cmp.Ordering.TheVariants.{Less, Equal, Greater}
use Rattle.conda_base.specs.Texts.{Ascending, IsBeforeFirst, is_text}
use Rattle.conda_record.specs.declared.pkg_record.PkgRecord.{PkgRecord}
use Rattle.conda_record.specs.declared.pool.NamePool.{NamePool}
use Rattle.conda_encode.specs.Solution.{HaveOtherNames, IsMet, IsSolution, NoNameTwice}
use Rattle.conda_encode.specs.declared.asked.Asked.{Asked}
use Rattle.conda_encode.proofs.Cuts.{AllFrom}
use Rattle.conda_encode.proofs.Members.{In}
use Rattle.conda_encode.proofs.Ones.{first_pair, rest_pairs}
use Rattle.conda_spec.specs.Parts.{Parts}
use Rattle.conda_resolve.proofs.Naming.{name_of}
use Rattle.conda_resolve.proofs.Walk.{reached_more}

abbrev pub names_of : List PkgRecord → List (List ℕ)
names_of set = map (λ m. name_of m) set

abbrev IsBefore : List ℕ → List ℕ → Type 0
IsBefore a b = slice_cmp nat_cmp a b ≡ Less

compare : (a b : List ℕ) → IsBefore a b ⊎ ((a ≡ b) ⊎ IsBefore b a)
compare a b = by (slice_cmp nat_cmp a b) refl
  where
    by : (o : Ordering) → slice_cmp nat_cmp a b ≡ o → IsBefore a b ⊎ ((a ≡ b) ⊎ IsBefore b a)
    by Less e = inl e
    by Equal e =
        let d : Decides (is_text a b) (a ≡ b) = slice_eq-Decides Decides-eqb a b (is_text a b) refl in
        inr (inl (d.0 (texts_ties a b ∙ ap is_eq e)))
    by Greater e = inr (inr (nat_list_cmp_total.antisymm b a ∙ ap ordering_reverse e))

never_before : (a : List ℕ) → IsBefore a a → ⊥
never_before a h = let e : slice_cmp nat_cmp a a ≡ Equal = tied_itself nat_list_cmp_total a in cc

over : (text : List ℕ) (k : PkgRecord) (ks : List PkgRecord) → IsBefore text (name_of k) → IsBeforeFirst (name_of k) (names_of ks) → IsBeforeFirst text (names_of ks)
over text k [] h a = tt
over text k (l ∷ ls) h a = nat_list_cmp_total.trans text (name_of k) (name_of l) h a

before_in : (text : List ℕ) (ms : List PkgRecord) → IsBeforeFirst text (names_of ms) → Ascending (names_of ms) → (k : PkgRecord) → In k ms → IsBefore text (name_of k)
before_in text [] h a k i = absurd i
before_in text (m ∷ ms) h a k (inl e) = (let P : PkgRecord → Type 0 = λ r. IsBefore text (name_of r) in subst P e h)
before_in text (m ∷ ms) h a k (inr i) = before_in text ms (over text m ms h a.0) a.1 k i

-- ---- one more in its place

record Put (m : PkgRecord) (set : List PkgRecord) : Type 0 where
  pub out : List PkgRecord
  pub ascends : Ascending (names_of out)
  pub front : (text : List ℕ) → IsBeforeFirst text (names_of set) → IsBefore text (name_of m) → IsBeforeFirst text (names_of out)
  pub here : In m out
  pub rest : (k : PkgRecord) → In k set → In k out
  pub only : (k : PkgRecord) → In k out → (m ≡ k) ⊎ In k set

put : (m : PkgRecord) (set : List PkgRecord) → Ascending (names_of set) → ((k : PkgRecord) → In k set → name_of m ≡ name_of k → ⊥) → Put m set
put m [] a other = record {
  out = m ∷ [];
  ascends = (tt, tt);
  front = λ text h lt. lt;
  here = inl refl;
  rest = λ k i. absurd i;
  only = λ k i. i;
}
put m (k ∷ ks) a other =
    elim (compare (name_of m) (name_of k)) [
      | inl less ↦ record {
        out = m ∷ k ∷ ks;
        ascends = (less, a);
        front = λ text h lt. lt;
        here = inl refl;
        rest = λ l i. inr i;
        only = λ l i. i;
      }
      | inr (inl same) ↦ absurd (other k (inl refl) same)
      | inr (inr more) ↦
          let p = put m ks a.1 (λ l i. other l (inr i)) in
          record {
            out = k ∷ p.out;
            ascends = (p.front (name_of k) a.0 more, p.ascends);
            front = λ text h lt. h;
            here = inr p.here;
            rest = λ l i. elim i as (λ _. In l (k ∷ p.out)) [ inl e ↦ inl e | inr j ↦ inr (p.rest l j) ];
            only = λ l i. elim i as (λ _. (m ≡ l) ⊎ In l (k ∷ ks)) [
              | inl e ↦ inr (inl e)
              | inr j ↦ elim (p.only l j) [ inl e ↦ inl e | inr h ↦ inr (inr h) ]
            ];
          }
    ]

pub record ByName (decided : List PkgRecord) : Type 0 where
  pub set : List PkgRecord
  pub into : (k : PkgRecord) → In k decided → In k set
  pub from : (k : PkgRecord) → In k set → In k decided
  pub ascends : Ascending (names_of set)

pub by_name : (decided : List PkgRecord) → NoNameTwice decided → ByName decided
by_name [] apart = record { set = []; into = λ k i. i; from = λ k i. i; ascends = tt }
by_name (m ∷ ms) apart =
    let s = by_name ms (rest_pairs HaveOtherNames m ms apart) in
    let p = put m s.set s.ascends (λ k i. first_pair HaveOtherNames m k ms apart (s.from k i)) in
    record {
      set = p.out;
      into = λ k i. elim i as (λ _. In k p.out) [
        | inl e ↦ (let P : PkgRecord → Type 0 = λ r. In r p.out in subst P e p.here)
        | inr j ↦ p.rest k (s.into k j)
      ];
      from = λ k i. elim (p.only k i) [ inl e ↦ inl e | inr j ↦ inr (s.from k j) ];
      ascends = p.ascends;
    }

-- ---- in one way

both_cons : (x y : PkgRecord) (xs ys : List PkgRecord) → x ≡ y → xs ≡ ys → x ∷ xs ≡ y ∷ ys
both_cons x y xs ys e f = cc

pub one_way : (xs ys : List PkgRecord) → Ascending (names_of xs) → Ascending (names_of ys) → ((k : PkgRecord) → In k xs → In k ys) → ((k : PkgRecord) → In k ys → In k xs) → xs ≡ ys
one_way [] [] a b to back = refl
one_way [] (y ∷ ys) a b to back = absurd (back y (inl refl))
one_way (x ∷ xs) [] a b to back = absurd (to x (inl refl))
one_way (x ∷ xs) (y ∷ ys) a b to back =
    let in_xs : (k : PkgRecord) → In k xs → IsBefore (name_of x) (name_of k) = before_in (name_of x) xs a.0 a.1 in
    let in_ys : (k : PkgRecord) → In k ys → IsBefore (name_of y) (name_of k) = before_in (name_of y) ys b.0 b.1 in
    let same : x ≡ y = elim (to x (inl refl)) as (λ _. x ≡ y) [
      | inl e ↦ sym e
      | inr j ↦ elim (back y (inl refl)) as (λ _. x ≡ y) [
        | inl e ↦ e
        | inr k ↦ absurd (never_before (name_of x) (nat_list_cmp_total.trans (name_of x) (name_of y) (name_of x) (in_xs y k) (in_ys x j)))
      ]
    ] in
    both_cons x y xs ys same (one_way xs ys a.1 b.1
    (λ k i. elim (to k (inr i)) as (λ _. In k ys) [
      | inl e ↦ (let P : PkgRecord → Type 0 = λ r. IsBefore (name_of x) (name_of r) in absurd (never_before (name_of x) (subst P (sym (same ∙ e)) (in_xs k i))))
      | inr j ↦ j
    ])
    (λ k i. elim (back k (inr i)) as (λ _. In k xs) [
      | inl e ↦ (let P : PkgRecord → Type 0 = λ r. IsBefore (name_of y) (name_of r) in absurd (never_before (name_of y) (subst P (sym (sym same ∙ e)) (in_ys k i))))
      | inr j ↦ j
    ]))

-- ---- a solution in another order

ascending_apart : (set : List PkgRecord) → Ascending (names_of set) → NoNameTwice set
ascending_apart [] a = λ i j d lt far. absurd (omega arith)
ascending_apart (m ∷ ms) a =
    AllPairs-cons HaveOtherNames m ms
    (AllFrom (HaveOtherNames m) ms (λ k i e.
    let P : List ℕ → Type 0 = λ name. IsBefore (name_of m) name in
    never_before (name_of m) (subst P (sym e) (before_in (name_of m) ms a.0 a.1 k i))))
    (ascending_apart ms a.1)

pub solves_so : (pools : List NamePool) (items : List Asked) (decided set : List PkgRecord) → ((m : PkgRecord) → Contains decided m ↔ Contains set m) → Ascending (names_of set) →
    IsSolution decided items pools → IsSolution set items pools
solves_so pools items decided set same ascends solution =
    let met : (spec : Parts) → IsMet decided spec → IsMet set spec = λ spec (m, c, named). (m, (same m).0 c, named) in
    record {
      of_pools = λ m c. solution.of_pools m ((same m).1 c);
      apart = ascending_apart set ascends;
      wanted = λ spec wants. met spec (solution.wanted spec wants);
      depends = λ m c spec d. met spec (solution.depends m ((same m).1 c) spec d);
      pinned = λ spec pins m c. solution.pinned spec pins m ((same m).1 c);
      constrains = λ m n a b. solution.constrains m n ((same m).1 a) ((same n).1 b);
      reached = λ m c. reached_more items decided set (λ k. (same k).0) m (solution.reached m ((same m).1 c));
    }
