-- What a loop has kept of a list that ascends.
use Rattle.std.specs.Prelude.{◌≡◌, ◌↔◌, ◌⊎◌, ℕ, ◌<◌, suc, zero, List, [], ◌∷◌, ◌++◌, length, take}
use Rattle.std.proofs.Common.{inl, inr, refl, sym, subst, get_or, arith}
use Rattle.std.proofs.lemmas.List.Elements.{Contains-append_left, Contains-push, Contains-push_cases}
use Rattle.std.specs.Cmp.Lexicographic.{nat_list_cmp_total, slice_cmp}
use Rattle.std.specs.List.{Contains}
use Rattle.std.specs.Ordering.{nat_cmp}
use Rattle.std.specs.declared.cmp.Ordering.TheVariants.{Less}
use Rattle.conda_base.specs.Texts.{Ascending, IsBeforeFirst}

-- ---- the kept elements

-- of the items those are kept that P holds of
pub record AreKept {A : Type 0} (P : A → Type 0) (items kept : List A) : Type 0 where
  pub members : (x : A) → Contains kept x ↔ (Contains items x × P x)

pub none_kept : {A : Type 0} (P : A → Type 0) → AreKept P [] []
none_kept P = record { members = λ x. (λ m. absurd (omega (arith, m.1)), λ h. h.0) }

pub one_kept : {A : Type 0} (P : A → Type 0) (items kept : List A) (one : A) → AreKept P items kept → P one
    → AreKept P (items ++ one ∷ []) (kept ++ one ∷ [])
one_kept {A} P items kept one h p = record {
  members = λ x.
      (λ m. to x (Contains-push_cases kept one x m), λ m. back x (Contains-push_cases items one x m.0) m.1);
}
  where
    to : (x : A) → Contains kept x ⊎ (one ≡ x) → Contains (items ++ one ∷ []) x × P x
    to x (inl m) = let k = (h.members x).0 m in (Contains-append_left items (one ∷ []) x k.0, k.1)
    to x (inr e) = (subst (Contains (items ++ one ∷ [])) e (Contains-push items one), subst P e p)

    back : (x : A) → Contains items x ⊎ (one ≡ x) → P x → Contains (kept ++ one ∷ []) x
    back x (inl m) q = Contains-append_left kept (one ∷ []) x ((h.members x).1 (m, q))
    back x (inr e) q = subst (Contains (kept ++ one ∷ [])) e (Contains-push kept one)

pub one_left : {A : Type 0} (P : A → Type 0) (items kept : List A) (one : A) → AreKept P items kept → (P one → ⊥)
    → AreKept P (items ++ one ∷ []) kept
one_left {A} P items kept one h not = record { members = λ x. (λ m. to x m, λ m. back x (Contains-push_cases items one x m.0) m.1) }
  where
    to : (x : A) → Contains kept x → Contains (items ++ one ∷ []) x × P x
    to x m = let k = (h.members x).0 m in (Contains-append_left items (one ∷ []) x k.0, k.1)

    back : (x : A) → Contains items x ⊎ (one ≡ x) → P x → Contains kept x
    back x (inl m) q = (h.members x).1 (m, q)
    back x (inr e) q = absurd (not (subst P (sym e) q))

-- ---- their texts

-- texts that ascend, each of them one of the items' texts
pub record AscendAmong (items kept : List (List ℕ)) : Type 0 where
  pub ascending : Ascending kept
  pub among : (text : List ℕ) → Contains kept text → Contains items text

below : (items : List (List ℕ)) (text : List ℕ) → Ascending (items ++ text ∷ []) → (k : ℕ) (x : List ℕ) → k < length items
    → get_or items k x ≡ x
    → slice_cmp nat_cmp x text ≡ Less
below [] text a k x q is = absurd (omega (arith, q))
below (y ∷ []) text a zero x q is = subst (λ t. slice_cmp nat_cmp t text ≡ Less) is a.0
below (y ∷ z ∷ rest) text a zero x q is =
    subst (λ t. slice_cmp nat_cmp t text ≡ Less) is
    (nat_list_cmp_total.trans y z text a.0 (below (z ∷ rest) text a.1 0 z (omega arith) refl))
below (y ∷ rest) text a (suc k) x q is = below rest text a.1 k x (omega (arith, q)) is

ascend_more : (kept : List (List ℕ)) (text : List ℕ) → Ascending kept → ((x : List ℕ) → Contains kept x → slice_cmp nat_cmp x text ≡ Less)
    → Ascending (kept ++ text ∷ [])
ascend_more [] text a h = (tt, tt)
ascend_more (x ∷ []) text a h = (h x (0, omega arith, refl), (tt, tt))
ascend_more (x ∷ y ∷ rest) text a h = (a.0, ascend_more (y ∷ rest) text a.1 (λ z m. h z (suc m.0, omega (arith, m.1), m.2)))

pub none_among : AscendAmong [] []
none_among = record { ascending = tt; among = λ text m. m }

pub one_among : (items kept : List (List ℕ)) (text : List ℕ) → Ascending (items ++ text ∷ []) → AscendAmong items kept
    → AscendAmong (items ++ text ∷ []) (kept ++ text ∷ [])
one_among items kept text a h = record {
  ascending = ascend_more kept text h.ascending (λ x m. let k = h.among x m in below items text a k.0 x k.1 k.2);
  among = λ x m. by x (Contains-push_cases kept text x m);
}
  where
    by : (x : List ℕ) → Contains kept x ⊎ (text ≡ x) → Contains (items ++ text ∷ []) x
    by x (inl m) = Contains-append_left items (text ∷ []) x (h.among x m)
    by x (inr e) = subst (Contains (items ++ text ∷ [])) e (Contains-push items text)

pub one_not_among : (items kept : List (List ℕ)) (text : List ℕ) → AscendAmong items kept → AscendAmong (items ++ text ∷ []) kept
one_not_among items kept text h = record {
  ascending = h.ascending;
  among = λ x m. Contains-append_left items (text ∷ []) x (h.among x m);
}

-- the first texts of some that ascend
pub first_ascend : (n : ℕ) (texts : List (List ℕ)) → Ascending texts → Ascending (take n texts)
first_ascend zero texts a = tt
first_ascend (suc n) [] a = tt
first_ascend (suc n) (x ∷ rest) a = (next n rest a.0, first_ascend n rest a.1)
  where
    next : (m : ℕ) (rest : List (List ℕ)) → IsBeforeFirst x rest → IsBeforeFirst x (take m rest)
    next zero rest h = tt
    next (suc m) [] h = tt
    next (suc m) (y ∷ ys) h = h
