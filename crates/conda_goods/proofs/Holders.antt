-- Owners and holders: when two are one, and their order.
use Rattle.std.specs.Prelude.{◌≡◌, ◌≢◌, ℕ, Bool, true, false, not, List, [], ◌∷◌, None, Some}
use Rattle.std.proofs.Common.{refl, ap, sym, ◌∙◌}
use Rattle.std.proofs.lemmas.Bool.{true≢false}
use Rattle.std.proofs.lemmas.Cmp.{nat_list_cmp_total, on_total}
use Rattle.std.proofs.lemmas.Map.Lookups.{exact_bytes}
use Rattle.std.proofs.lemmas.Slice.Eq.{bytes_eq-Decides}
use Rattle.std.specs.Bool.{Decides}
use Rattle.std.specs.Cmp.{IsTotalOrder}
use Rattle.std.specs.Cmp.Lexicographic.{slice_cmp}
use Rattle.std.specs.Ordering.{nat_cmp, on, ordering_reverse}
use Rattle.std.specs.declared.cmp.Ordering.{Ordering}
use Rattle.std.specs.declared.cmp.Ordering.TheVariants.{Less, Equal, Greater}
use Rattle.conda_goods.specs.Claims.{differ, same_owner}
use Rattle.conda_goods.specs.Conflicts.{Holder, owner_cmp}
use Rattle.conda_goods.specs.declared.owner.Owner.{Owner}
use Rattle.conda_goods.specs.declared.owner.Owner.TheVariants.{Dist, Other}

pub same_owner_is : (a b : Owner) → Decides (same_owner a b) (a ≡ b)
same_owner_is (Dist a) (Dist b) =
    (λ e. ap Dist ((bytes_eq-Decides a b).0 e), λ e. (bytes_eq-Decides a b).1 (inner e))
  where
    inner : Dist a ≡ Dist b → a ≡ b
    inner e = cc
same_owner_is (Dist a) Other = (λ e. absurd (true≢false (sym e)), λ e. cc)
same_owner_is Other (Dist b) = (λ e. absurd (true≢false (sym e)), λ e. cc)
same_owner_is Other Other = (λ e. refl, λ e. refl)

not_same : (b : Bool) → not b ≡ true → b ≡ true → ⊥
not_same true h e = true≢false (sym h)
not_same false h e = true≢false (sym e)

from_not : (b : Bool) → (b ≡ true → ⊥) → not b ≡ true
from_not true h = absurd (h refl)
from_not false h = refl

pub differ_are_two : (a b : Holder) → differ a b ≡ true → a ≢ b
differ_are_two None None h e = true≢false (sym h)
differ_are_two None (Some b) h e = cc
differ_are_two (Some a) None h e = cc
differ_are_two (Some a) (Some b) h e =
    let inner : a ≡ b = cc in not_same (same_owner a b) h ((same_owner_is a b).1 inner)

pub two_differ : (a b : Holder) → a ≢ b → differ a b ≡ true
two_differ None None h = absurd (h refl)
two_differ None (Some b) h = refl
two_differ (Some a) None h = refl
two_differ (Some a) (Some b) h = from_not (same_owner a b) (λ e. h (ap Some ((same_owner_is a b).0 e)))

-- ---- the order of owners

owner_key : Owner → List ℕ
owner_key (Dist a) = 0 ∷ a
owner_key Other = 1 ∷ []

by_key : (a b : Owner) → owner_cmp a b ≡ slice_cmp nat_cmp (owner_key a) (owner_key b)
unfolding owner_key
by_key (Dist a) (Dist b) = refl
by_key (Dist a) Other = refl
by_key Other (Dist b) = refl
by_key Other Other = refl

keys : IsTotalOrder (on owner_key (slice_cmp nat_cmp))
keys = on_total owner_key nat_list_cmp_total

pub owner_total : IsTotalOrder owner_cmp
owner_total = record {
  antisymm = λ a b. by_key a b ∙ keys.antisymm a b ∙ ap ordering_reverse (sym (by_key b a));
  trans = λ a b c h k. by_key a c ∙ keys.trans a b c (sym (by_key a b) ∙ h) (sym (by_key b c) ∙ k);
  congr = λ a b c h. by_key a c ∙ keys.congr a b c (sym (by_key a b) ∙ h) ∙ sym (by_key b c);
}

pub owner_exact : (a b : Owner) → owner_cmp a b ≡ Equal → a ≡ b
owner_exact (Dist a) (Dist b) h = ap Dist (exact_bytes a b h)
owner_exact (Dist a) Other h = cc h
owner_exact Other (Dist b) h = cc h
owner_exact Other Other h = refl

-- one comes first of two, where it isn't behind the other
pub owner_first : (a b : Owner) → owner_cmp b a ≢ Less → a ≢ b → owner_cmp a b ≡ Less
owner_first a b above two = by (owner_cmp a b) refl
  where
    by : (o : Ordering) → owner_cmp a b ≡ o → o ≡ Less
    by Less e = refl
    by Equal e = absurd (two (owner_exact a b e))
    by Greater e = absurd (above (owner_total.antisymm b a ∙ ap ordering_reverse e))
