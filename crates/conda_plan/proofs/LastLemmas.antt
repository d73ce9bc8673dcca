-- In packages by dist a dist has one package, which is the last of that dist.
use Rattle.std.specs.Prelude.{◌≡◌, ◌↔◌, ℕ, ◌<◌, suc, zero, Bool, true, false, cond, List, [], ◌∷◌, length, is_some, slice_index_or, Option, None, Some}
use Rattle.std.proofs.Common.{refl, ap, sym, ◌∙◌, subst, arith}
use Rattle.std.proofs.lemmas.Bool.{false≢true}
use Rattle.std.proofs.lemmas.Map.Text.{is_eq-slice_cmp}
use Rattle.std.proofs.lemmas.Option.{same_Some}
use Rattle.std.proofs.lemmas.Slice.Eq.{bytes_eq-Decides}
use Rattle.std.specs.Cmp.Lexicographic.{nat_list_cmp_total, slice_cmp}
use Rattle.std.specs.List.{Contains}
use Rattle.std.specs.Option.{option_or}
use Rattle.std.specs.Ordering.{is_eq, nat_cmp}
use Rattle.std.specs.declared.cmp.Ordering.TheVariants.{Less}
use Rattle.conda_base.specs.Texts.{Ascending, IsBeforeFirst, is_text}
use Rattle.conda_meta.specs.Folds.{last_of}
use Rattle.conda_meta.specs.Reading.{dists_of}
use Rattle.conda_meta.specs.declared.linked.Linked.{Linked}

same_text : (x y : List ℕ) → x ≡ y → is_text x y ≡ true
same_text x y e = (bytes_eq-Decides x y).1 e

differ : (x y : List ℕ) → slice_cmp nat_cmp x y ≡ Less → is_text y x ≡ false
differ x y h = by (is_text y x) refl
  where
    by : (v : Bool) → is_text y x ≡ v → v ≡ false
    by false e = refl
    by true e = absurd (false≢true (ap is_eq (sym h) ∙ is_eq-slice_cmp x y ∙ same_text x y (sym ((bytes_eq-Decides y x).0 e))))

-- ---- a package that is the last of its dist

pub record IsFound (dist : List ℕ) (packages : List Linked) (one : Linked) : Type 0 where
  pub among : Contains packages one
  pub dist_is : one.rec.dist ≡ dist

further : (dist : List ℕ) (x : Linked) (rest : List Linked) (one : Linked) → IsFound dist rest one → IsFound dist (x ∷ rest) one
further dist x rest one h = record { among = (suc h.among.0, omega (arith, h.among.1), h.among.2); dist_is = h.dist_is }

pub found : (dist : List ℕ) (packages : List Linked) (one : Linked) → last_of dist packages ≡ Some one → IsFound dist packages one
found dist [] one h = cc
found dist (x ∷ rest) one h = by (last_of dist rest) (is_text x.rec.dist dist) refl (found dist rest one) h
  where
    by : (o : Option Linked) (v : Bool) → is_text x.rec.dist dist ≡ v → (o ≡ Some one → IsFound dist rest one)
        → option_or o (cond v (Some x) None) ≡ Some one → IsFound dist (x ∷ rest) one
    by None true v f e =
        let s = same_Some x one e in
        record {
          among = (0, omega arith, s);
          dist_is = subst (λ (p : Linked). p.rec.dist ≡ dist) s
              ((bytes_eq-Decides x.rec.dist dist).0 v);
        }
    by None false v f e = cc
    by (Some p) w v f e = further dist x rest one (f e)

-- ---- the one package of a dist

behind : (dist : List ℕ) (packages : List Linked) → IsBeforeFirst dist (dists_of packages) → Ascending (dists_of packages)
    → last_of dist packages ≡ None
behind dist [] h a = refl
behind dist (x ∷ rest) h a =
    ap (λ v. option_or (last_of dist rest) (cond v (Some x) None)) (differ dist x.rec.dist h)
    ∙ ap (λ o. option_or o None) (behind dist rest (next rest a.0) a.1)
  where
    next : (rest : List Linked) → IsBeforeFirst x.rec.dist (dists_of rest) → IsBeforeFirst dist (dists_of rest)
    next [] q = tt
    next (y ∷ ys) q = nat_list_cmp_total.trans dist x.rec.dist y.rec.dist h q

alone_at : (dist : List ℕ) (packages : List Linked) (one : Linked) (k : ℕ) → Ascending (dists_of packages) → k < length packages
    → slice_index_or packages k one ≡ one → one.rec.dist ≡ dist → last_of dist packages ≡ Some one
alone_at dist [] one k a q is e = absurd (omega (arith, q))
alone_at dist (x ∷ rest) one zero a q is e =
    let d : x.rec.dist ≡ dist = ap (λ (p : Linked). p.rec.dist) is ∙ e in
    ap (λ v. option_or (last_of dist rest) (cond v (Some x) None)) (same_text x.rec.dist dist d)
    ∙ ap (λ o. option_or o (Some x)) (behind dist rest (subst (λ t. IsBeforeFirst t (dists_of rest)) d a.0) a.1)
    ∙ ap Some is
alone_at dist (x ∷ rest) one (suc k) a q is e =
    ap (λ o. option_or o (cond (is_text x.rec.dist dist) (Some x) None)) (alone_at dist rest one k a.1 (omega (arith, q)) is e)

pub alone : (dist : List ℕ) (packages : List Linked) (one : Linked) → Ascending (dists_of packages) → Contains packages one
    → one.rec.dist ≡ dist
    → last_of dist packages ≡ Some one
alone dist packages one a m e = alone_at dist packages one m.0 a m.1 m.2 e

-- ---- whether a dist has a package

has_at : (dist : List ℕ) (packages : List Linked) (k : ℕ) → k < length (dists_of packages)
    → slice_index_or (dists_of packages) k dist ≡ dist
    → is_some (last_of dist packages) ≡ true
has_at dist [] k q is = absurd (omega (arith, q))
has_at dist (x ∷ rest) zero q is = by (last_of dist rest) (is_text x.rec.dist dist) (same_text x.rec.dist dist is)
  where
    by : (o : Option Linked) (v : Bool) → v ≡ true → is_some (option_or o (cond v (Some x) None)) ≡ true
    by None true e = refl
    by None false e = e
    by (Some p) v e = refl
has_at dist (x ∷ rest) (suc k) q is = by (last_of dist rest) (is_text x.rec.dist dist) (has_at dist rest k (omega (arith, q)) is)
  where
    by : (o : Option Linked) (v : Bool) → is_some o ≡ true → is_some (option_or o (cond v (Some x) None)) ≡ true
    by None true e = refl
    by None false e = e
    by (Some p) v e = refl

contained : (dist : List ℕ) (packages : List Linked) → is_some (last_of dist packages) ≡ true → Contains (dists_of packages) dist
contained dist [] h = absurd (false≢true h)
contained dist (x ∷ rest) h = by (last_of dist rest) (is_text x.rec.dist dist) refl (contained dist rest) h
  where
    by : (o : Option Linked) (v : Bool) → is_text x.rec.dist dist ≡ v → (is_some o ≡ true → Contains (dists_of rest) dist)
        → is_some (option_or o (cond v (Some x) None)) ≡ true → Contains (dists_of (x ∷ rest)) dist
    by None true v f e = (0, omega arith, (bytes_eq-Decides x.rec.dist dist).0 v)
    by None false v f e = absurd (false≢true e)
    by (Some p) w v f e = let m = f refl in (suc m.0, omega (arith, m.1), m.2)

pub has_dist : (dist : List ℕ) (packages : List Linked) → (is_some (last_of dist packages) ≡ true) ↔ Contains (dists_of packages) dist
has_dist dist packages = (contained dist packages, λ m. has_at dist packages m.0 m.1 m.2)
