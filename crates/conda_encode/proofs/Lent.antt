-- Records behind references.
use Rattle.std.proofs.Common.{◌≡◌, ℕ, ◌<◌, List, length, map, get_or, sym, ap, ◌∙◌, subst, arith, Bor}
use Rattle.std.proofs.lemmas.List.{get_or-map, length-map}
use Rattle.std.specs.List.{Contains}
use Rattle.conda_spec.specs.Parts.{Parts}
use Rattle.conda_record.specs.declared.pkg_record.PkgRecord.{PkgRecord}
use Rattle.conda_encode.specs.Variables.{IsPlain}

pub lent_at : (recs : List (Bor PkgRecord)) (xs : List PkgRecord) (i : ℕ) (r : Bor PkgRecord) → map (λ (b : Bor PkgRecord). b.now) recs ≡ xs → i < length recs → r ≡ get_or recs i r →
    get_or xs i r.now ≡ r.now
lent_at recs xs i r e lt is =
    ap (λ ls. get_or ls i r.now) (sym e) ∙ get_or-map (λ (b : Bor PkgRecord). b.now) recs i r r.now lt ∙ ap (λ (b : Bor PkgRecord). b.now) (sym is)

pub lent_length : (recs : List (Bor PkgRecord)) (xs : List PkgRecord) → map (λ (b : Bor PkgRecord). b.now) recs ≡ xs → length xs ≡ length recs
lent_length recs xs e = ap length (sym e) ∙ length-map recs (λ (b : Bor PkgRecord). b.now)

pub lent_plain : (g : PkgRecord → List Parts) (recs : List (Bor PkgRecord)) (xs : List PkgRecord) (i : ℕ) (r : Bor PkgRecord) (list : List Parts) →
    map (λ (b : Bor PkgRecord). b.now) recs ≡ xs → i < length recs → r ≡ get_or recs i r → list ≡ g r.now →
    ((pkg : PkgRecord) → Contains xs pkg → (spec : Parts) → Contains (g pkg) spec → IsPlain spec) → (spec : Parts) → Contains list spec → IsPlain spec
lent_plain g recs xs i r list e lt is same plain spec c =
    let P : List Parts → Type 0 = λ l. Contains l spec in
    plain r.now (i, omega (arith, lent_length recs xs e), lent_at recs xs i r e lt is) spec (subst P same c)
