-- The orders of records and of entries that are set aside.
use Rattle.std.specs.Prelude.{◌≡◌}
use Rattle.std.proofs.Common.{refl}
use Rattle.std.proofs.lemmas.Cmp.{nat_list_cmp_total, on_total, then_total}
use Rattle.std.proofs.lemmas.Map.Lookups.{CmpEqualImpliesEq, exact_bytes, exact_pairs}
use Rattle.std.specs.Cmp.{IsTotalOrder}
use Rattle.std.specs.Cmp.Lexicographic.{slice_cmp}
use Rattle.std.specs.Ordering.{nat_cmp, ordering_reverse}
use Rattle.std.specs.declared.cmp.Ordering.TheVariants.{Less, Equal}
use Rattle.conda_repodata.specs.Entries.{place_cmp, section_cmp}
use Rattle.conda_repodata.specs.declared.aside.Section.{Section}

section_total : IsTotalOrder section_cmp
section_total = record {
  antisymm = turned;
  trans = above;
  congr = alike;
}
  where
    turned : (a b : Section) → section_cmp a b ≡ ordering_reverse (section_cmp b a)
    turned Section.Packages Section.Packages = refl
    turned Section.Packages Section.PackagesConda = refl
    turned Section.PackagesConda Section.Packages = refl
    turned Section.PackagesConda Section.PackagesConda = refl

    above : (a b c : Section) → section_cmp a b ≡ Less → section_cmp b c ≡ Less → section_cmp a c ≡ Less
    above Section.Packages Section.Packages c p q = q
    above Section.Packages Section.PackagesConda Section.Packages p q = cc q
    above Section.Packages Section.PackagesConda Section.PackagesConda p q = refl
    above Section.PackagesConda Section.Packages c p q = cc p
    above Section.PackagesConda Section.PackagesConda c p q = q

    alike : (a b c : Section) → section_cmp a b ≡ Equal → section_cmp a c ≡ section_cmp b c
    alike Section.Packages Section.Packages c p = refl
    alike Section.Packages Section.PackagesConda c p = cc p
    alike Section.PackagesConda Section.Packages c p = cc p
    alike Section.PackagesConda Section.PackagesConda c p = refl

section_exact : CmpEqualImpliesEq section_cmp
section_exact Section.Packages Section.Packages p = refl
section_exact Section.Packages Section.PackagesConda p = cc p
section_exact Section.PackagesConda Section.Packages p = cc p
section_exact Section.PackagesConda Section.PackagesConda p = refl

pub place_total : IsTotalOrder place_cmp
place_total = then_total (on_total (λ p. p.0) nat_list_cmp_total) (on_total (λ p. p.1) section_total)

-- places that compare alike are one
pub place_exact : CmpEqualImpliesEq place_cmp
place_exact = exact_pairs (slice_cmp nat_cmp) section_cmp exact_bytes section_exact
