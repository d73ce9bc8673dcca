-- Texts as keys of a `BTreeMap`.
use Rattle.std.specs.Prelude.{◌≡◌, ℕ, List}
use Rattle.std.proofs.Common.{sym, ◌∙◌}
use Rattle.std.specs.Ordering.{nat_cmp}
use Rattle.std.specs.Cmp.{eq_by_cmp_equiv}
use Rattle.std.specs.Cmp.Lexicographic.{slice_cmp, nat_list_cmp_total, texts_ties}
use Rattle.std.specs.BTreeMap.{is_at}
use Rattle.std.specs.Str.{bytes_eq}

-- the map's test of a key is the equality of texts
pub same_test : (p q : List ℕ) → is_at (slice_cmp nat_cmp p) q ≡ bytes_eq q p
same_test p q = (eq_by_cmp_equiv nat_list_cmp_total).symm p q ∙ sym (texts_ties q p)
