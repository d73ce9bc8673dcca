-- In goods that ascend by path a path has one good.
use Rattle.std.specs.Prelude.{◌≡◌, ℕ, List, [], ◌∷◌}
use Rattle.std.proofs.Common.{ap, sym, ◌∙◌, subst, inl, inr, ◌⊎◌}
use Rattle.std.proofs.lemmas.Bool.{false≢true}
use Rattle.std.proofs.lemmas.Map.Text.{is_eq-slice_cmp}
use Rattle.std.proofs.lemmas.Slice.Eq.{bytes_eq-Decides}
use Rattle.std.specs.Cmp.Lexicographic.{nat_list_cmp_total, slice_cmp}
use Rattle.std.specs.List.{Contains}
use Rattle.std.specs.Ordering.{is_eq, nat_cmp}
use Rattle.std.specs.declared.cmp.Ordering.TheVariants.{Less}
use Rattle.conda_base.specs.Texts.{Ascending, IsBeforeFirst}
use Rattle.conda_path.specs.declared.values.Good.{Good}
use Rattle.conda_goods.specs.Goods.{paths_of}
use Rattle.conda_plan.proofs.MemberLemmas.{cases, none}

less_apart : (x y : List ℕ) → slice_cmp nat_cmp x y ≡ Less → x ≡ y → ⊥
less_apart x y h e = false≢true (ap is_eq (sym h) ∙ is_eq-slice_cmp x y ∙ (bytes_eq-Decides x y).1 e)

later : (path : List ℕ) (goods : List Good) (good : Good) → IsBeforeFirst path (paths_of goods) → Ascending (paths_of goods)
    → Contains goods good
    → slice_cmp nat_cmp path good.path ≡ Less
later path [] good h a m = absurd (none good m)
later path (x ∷ rest) good h a m = by (cases x rest good m) (later x.path rest good a.0 a.1)
  where
    by : (x ≡ good) ⊎ Contains rest good → (Contains rest good → slice_cmp nat_cmp x.path good.path ≡ Less)
        → slice_cmp nat_cmp path good.path ≡ Less
    by (inl e) f = subst (λ (y : Good). slice_cmp nat_cmp path y.path ≡ Less) e h
    by (inr r) f = nat_list_cmp_total.trans path x.path good.path h (f r)

pub one_good : (goods : List Good) (a b : Good) → Ascending (paths_of goods) → Contains goods a → Contains goods b → a.path ≡ b.path → a ≡ b
one_good [] a b h m n e = absurd (none a m)
one_good (x ∷ rest) a b h m n e = by (cases x rest a m) (cases x rest b n) (λ r s. one_good rest a b h.1 r s e)
  where
    by : (x ≡ a) ⊎ Contains rest a → (x ≡ b) ⊎ Contains rest b → (Contains rest a → Contains rest b → a ≡ b) → a ≡ b
    by (inl f) (inl g) k = sym f ∙ g
    by (inr r) (inr s) k = k r s
    by (inl f) (inr s) k = absurd (less_apart x.path b.path (later x.path rest b h.0 h.1 s) (ap (λ (y : Good). y.path) f ∙ e))
    by (inr r) (inl g) k = absurd (less_apart x.path a.path (later x.path rest a h.0 h.1 r) (ap (λ (y : Good). y.path) g ∙ sym e))
