-- Goods are compared by all that they are.
use Rattle.std.specs.Prelude.{◌≡◌, ℕ, Bool, true, false, ◌&&◌, nat_eq, List}
use Rattle.std.proofs.Common.{Decides, refl, ap, ◌∙◌}
use Rattle.std.proofs.lemmas.Bool.{false≢true}
use Rattle.std.proofs.lemmas.Bool.Decides.{Decides-eqb}
use Rattle.std.proofs.lemmas.Slice.Eq.{bytes_eq-Decides}
use Rattle.conda_base.specs.Texts.{is_text}
use Rattle.conda_path.specs.declared.values.Good.{Good}
use Rattle.conda_path.specs.declared.values.Kind.{Kind}
use Rattle.conda_path.specs.declared.values.Kind.TheVariants.{Exec, File, Soft}
use Rattle.conda_path.specs.contracts.values.GoodPartialEq.TheImpl as good
use Rattle.conda_path.specs.contracts.values.KindPartialEq.TheImpl as kind

both : {P Q : Type 0} (v w : Bool) → Decides v P → Decides w Q → Decides (v && w) (P × Q)
both true w f g = (λ e. (f.0 refl, g.0 e), λ h. g.1 h.1)
both false w f g = (λ e. absurd (false≢true e), λ h. f.1 h.0)

same_kind : (a b : Kind) → Decides (kind.eq-value.it a b) (a ≡ b)
same_kind File File = (λ _. refl, λ _. refl)
same_kind Exec Exec = (λ _. refl, λ _. refl)
same_kind Soft Soft = (λ _. refl, λ _. refl)
same_kind File Exec = (λ e. absurd (false≢true e), λ e. cc)
same_kind File Soft = (λ e. absurd (false≢true e), λ e. cc)
same_kind Exec File = (λ e. absurd (false≢true e), λ e. cc)
same_kind Exec Soft = (λ e. absurd (false≢true e), λ e. cc)
same_kind Soft File = (λ e. absurd (false≢true e), λ e. cc)
same_kind Soft Exec = (λ e. absurd (false≢true e), λ e. cc)

abbrev with_parts : List ℕ → Kind → ℕ → List ℕ → Good
with_parts path kind size bytes = record { path = path; kind = kind; size = size; digest = record { bytes = bytes } }

pub same_good : (a b : Good) → Decides (good.eq-value.it a b) (a ≡ b)
same_good a b =
    let parts = both (is_text a.path b.path)
    (kind.eq-value.it a.kind b.kind && (nat_eq a.size b.size && is_text a.digest.bytes b.digest.bytes))
    (bytes_eq-Decides a.path b.path)
    (both (kind.eq-value.it a.kind b.kind) (nat_eq a.size b.size && is_text a.digest.bytes b.digest.bytes) (same_kind a.kind b.kind)
    (both (nat_eq a.size b.size) (is_text a.digest.bytes b.digest.bytes) (Decides-eqb a.size b.size)
    (bytes_eq-Decides a.digest.bytes b.digest.bytes))) in (
      λ e. made (parts.0 e),
      λ e. parts.1
          (ap (λ (g : Good). g.path) e, (ap (λ (g : Good). g.kind) e, (ap (λ (g : Good). g.size) e, ap (λ (g : Good). g.digest.bytes) e))),
    )
  where
    made : (a.path ≡ b.path) × ((a.kind ≡ b.kind) × ((a.size ≡ b.size) × (a.digest.bytes ≡ b.digest.bytes))) → a ≡ b
    made h =
        ap (λ p. with_parts p a.kind a.size a.digest.bytes) h.0 ∙ ap (λ k. with_parts b.path k a.size a.digest.bytes) h.1.0
        ∙ ap (λ s. with_parts b.path b.kind s a.digest.bytes) h.1.1.0 ∙ ap (with_parts b.path b.kind b.size) h.1.1.1
