-- Whether a package is to link, by the one of its dist that is linked now.
use Rattle.std.specs.Prelude.{◌≡◌, ◌↔◌, Bool, true, false, not, IsTrue, List, Option, None, Some}
use Rattle.std.proofs.Common.{inl, inr, refl, ap, sym, ◌∙◌}
use Rattle.std.proofs.lemmas.Bool.{false≢true}
use Rattle.std.proofs.lemmas.Option.{same_Some}
use Rattle.std.specs.List.{Contains}
use Rattle.conda_base.specs.Texts.{Ascending}
use Rattle.conda_record.specs.Records.{key_of}
use Rattle.conda_record.specs.declared.noarch.Noarch.{Noarch}
use Rattle.conda_meta.specs.Folds.{last_of}
use Rattle.conda_meta.specs.Reading.{dists_of}
use Rattle.conda_meta.specs.declared.folding.Folded.{Folded}
use Rattle.conda_meta.specs.declared.linked.Linked.{Linked}
use Rattle.conda_linking.specs.Linking.{HasNewPython, HasSame, IsNewOne, IsToLink}
use Rattle.conda_linking.proofs.DistLemmas.{alone, found}

-- the package of a key is the last one of its dist
of_key : (now : List Linked) (one other : Linked) → Ascending (dists_of now) → Contains now other → key_of other.rec ≡ key_of one.rec
    → last_of one.rec.dist now ≡ Some other
of_key now one other a m e = alone one.rec.dist now other a m (ap (λ k. k.dist) e)

pub new_one : (kept : Option Folded) (now target : List Linked) (one : Linked) → Ascending (dists_of now)
    → ((other : Linked) → last_of one.rec.dist now ≡ Some other → key_of other.rec ≡ key_of one.rec → ⊥) → IsToLink kept now target one
new_one None now target one a h = inl (λ k. h k.0 (of_key now one k.0 a k.1 k.2) k.2)
new_one (Some kept) now target one a h = λ k. h k.0 (of_key now one k.0 a k.1 k.2) k.2

pub linked_again : (now target : List Linked) (one had : Linked) (again new_python : Bool) → last_of one.rec.dist now ≡ Some had
    → key_of had.rec ≡ key_of one.rec → (IsTrue new_python ↔ HasNewPython now target)
    → (IsTrue again ↔ ((one.rec.noarch ≡ Noarch.Python) × IsTrue new_python)) → IsTrue again ↔ IsNewOne now target one
linked_again now target one had again new_python is key python says =
    (λ t. let h = says.0 t in inr (h.0, python.0 h.1), λ n. by n)
  where
    by : IsNewOne now target one → IsTrue again
    by (inl lacks) = absurd (lacks (had, (found one.rec.dist now had is).among, key))
    by (inr h) = says.1 (h.0, python.1 h.1)

pub other_goods : (now : List Linked) (one had : Linked) (same : Bool) → Ascending (dists_of now) → last_of one.rec.dist now ≡ Some had
    → key_of had.rec ≡ key_of one.rec → (IsTrue same ↔ (had.goods ≡ one.goods)) → IsTrue (not same) ↔ (HasSame now one → ⊥)
other_goods now one had same a is key says = by same says
  where
    by : (v : Bool) → (IsTrue v ↔ (had.goods ≡ one.goods)) → IsTrue (not v) ↔ (HasSame now one → ⊥)
    by true says = (λ e. absurd (false≢true e), λ none. absurd (none (had, (found one.rec.dist now had is).among, key, says.0 refl)))
    by false says = (
      λ e s. false≢true (says.1 (ap (λ (p : Linked). p.goods)
          (same_Some had s.0 (sym is ∙ of_key now one s.0 a s.1 s.2)) ∙ s.3)),
      λ none. refl,
    )
