use Rattle.std.proofs.Common.{◌↔◌, subst}
use Rattle.std.specs.List.{Contains}
use Rattle.std.specs.Prelude.{option_copied}
use Rattle.conda_meta.specs.Reading.{dists_of}
use Rattle.conda_linking.specs.Linking.{IsToLink}
use Rattle.conda_linking.proofs.revision.revision_to.Goals as goal

pub returns : goal.returns
returns c = record {
  linked = λ one.
      subst (λ target. Contains c.in_ok-linked.field-0 one ↔
      (Contains target one × IsToLink (option_copied c.args.kept) c.args.now.now.linked target one))
      c.as_slice-wanted.ensures
      (subst (λ now. Contains c.in_ok-linked.field-0 one
      ↔ (Contains c.as_slice-wanted.result.now one × IsToLink (option_copied c.args.kept) now c.as_slice-wanted.result.now one))
      c.as_slice-have.ensures (c.in_ok-linked.ensures.linked one));
  by_dist = c.in_ok-linked.ensures.by_dist;
  unlinked = λ dist.
      subst (λ target. Contains c.in_ok-unlinked.field-0 dist ↔
      (Contains (dists_of c.args.now.now.linked) dist × (Contains (dists_of target) dist → ⊥)))
      c.as_slice-wanted.ensures
      (subst (λ now. Contains c.in_ok-unlinked.field-0 dist
      ↔ (Contains (dists_of now) dist × (Contains (dists_of c.as_slice-wanted.result.now) dist → ⊥)))
      c.as_slice-have.ensures (c.in_ok-unlinked.ensures.unlinked dist));
  dists = c.in_ok-unlinked.ensures.by_dist;
  requested = c.in_ok-copy.ensures;
}
