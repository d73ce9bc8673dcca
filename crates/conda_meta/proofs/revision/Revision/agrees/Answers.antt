use Rattle.std.proofs.Common.{sym, ◌∙◌, subst}
use Rattle.conda_base.specs.Texts.{Ascending}
use Rattle.conda_meta.proofs.AgreementLemmas.{agrees_as}
use Rattle.conda_meta.proofs.revision.Revision.agrees.Goals as goal

pub are_joining-requires : goal.are_joining-requires
are_joining-requires c = subst Ascending (sym c.as_slice.ensures ∙ c.are_same.ensures.0 c.if-not-are_same.false) c.requires

pub returns : goal.returns
returns c =
    agrees_as c.args.set.now.keys c.args.block.now c.args.self.now _ _ _ _ c.are_joining.result c.as_slice.ensures c.as_slice-unlinked.ensures
    c.as_slice-3.ensures c.as_slice-2.ensures c.if-block.false (c.are_same.ensures.0 c.if-not-are_same.false) c.are_joining.ensures
