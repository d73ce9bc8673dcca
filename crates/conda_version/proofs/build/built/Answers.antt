use Rattle.conda_version.proofs.CutLemmas.{cuts}
use Rattle.std.proofs.Common.{ap, sym, subst, ◌∙◌}
use Rattle.std.specs.Prelude.{IfSome}
use Rattle.std.specs.Option.{option_map}
use Rattle.conda_version.specs.Grammar.{HasShortRuns}
use Rattle.conda_version.proofs.PartLemmas.{short_local, short_main}
use Rattle.conda_version.proofs.build.built.Goals as goal

pub add_components-requires : goal.add_components-requires
add_components-requires c =
    subst HasShortRuns (sym (c.as_slice.ensures.value ∙ c.requires.main))
    (short_main (cuts c.cut_laws.ensures.first c.cut_laws.ensures.no_first) c.args.text.now c.requires.short)

pub add_components-requires-in-Some : goal.add_components-requires-in-Some
add_components-requires-in-Some c =
    let part = ap (option_map (λ v. v.items)) (sym c.in-Some.is) ∙ c.requires.local in
    let short =
    subst (λ local. IfSome local HasShortRuns) (sym part)
    (short_local (cuts c.cut_laws.ensures.first c.cut_laws.ensures.no_first) c.args.text.now c.requires.short) in
    subst HasShortRuns (sym c.as_slice-in-Some.ensures.value) short
