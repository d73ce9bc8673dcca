use Rattle.std.proofs.Common.{◌++◌, ap, sym, ◌∙◌}
use Rattle.conda_mem.proofs.FolderLemmas.{ending, no_ending, no_cut, other_cut, is_index}
use Rattle.conda_mem.proofs.folders.folder_in.Goals as goal

pub returns-in_default-clause-none : goal.returns-in_default-clause-none
returns-in_default-clause-none c = no_ending c.args.subdir.now c.args.path.now c.in_default.ensures.cases

pub returns-in_default-cut_last-clause-none : goal.returns-in_default-cut_last-clause-none
returns-in_default-cut_last-clause-none c =
    let h = c.in-Some.ensures.cases in
    no_cut c.cut_laws.ensures.last c.args.subdir.now c.args.path.now c.in-Some.front.now (h.1.1 ∙ ap (λ f. f ++ ending) (sym h.2)) c.in_default-cut_last.ensures.cut

pub returns-then-is_in-clause-some : goal.returns-then-is_in-clause-some
returns-then-is_in-clause-some c =
    let h = c.in-Some.ensures.cases in
    is_index c.cut_laws.ensures.last c.args.subdir.now c.args.path.now c.in-Some.front.now c.in-Some-cut_last.folder.now c.in-Some-cut_last.name.now (h.1.1 ∙ ap (λ f. f ++ ending) (sym h.2)) c.in-Some-cut_last.ensures.cut (sym c.is_in.ensures ∙ c.if-is_in.true)

pub returns-clause-none : goal.returns-clause-none
returns-clause-none c =
    let h = c.in-Some.ensures.cases in
    other_cut c.cut_laws.ensures.last c.args.subdir.now c.args.path.now c.in-Some.front.now c.in-Some-cut_last.folder.now c.in-Some-cut_last.name.now (h.1.1 ∙ ap (λ f. f ++ ending) (sym h.2)) c.in-Some-cut_last.ensures.cut (sym c.is_in.ensures ∙ c.if-is_in.false)
