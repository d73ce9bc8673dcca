use Rattle.std.proofs.Common.{◌≡◌, ◌+◌, List, ℕ, Some, drop, take, ap, sym, ◌∙◌, drop-drop}
use Rattle.conda_version.proofs.CutLemmas.{cut_at_place, no_place}
use Rattle.conda_version.proofs.shape.cut_first.Goals as goal

pub returns-in_err-at-clause-halves : goal.returns-in_err-at-clause-halves
returns-in_err-at-clause-halves c =
    rw c.from_residual.ensures
    (sym ((c.cut_laws.ensures.no_first c.args.mark c.args.bytes.now).1 (no_place c.args.mark c.args.bytes.now c.in_err-at.ensures)))

pub returns-clause-halves : goal.returns-clause-halves
returns-clause-halves c =
    let bytes : List ℕ = c.args.bytes.now in
    let at : ℕ = c.in_ok-at.at in
    let back : c.split_at-2.result.1.now ≡ drop (at + 1) bytes =
    c.split_at-2.ensures.back ∙ ap (drop 1) c.split_at.ensures.back ∙ drop-drop 1 at bytes in
    ap (λ front. Some (front, c.split_at-2.result.1.now)) c.split_at.ensures.front
    ∙ ap (λ rest. Some (take at bytes, rest)) back
    ∙ sym (cut_at_place c.args.mark bytes at c.in_ok-at.ensures)
