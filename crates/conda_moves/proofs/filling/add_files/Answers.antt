use Rattle.std.proofs.Common.{[], take, arith, refl, sym, subst}
use Rattle.std.proofs.lemmas.List.{take_all}
use Rattle.conda_moves.specs.Filling.{AreMoves}
use Rattle.conda_moves.proofs.ListLemmas.{next_item}
use Rattle.conda_moves.proofs.MoveLemmas.{one_file}
use Rattle.conda_moves.proofs.filling.add_files.Goals as goal

pub loop-path-preserved : goal.loop-path-preserved
loop-path-preserved c = λ others altered gone are.
    let i = c.loop-path.path-index in
    let paths = c.args.paths.now in
    let text = c.as_str-text.result in
    subst (λ files. AreMoves others altered gone files [] c.insert.new.self)
    (next_item paths i c.path-item.result text.now (omega arith) c.path-item.is c.as_str-text.ensures.same)
    (one_file others altered gone (take i paths) c.loop-path.moves c.insert.new.self text _
    (c.loop-path.invariant others altered gone are)
    c.in_ok-insert.ensures.updates (sym c.as_str-text.ensures.same) refl refl)

pub returns : goal.returns
returns c = λ others altered gone are.
    subst (λ files. AreMoves others altered gone files [] c.loop-path.moves)
    (take_all c.loop-path.path-index c.args.paths.now (omega arith)) (c.loop-path.invariant others altered gone are)
