use Rattle.std.proofs.Common.{subst}
use Rattle.conda_placing.specs.Content.{HasShortPadding}
use Rattle.conda_placing.proofs.filling.content.Goals as goal
use Rattle.conda_placing.proofs.filling.content.Goals.{in-Entry+in_ok-made-in-Entry, in-Row+in_ok-made-in-Row}

pub returns-clause-room : goal.returns-clause-room
returns-clause-room c = λ path have need.
    elim c.match-placing.branch [
      | in-Row+in_ok-made-in-Row w ↦ λ short. w.in_ok-made-in-Row.ensures.room path have need
          (subst (λ from. HasShortPadding c.args.pkg.now c.args.prefix.now from c.args.bytes.items path have need) w.in-Row.is short)
      | in-Entry+in_ok-made-in-Entry w ↦ λ short.
          subst (λ from. HasShortPadding c.args.pkg.now c.args.prefix.now from c.args.bytes.items path have need) w.in-Entry.is short
    ]
