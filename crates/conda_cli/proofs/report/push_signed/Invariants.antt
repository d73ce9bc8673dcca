use Rattle.std.specs.Prelude.{◌≡◌, ◌++◌, ◌∷◌, flat_map, drop, string_bytes}
use Rattle.conda_history.specs.Texts.{ended}
use Rattle.conda_cli.proofs.report.push_signed.Given as goal

-- the text so far, and the lines of what is left
abbrev pub invariant-loop-dist : goal.invariant-loop-dist
invariant-loop-dist l =
    string_bytes l.text ++ flat_map (λ dist. l.sign ∷ ended dist) (drop l.dist-index l.dists)
    ≡ string_bytes l.fn.text ++ flat_map (λ dist. l.sign ∷ ended dist) l.dists
