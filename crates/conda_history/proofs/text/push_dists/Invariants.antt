use Rattle.std.proofs.Common.{◌≡◌, ◌++◌, drop, take}
use Rattle.std.specs.Prelude.{IsUtf8}
use Rattle.std.specs.List.{AllByRecursion, flat_map}
use Rattle.conda_history.specs.Texts.{ended}
use Rattle.conda_history.proofs.text.push_dists.Given as goal

-- the text so far, and the lines of what is left; the dists so far are texts
abbrev pub invariant-loop-dist : goal.invariant-loop-dist
invariant-loop-dist l = record {
  text : l.text.items ++ flat_map (λ dist. l.sign ++ ended dist) (drop l.dist-index l.dists)
      ≡ l.fn.text.items ++ flat_map (λ dist. l.sign ++ ended dist) l.dists;
  texts : AllByRecursion IsUtf8 (take l.dist-index l.dists);
}
