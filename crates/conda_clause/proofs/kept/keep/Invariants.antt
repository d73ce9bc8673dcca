use Rattle.std.proofs.Common.{◌≡◌, ◌++◌, ◌+◌, length, map, string_bytes}
use denote.Text.{Utf8}
use denote.Shadow.{shadow}
use Rattle.std.specs.Prelude.{◌==◌}
use Rattle.std.specs.List.{slice_split}
use Rattle.conda_clause.specs.Kept.{kept, kept_runs, places}
use Rattle.conda_clause.proofs.kept.keep.Given as goal

abbrev pub invariant-loop-run : goal.invariant-loop-run
invariant-loop-run l =
    shadow (Utf8 l.left)
    × (l.at + length l.left ≡ length l.text)
    × (string_bytes l.made ++ map (λ m. m.1) (kept_runs l.last l.at (slice_split (λ b. b == 32) l.left)) ≡ kept l.text)
    × (l.places.items ++ map (λ m. m.0) (kept_runs l.last l.at (slice_split (λ b. b == 32) l.left)) ≡ places l.text)

abbrev pub decreases-loop-run : goal.decreases-loop-run
decreases-loop-run l = length l.left
