use Rattle.std.proofs.Common.{◌≡◌, ◌≤◌, ◌+◌, ◌*◌, true, ◌||◌, length, map}
use Rattle.conda_clause.specs.Glob.{glob_matches, letter, some_end}
use Rattle.conda_clause.proofs.GlobLemmas.{later}
use Rattle.conda_clause.proofs.star.is_of.Given as goal

abbrev pub invariant-loop-rest : goal.invariant-loop-rest
invariant-loop-rest l =
    record {
      whole : glob_matches l.fn.pattern (map (letter l.letters) l.fn.text)
          ≡ (glob_matches l.pattern_left (map (letter l.letters) l.left) || later (glob_matches l.behind_star)
          (map (letter l.letters) l.star_left));
      last_star : later (glob_matches l.behind_star) (map (letter l.letters) l.star_left) ≡ true
          → some_end (glob_matches l.pattern_left) (map (letter l.letters) l.left) ≡ true;
      pattern_len : length l.pattern_left ≤ length l.behind_star;
      star_len : length l.behind_star ≤ length l.fn.pattern;
      left_len : length l.left ≤ length l.fn.text;
      text_len : length l.star_left ≤ length l.fn.text;
    }

abbrev pub decreases-loop-rest : goal.decreases-loop-rest
decreases-loop-rest l =
    length l.behind_star * ((length l.fn.text + 1) * (length l.fn.pattern + 1)) + length l.star_left *
    (length l.fn.pattern + 1) + length l.pattern_left
