use Rattle.std.proofs.Common.{◌≡◌, ◌∷◌, length, map, arith, sym, ap, ◌∙◌}
use Rattle.std.specs.Prelude.{◌||◌}
use Rattle.conda_clause.specs.Glob.{glob_matches, letter, some_end}
use Rattle.conda_clause.proofs.GlobLemmas.{at_char, at_char_last, at_star, at_star_last, later, star_falls}
use Rattle.conda_clause.proofs.star.is_of.Goals as goal

pub loop-rest-smaller-in-Some-eq42-default : goal.loop-rest-smaller-in-Some-eq42-default
loop-rest-smaller-in-Some-eq42-default c =
    let one = c.in-Some-eq42-default.ensures.cases.1 in
    let inv = c.loop-rest.invariant in
    let fell =
    star_falls (length c.loop-rest.behind_star.now) (length c.in-Some-eq42-default.rest.now) (length c.loop-rest.left.now)
    (length c.loop-rest.star_left.now)
    (length c.args.pattern.now) (length c.args.text.now) (omega (arith, one, inv.pattern_len)) inv.left_len
    (omega (arith, one, inv.pattern_len, inv.star_len)) in
    omega (arith, fell, one)

pub loop-rest-preserved-in-Some-eq42-default : goal.loop-rest-preserved-in-Some-eq42-default
loop-rest-preserved-in-Some-eq42-default c =
    let one = c.in-Some-eq42-default.ensures.cases.1 in
    let inv = c.loop-rest.invariant in
    let rest = c.in-Some-eq42-default.rest.now in
    let left = map (letter c.args.letters) c.loop-rest.left.now in
    let behind = c.loop-rest.behind_star.now in
    let star_left = map (letter c.args.letters) c.loop-rest.star_left.now in
    let is : c.loop-rest.pattern_left.now ≡ 42 ∷ rest =
    c.in-Some-eq42-default.ensures.cases.0 ∙ ap (λ x. x ∷ rest) c.in-Some-eq42-default.field-0-0-test in
    record {
      whole = at_star (glob_matches c.args.pattern.now (map (letter c.args.letters) c.args.text.now)) rest behind left star_left
          (inv.whole ∙ ap (λ p. glob_matches p left || later (glob_matches behind) star_left) is)
          (λ k. sym (ap (λ p. some_end (glob_matches p) left) is) ∙ inv.last_star k);
      last_star = at_star_last rest left;
      pattern_len = omega arith;
      star_len = omega (arith, one, inv.pattern_len, inv.star_len);
      left_len = inv.left_len;
      text_len = inv.left_len;
    }

pub loop-rest-preserved-then-letter-c : goal.loop-rest-preserved-then-letter-c
loop-rest-preserved-then-letter-c c =
    let one = c.in-Some.ensures.cases.1 in
    let other = c.in-Some-split_first.ensures.cases.1 in
    let inv = c.loop-rest.invariant in
    let rest = c.in-Some.rest.now in
    let letters = letter c.args.letters in
    let left = map letters c.in-Some-split_first.text_rest.now in
    let behind = c.loop-rest.behind_star.now in
    let star_left = map letters c.loop-rest.star_left.now in
    let is = c.in-Some.ensures.cases.0 in
    let same : letters c.in-Some-split_first.b.now ≡ c.in-Some.c.now = sym c.letter.ensures ∙ c.if-letter-c.true in
    let left_is = ap (map letters) c.in-Some-split_first.ensures.cases.0 in
    let both = ap (λ p. glob_matches p (map letters c.loop-rest.left.now)) is ∙ ap (glob_matches (c.in-Some.c.now ∷ rest)) left_is in
    record {
      whole =
          at_char (glob_matches c.args.pattern.now (map letters c.args.text.now)) (later (glob_matches behind) star_left) c.in-Some.c.now
          (letters c.in-Some-split_first.b.now) rest left c.in-Some.c-test.1 same
          (inv.whole ∙ ap (λ q. q || later (glob_matches behind) star_left) both);
      last_star = λ k. at_char_last c.in-Some.c.now (letters c.in-Some-split_first.b.now) rest left c.in-Some.c-test.1
          (sym (ap (λ p. some_end (glob_matches p) (map letters c.loop-rest.left.now)) is
          ∙ ap (some_end (glob_matches (c.in-Some.c.now ∷ rest))) left_is) ∙ inv.last_star k);
      pattern_len = omega (arith, one, inv.pattern_len);
      star_len = inv.star_len;
      left_len = omega (arith, other, inv.left_len);
      text_len = inv.text_len;
    }
