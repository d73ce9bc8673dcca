-- Lemmas on components as spans of one list of runs.
use Rattle.std.proofs.Common.{◌≡◌, ℕ, ◌+◌, ◌-◌, ◌≤◌, List, [], ◌∷◌, ◌++◌, length, take, drop, refl, ap, ◌∙◌, arith, length-drop}
use Rattle.std.proofs.lemmas.List.{take-append-le, drop-append-le, map-append}
use Rattle.std.proofs.Math.Seq.{drop-append_seam, take-length}
use Rattle.std.specs.List.{slice_range}
use Rattle.conda_version.specs.declared.run.Run.{Run}
use Rattle.conda_version.specs.declared.components.Span.{Span}
use Rattle.conda_version.specs.Spans.{cut, AreSpans}

-- a range of the front of a list
pub range_of_front : {X : Type 0} (xs ys : List X) (i j : ℕ) → i ≤ j → j ≤ length xs → slice_range (xs ++ ys) i j ≡ slice_range xs i j
range_of_front xs ys i j h k =
    let i_in : i ≤ length xs = omega arith in
    let j_in : j - i ≤ length (drop i xs) = omega (arith, length-drop i xs) in
    ap (take (j - i)) (drop-append-le i xs ys i_in) ∙ take-append-le (j - i) (drop i xs) ys j_in

pub cut_of_more : (runs more : List Run) (spans : List Span) → AreSpans runs spans → cut (runs ++ more) spans ≡ cut runs spans
cut_of_more runs more [] h = refl
cut_of_more runs more (s ∷ spans) h =
    ap (λ r. r ∷ cut (runs ++ more) spans) (range_of_front runs more s.start s.end h.0.0 h.0.1)
    ∙ ap (λ rs. slice_range runs s.start s.end ∷ rs) (cut_of_more runs more spans h.1)

whole_range : (runs more : List Run) (n : ℕ) → n ≡ length runs + length more → slice_range (runs ++ more) (length runs) n ≡ more
whole_range runs more n e =
    let size : n - length runs ≡ length more = omega arith in
    ap (take (n - length runs)) (drop-append_seam runs more) ∙ ap (λ k. take k more) size ∙ take-length more

-- the span of what was added
pub cut_of_push : (runs more : List Run) (spans : List Span) (s : Span) → AreSpans runs spans → s.start ≡ length runs
    → s.end ≡ length runs + length more
    → cut (runs ++ more) (spans ++ s ∷ []) ≡ cut runs spans ++ more ∷ []
cut_of_push runs more spans s h b e =
    map-append (λ p. slice_range (runs ++ more) p.start p.end) spans (s ∷ [])
    ∙ ap (λ rs. rs ++ slice_range (runs ++ more) s.start s.end ∷ []) (cut_of_more runs more spans h)
    ∙ ap (λ r. cut runs spans ++ r ∷ []) (ap (λ i. slice_range (runs ++ more) i s.end) b ∙ whole_range runs more s.end e)
