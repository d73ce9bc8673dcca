-- Components as spans of one list of runs, this project's own.
use Rattle.std.specs.Prelude.{List, ◌≤◌, map, length}
use Rattle.std.specs.List.{AllByRecursion, slice_range}
use Rattle.conda_version.specs.declared.run.Run.{Run}
use Rattle.conda_version.specs.declared.components.Span.{Span}

-- the runs of each span
abbrev pub cut : List Run → List Span → List (List Run)
cut runs spans = map (λ s. slice_range runs s.start s.end) spans

-- each span lies in the list
abbrev pub AreSpans : List Run → List Span → Type 0
AreSpans runs spans = AllByRecursion (λ s. (s.start ≤ s.end) × (s.end ≤ length runs)) spans
