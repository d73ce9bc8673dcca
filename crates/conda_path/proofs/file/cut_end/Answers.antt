use Rattle.std.specs.Prelude.{◌≡◌, ℕ, List, ◌++◌, Option, None, Some, MatchOption}
use Rattle.std.specs.Borrow.{Bor}
use Rattle.std.specs.Str.Pattern.{FindsTextSuffix, StripsSuffix}
use Rattle.conda_path.specs.Files.{before_end}
use Rattle.conda_path.proofs.FileLemmas.{end_found, no_end}
use Rattle.std.proofs.Common.{◌∙◌, sym, ap}
use Rattle.conda_path.proofs.file.cut_end.Goals as goal

stripped : (ending text : List ℕ) (r : Option (Bor (List ℕ))) → MatchOption r (FindsTextSuffix ending text None) (λ x. StripsSuffix (FindsTextSuffix ending) text x.now)
    → MatchOption r (before_end ending text ≡ None) (λ front. before_end ending text ≡ Some front.now)
stripped ending text None h = no_end ending text h
stripped ending text (Some x) h = end_found ending text x.now (h.1.1 ∙ ap (λ f. f ++ ending) (sym h.2))

pub returns : goal.returns
returns c = stripped c.args.ending.now c.args.text.now c.strip_suffix.result c.strip_suffix.ensures.cases
