use Rattle.std.proofs.Common.{◌∙◌, ap}
use Rattle.std.proofs.lemmas.Bool.Decides.{same_from_decides}
use Rattle.std.proofs.lemmas.Slice.Eq.{bytes_eq-Decides}
use Rattle.std.specs.Str.{bytes_eq}
use Rattle.conda_encode.specs.Matching.{lowered}
use Rattle.conda_sources.proofs.virtuals.have_one_name.Goals as goal

pub returns : goal.returns
returns c =
    same_from_decides c.eq_ignore_ascii_case.result _ c.eq_ignore_ascii_case.ensures.test
    (bytes_eq-Decides (lowered c.as_str.result.now) (lowered c.as_str-2.result.now))
    ∙ ap (λ name. bytes_eq (lowered name) (lowered c.as_str-2.result.now)) c.as_str.ensures
    ∙ ap (λ name. bytes_eq (lowered c.args.one.now.name) (lowered name)) c.as_str-2.ensures
