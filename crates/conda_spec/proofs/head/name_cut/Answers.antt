use Rattle.std.proofs.Common.{◌∙◌, ap}
use Rattle.std.specs.List.{position_or_len}
use Rattle.conda_spec.specs.Parts.{ends_name}
use Rattle.conda_spec.proofs.NameLemmas.{boundary}
use Rattle.conda_spec.proofs.head.name_cut.Goals as goal

pub split_at-requires : goal.split_at-requires
split_at-requires c =
    boundary c.args.text.now c.name_len.result c.utf8.text (c.name_len.ensures ∙ ap (position_or_len ends_name) c.as_bytes.ensures.value)
