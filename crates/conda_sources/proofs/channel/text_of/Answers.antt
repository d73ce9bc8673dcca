use Rattle.std.proofs.Common.{◌+◌, ◌∙◌}
use Rattle.std.specs.Prelude.{option_map}
use Rattle.conda_sources.proofs.TextLemmas.{told_text}
use Rattle.conda_sources.specs.Reading.{repodata_limit}
use Rattle.conda_sources.proofs.channel.text_of.Goals as goal

pub returns-in-Ok-clause-text : goal.returns-in-Ok-clause-text
returns-in-Ok-clause-text g c =
    told_text (repodata_limit + 1) (g.C.Chan.files c.args.chan.now.inner) c.args.subdir.now _ (option_map (λ bytes. bytes.items) c.in-Ok.text)
    (c.as_str.ensures ∙ c.in_ok-path.ensures) c.in-Ok.ensures.bytes
