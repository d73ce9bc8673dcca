use Rattle.std.proofs.Common.{ap, ◌∙◌, ◌++◌, lit<, string_bytes}
use Rattle.std.proofs.lemmas.Str.{encode_ascii}
use Rattle.conda_history.proofs.PushLemmas.{parts_pushed}
use Rattle.conda_history.proofs.stamp.Stamp.push_text.Goals as goal

pub returns : goal.returns
returns c =
    parts_pushed _ _ _ _ _ _ c.in_ok-push_date.ensures
    (c.in_ok-push.ensures.bytes ∙ ap (λ e. string_bytes c.push_date.new.text ++ e) (encode_ascii 32 (lit< tt))) c.in_ok-push_time.ensures
