use Rattle.std.proofs.Common.{◌∙◌, string_bytes}
use Rattle.conda_encode.proofs.Splits.{all_more, split_again}
use Rattle.conda_encode.proofs.known.Known.split.Goals as goal

pub returns-in-Some-clause-split : goal.returns-in-Some-clause-split
returns-in-Some-clause-split c = (
  c.in-Some.ensures.0,
  λ d.
      split_again c.args.pools.now c.args.spec.now _ (string_bytes c.in-Ok.text) (c.requires.known.splits c.in-Some.at d c.in-Some.ensures.0)
      (c.in-Some.ensures.1 d ∙ c.from_string-text.ensures) c.in-Ok.ensures.again,
)

pub returns-clause-known : goal.returns-clause-known
returns-clause-known c = record {
  starts = c.requires.known.starts;
  splits = all_more c.args.pools.now c.args.self.now.splits.items c.in_ok-split.split _ c.in_ok-push.ensures.items c.requires.known.splits
      (c.args.spec.now, c.in_ok-split.ensures);
}
