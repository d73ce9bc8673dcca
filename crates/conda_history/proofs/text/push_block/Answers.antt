use Rattle.conda_history.proofs.PushLemmas.{signed_text, whole_text}
use Rattle.conda_history.proofs.text.push_block.Goals as goal

pub returns-then-block-clause-text : goal.returns-then-block-clause-text
returns-then-block-clause-text c =
    whole_text _ _ _ c.args.block.now _ c.if-block.true c.in_ok-push_header.ensures c.in_ok-push_dists.ensures.text c.as_slice.ensures

pub returns-clause-text : goal.returns-clause-text
returns-clause-text c =
    signed_text _ _ _ _ c.args.block.now _ _ c.if-block.false c.in_ok-push_header.ensures c.in_ok-push_dists-2.ensures.text c.as_slice-2.ensures
    c.in_ok-push_dists-3.ensures.text c.as_slice-3.ensures
