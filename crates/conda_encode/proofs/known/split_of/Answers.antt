use Rattle.std.proofs.Common.{◌∙◌, ap, arith, length}
use Rattle.conda_encode.proofs.Splits.{split_nowhere, split_there, start_fits}
use Rattle.conda_encode.proofs.Starts.{length-starts}
use Rattle.conda_encode.proofs.known.split_of.Goals as goal

pub returns-in_default : goal.returns-in_default
returns-in_default c =
    split_nowhere c.args.pools.now c.args.spec.now _ c.in_ok-name.name c.requires.pools c.requires.plain (c.in_ok-name.ensures ∙ c.name.ensures) c.in_default.ensures
    c.requires.text c.new.ensures.items c.new-in_default.ensures.items

pub bounds-starts-at : goal.bounds-starts-at
bounds-starts-at c =
    omega (arith, c.in-Some.ensures.0, ap length c.requires.starts, length-starts 1 c.args.pools.now)

pub named_of-requires : goal.named_of-requires
named_of-requires c =
    start_fits c.args.pools.now c.args.starts.now c.in-Some.at c.index-pools-at.result c.as_slice-recs.result.now c.requires.pools c.requires.starts c.in-Some.ensures.0
    c.as_slice-recs.ensures

pub barred_of-requires : goal.barred_of-requires
barred_of-requires c =
    start_fits c.args.pools.now c.args.starts.now c.in-Some.at c.index-pools-at.result c.as_slice-recs.result.now c.requires.pools c.requires.starts c.in-Some.ensures.0
    c.as_slice-recs.ensures

pub returns : goal.returns
returns c =
    split_there c.args.pools.now c.args.spec.now _ c.in_ok-name.name c.args.starts.now c.in-Some.at c.index-pools-at.result c.as_slice-recs.result.now
    c.requires.pools c.requires.plain (c.in_ok-name.ensures ∙ c.name.ensures) c.in-Some.ensures c.requires.text c.requires.starts
    c.as_slice-recs.ensures c.in_ok-named.ensures c.in_ok-barred.ensures
