use Rattle.conda_prefix.proofs.RunLemmas.{no_run, no_nul, run_at}
use Rattle.conda_prefix.proofs.binary.first_run.Goals as goal

pub returns-in-Some-memchr : goal.returns-in-Some-memchr
returns-in-Some-memchr c =
    let ends = rw (c.split_at-in-Some.ensures.back, c.split_at.ensures.back, c.requires.width) at c.in-Some-memchr.ensures in
    rw (c.split_at.ensures.front, c.split_at-in-Some-memchr-2.ensures.back, c.split_at-in-Some-memchr.ensures.front, c.split_at-in-Some-memchr.ensures.back, c.split_at.ensures.back, c.requires.width)
    (run_at c.args.placeholder.now c.args.bytes.now c.in-Some.start c.in-Some-memchr.more c.in-Some.ensures ends)

pub returns-in-None-memchr : goal.returns-in-None-memchr
returns-in-None-memchr c =
    no_nul c.args.placeholder.now c.args.bytes.now c.in-Some.start c.in-Some.ensures
    (rw (c.split_at-in-Some.ensures.back, c.split_at.ensures.back, c.requires.width) at c.in-None-memchr.ensures)

pub returns-in-None : goal.returns-in-None
returns-in-None c = no_run c.args.placeholder.now c.args.bytes.now c.in-None.ensures
