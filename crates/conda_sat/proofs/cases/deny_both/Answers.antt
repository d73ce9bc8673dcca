use Rattle.conda_refute.specs.Refutation.{clauses_of}
use Rattle.std.proofs.Common.{false, true}
use Rattle.conda_sat.specs.Answers.{literal_at}
use Rattle.conda_sat.proofs.CasesLemmas.{both_follow, ended_with}
use Rattle.conda_sat.proofs.cases.deny_both.Goals as goal

pub put-requires : goal.put-requires
put-requires c =
    let given = c.requires.hints in
    let free = c.requires.free in
    rw (c.in_ok-clause.ensures, given.2)
    (both_follow (clauses_of c.args.ledger.now.inputs c.args.ledger.now.steps) c.args.decided.now (literal_at c.args.next true) given.0 given.1
    c.requires.decided.apart (free true) (free false) given.3 given.4)

pub returns-clause-ends : goal.returns-clause-ends
returns-clause-ends c = ended_with c.args.ledger.now.steps c.put.new.self.steps (record { clause = c.in_ok-clause.clause; hints = c.args.hints }) _ c.in_ok-put.ensures.ok c.in_ok-clause.ensures
