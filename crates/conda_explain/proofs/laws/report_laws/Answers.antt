use Rattle.conda_explain.proofs.Facts.{covers_law, first_law, named_law, numbers_law, once_law, only_law, order_law, refuted_law}
use Rattle.conda_explain.proofs.laws.report_laws.Goals as goal

pub returns-clause-refuted : goal.returns-clause-refuted
returns-clause-refuted c = refuted_law

pub returns-clause-covers : goal.returns-clause-covers
returns-clause-covers c = covers_law

pub returns-clause-only : goal.returns-clause-only
returns-clause-only c = only_law

pub returns-clause-named : goal.returns-clause-named
returns-clause-named c = named_law

pub returns-clause-order : goal.returns-clause-order
returns-clause-order c = order_law

pub returns-clause-first : goal.returns-clause-first
returns-clause-first c = first_law

pub returns-clause-numbers : goal.returns-clause-numbers
returns-clause-numbers c = numbers_law

pub returns-clause-once : goal.returns-clause-once
returns-clause-once c = once_law
