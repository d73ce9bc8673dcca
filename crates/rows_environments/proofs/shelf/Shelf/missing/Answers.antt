use Rattle.std.proofs.Common.{inl}
use Rattle.rows_environments.proofs.Supplies.{some_one}
use Rattle.rows_environments.proofs.shelf.Shelf.missing.Goals as goal

pub returns-clause-cause : goal.returns-clause-cause
returns-clause-cause c =
    inl (some_one _ _ _ (record { rose = c.one_more-self.ensures.rose; last = (c.requires.file, c.requires.nothing) }))
