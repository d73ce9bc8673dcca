use Rattle.conda_changes.proofs.LaneLemmas.{are_shares, same_lane}
use Rattle.conda_changes.proofs.laws.lane_laws.Goals as goal

pub returns-clause-path : goal.returns-clause-path
returns-clause-path c = same_lane (record { number = c.trash_laws.ensures.number; only = c.trash_laws.ensures.only })

pub returns-clause-shares : goal.returns-clause-shares
returns-clause-shares c = are_shares (record { number = c.trash_laws.ensures.number; only = c.trash_laws.ensures.only })
