-- What contracts see of a shelf.
use Rattle.conda_lane.specs.Supplies.{SupplyState}
use Rattle.rows_environments.specs.Supplies.{supply_of}
use Rattle.rows_environments.specs.declared.shelf.Shelf.{Shelf}

abbrev pub state_of : Shelf → SupplyState
state_of shelf = supply_of shelf.goods.items shelf.kept shelf.channel.count shelf.cache.count shelf.lacks
