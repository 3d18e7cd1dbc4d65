-- Where the records stand in a model's words.
use Rattle.plant.proofs.Positions.{locations_small, switches_small, forbiddens_small, location_small, switch_small, forbidden_small, location_within, switch_within, forbidden_within, cut-within, length-invariant}
use Rattle.records.proofs.Walls.{wall_at}

pub ruleset places = (locations_small, switches_small, forbiddens_small, location_small, switch_small, forbidden_small, location_within, switch_within, forbidden_within, cut-within, length-invariant, wall_at)
