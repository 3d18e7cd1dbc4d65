-- The records of a model lie within its words, and their boxes are 2n words long.
use Rattle.plant.proofs.Positions.{cut-within, switch_within, forbidden_within, length-invariant, length-rate, length-start_box, length-guard, length-reset, length-forbidden_box}

pub ruleset places = (cut-within, switch_within, forbidden_within, length-invariant, length-rate, length-start_box, length-guard, length-reset, length-forbidden_box)
