-- The product is the formula.
use Rattle.std.proofs.Common.{rules}
use Rattle.plant.specs.Tables.{words_per_location}
use Rattle.tables.proofs.words_per_location.Goals as goal

pub returns : goal.returns
unfolding words_per_location
returns c = search rules
