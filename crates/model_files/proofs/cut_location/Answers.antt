-- The first word of the field, which is no negative number.
use borrow.Author.Rules.{rules}
use Rattle.model_files.proofs.CutTurns.{location_word}
use Rattle.model_files.proofs.cut_location.Goals as goal

pub natural-requires : goal.natural-requires
natural-requires c = search (rules, location_word, c.requires.natural)

pub returns : goal.returns
returns c = search (rules, location_word)
