-- The two words of the field are copied, or two words are stored.
use lib.IntN.{negsuc, pos}
use Rattle.model_files.proofs.CutTurns.{words_of_cut, two_stored}
use Rattle.model_files.proofs.fill_cut.Goals as goal

pub returns-then-not-names_location-clause-words : goal.returns-then-not-names_location-clause-words
returns-then-not-names_location-clause-words c =
    rw (← c.if-not-names_location.ensures) (two_stored c.args.words.now c.args.to (negsuc 0) (pos 0) c.requires.1)

pub returns-clause-words : goal.returns-clause-words
returns-clause-words c =
    rw (← c.if-not-names_location.ensures, ← (words_of_cut c.args.file.now c.args.at)) c.copy_words.ensures
