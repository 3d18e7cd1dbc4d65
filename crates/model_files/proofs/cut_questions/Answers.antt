-- After the first yes of 46 the field stands whole.
use borrow.Author.Rules.{rules}
use Rattle.model_files.proofs.CutTurns.{whole_there}
use Rattle.model_files.proofs.cut_questions.Goals as goal

pub cut_words_ok-requires : goal.cut_words_ok-requires
cut_words_ok-requires c = search (rules, whole_there)
