-- After a yes to 5 and to 2 to 4 the head may be read, and after one to 5 again the records.
use borrow.Author.Rules.{rules}
use Rattle.model.proofs.Asked.{head_asked, whole_asked}
use Rattle.model.proofs.questions.Goals as goal

pub edition_question-requires : goal.edition_question-requires
edition_question-requires c = search (rules, head_asked)

pub size-requires : goal.size-requires
size-requires c = search (rules, head_asked)

pub records_questions-requires : goal.records_questions-requires
records_questions-requires c = search (rules, head_asked, whole_asked)
