-- What is asked are the words of the file.
use mathlib.Core.Path.{◌≡◌, ap, ◌∙◌}
use native.Mathlib.Omega.{arith}
use lib.ListN.{length, take}
use Rattle.plant.specs.Questions.{records_questions}
use Rattle.plant.proofs.Refusing.{passed_first}
use Rattle.files.specs.ModelFile.{file_words, records_file_questions}
use Rattle.files.proofs.FirstField.{length_head}
use Rattle.files.proofs.ModelReading.{file_whole, front_of}
use Rattle.model_files.proofs.Filling.{five}
use Rattle.model_files.proofs.fill_asked.Goals as goal
use Rattle.model_files.proofs.fill_asked.Goals.{After-size-size}

front : (c : After-size-size) → take c.size-size.result c.fill.new.words ≡ file_words c.args.file.now c.args.head.now
front c = front_of c.args.file.now c.args.head.now (five c.requires) c.args.words.now _ c.size-size.result c.fill.ensures c.size-size.ensures

pub records_questions-requires : goal.records_questions-requires
records_questions-requires c =
    let here = (goal.at.records_questions-requires c).After-size-size in
    rw (front here) (file_whole _ _ (five c.requires) c.requires.head)

pub returns-clause-answer : goal.returns-clause-answer
unfolding records_file_questions
returns-clause-answer c =
    passed_first c.in_ok-body_questions.ensures (c.records_questions.ensures ∙ ap records_questions (front (goal.at.returns-clause-answer c).After-size-size))
