-- A refusal zeroes all words; else the table stands in front.
use mathlib.Core.List.{◌++◌}
use mathlib.Core.Path.{◌≡◌}
use borrow.Author.Rules.{rules}
use lib.IntN.{pos}
use lib.ListN.{length, drop, replicate}
use Rattle.plant.proofs.Passing.{whole}
use Rattle.table_files.proofs.TableReading.{faces_refused, faces_read}
use Rattle.table_files.proofs.reading.read_faces.Goals as goal

pub table_size-size-requires : goal.table_size-size-requires
table_size-size-requires c = whole _ c.requires.passes

pub returns-in-Err : goal.returns-in-Err
returns-in-Err c =
    let a = c.args in
    let zeros : c.fill.new.self ≡ replicate (length (c.read_words.new.table ++ drop c.table_size-size.result a.table.now)) (pos 0) = search rules in
    faces_refused a.model.now a.file.now a.table.now c.read_words.new.table c.table_size-size.result c.in-Err.refusal c.in-Err.ensures.questions c.read_words.auto.table zeros

pub returns : goal.returns
returns c = let a = c.args in faces_read a.model.now a.file.now a.table.now c.read_words.new.table c.table_size-size.result c.in_default.ensures.questions c.table_size-size.ensures c.in_default.ensures.words
