-- The words held are enough for the questions of an analysis; its answer's table is what is written.
use mathlib.Core.Path.{refl}
use Rattle.interface.proofs.Deciding.{is_decided}
use Rattle.host.proofs.Held.{fits}
use Rattle.host.proofs.answer_in.Goals as goal

pub returns : goal.returns
returns g c = is_decided _ _ _ _ (fits _ _ c.requires.2) c.analyse_passed-answer.ensures _ c.table_size-size.ensures refl c.put_table.ensures.bytes
