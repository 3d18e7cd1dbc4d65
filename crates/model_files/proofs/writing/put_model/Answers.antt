-- The records, then the cuts behind them.
use mathlib.Core.Path.{sym, ◌∙◌}
use Rattle.files.proofs.ModelLength.{length_of_file}
use Rattle.model_files.proofs.ModelWriting.{file_put}
use Rattle.model_files.proofs.writing.put_model.Goals as goal

pub returns : goal.returns
returns c =
    let w = c.requires.whole in
    record { bytes = file_put _ w _ _ _ c.put_records.ensures c.put_cuts.ensures.bytes; count = c.put_cuts.ensures.end ∙ sym (length_of_file _ w) }
