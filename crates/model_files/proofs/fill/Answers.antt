-- The words of the records, then those of the cuts behind them.
use native.Mathlib.Omega.{arith}
use Rattle.files.proofs.ModelReading.{body_passed, all_filled}
use Rattle.model_files.proofs.Filling.{five, cuts_ready}
use Rattle.model_files.proofs.fill.Goals as goal

pub fill_cuts-requires : goal.fill_cuts-requires
fill_cuts-requires c =
    let p = c.requires in
    rw (c.cuts_from.ensures, c.locations-count.ensures, c.cut_at-to.ensures) (cuts_ready _ _ p.0.head (body_passed _ _ p.1) _ (omega (arith, p.0.room)))

pub returns : goal.returns
returns c =
    let a = c.args in
    all_filled a.file.now a.head.now (five c.requires.0) a.words.now _ _ c.fill_records.ensures
    (rw (c.cuts_from.ensures, c.locations-count.ensures, c.cut_at-to.ensures) at c.fill_cuts.ensures)
