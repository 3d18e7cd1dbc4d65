-- The parts that are lent are of a table's length, and come back in front of the buffers' later words.
use mathlib.Core.Path.{ap, ◌∙◌}
use Prim.Native.Nat.{ℕ}
use lib.IntN.{pos}
use lib.ListN.{replicate}
use lib.Seq.{length_front}
use Rattle.analysis.proofs.Calls.{is_answered}
use Rattle.analysis.proofs.analyse_passed.Goals as goal

pub returns : goal.returns
returns c =
    let work = c.args.work.now in
    let passes = c.counted_passes-answer in
    let clear = c.fill.ensures.after (λ y h. h) in
    is_answered _ _ _ work _ passes.ensures.0 _ passes.ensures.1 _ c.table_size-size.ensures
    _ (clear ∙ ap (λ (n : ℕ). replicate n (pos 0)) (length_front work passes.new.work c.table_size-size.result passes.auto.work))
