-- Each turn fills in the words of one location more.
use native.Mathlib.Omega.{arith}
use Rattle.plant.proofs.Positions.{row_within}
use Rattle.model_files.proofs.CutTurns.{filled_none, next_there, filled_more, filled_all}
use Rattle.model_files.proofs.fill_cuts.Goals as goal

pub loop-l-init : goal.loop-l-init
loop-l-init c = filled_none _ _ _ _ _ c.requires

pub fill_cut-at-requires : goal.fill_cut-at-requires
fill_cut-at-requires c =
    (next_there _ _ _ _ _ c.requires c.loop-l.invariant c.loop-l-test.true, omega (arith, row_within 2 c.loop-l-test.true, c.requires.room))

pub loop-l-preserved : goal.loop-l-preserved
loop-l-preserved c = filled_more _ _ _ _ _ c.requires c.loop-l.invariant c.loop-l-test.true c.fill_cut-at.ensures.words c.fill_cut-at.ensures.next

pub returns : goal.returns
returns c = filled_all c.loop-l.invariant (omega arith)
