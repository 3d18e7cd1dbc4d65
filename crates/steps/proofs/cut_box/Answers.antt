use Rattle.std.proofs.Common.{◌≡◌, arith}
use Rattle.integers.proofs.Signed.{fits32}
use Rattle.plant.specs.Box.{cut}
use Rattle.delays.proofs.Small.{level_max, level_min}
use Rattle.steps.proofs.Written.{none_yet, one_more}
use Rattle.steps.proofs.Faces.{ends_all, ends_left}
use Rattle.steps.proofs.cut_box.Goals as goal

pub loop-i-init : goal.loop-i-init
loop-i-init c = none_yet _ _ _

pub returns-then-is_empty : goal.returns-then-is_empty
unfolding cut
returns-then-is_empty c = ends_left _ _ _ c.loop-i.invariant c.loop-i-test.true (grind arith) c.requires.room

pub put-requires : goal.put-requires
put-requires c =
    let a = c.requires.a_in c.loop-i.i c.loop-i-test.true in
    let b = c.requires.b_in c.loop-i.i c.loop-i-test.true in
    grind (arith, fits32, level_max, level_min)

pub loop-i-preserved : goal.loop-i-preserved
loop-i-preserved c =
    rw (c.put.ensures, c.cut-range.ensures, c.at.ensures, c.at-in-loop-i.ensures) (one_more _ _ c.loop-i.invariant (omega arith) (grind arith))

pub returns : goal.returns
unfolding cut
returns c = let e : c.loop-i.i ≡ c.args.n = omega arith in ends_all _ _ _ (rw e at c.loop-i.invariant)
