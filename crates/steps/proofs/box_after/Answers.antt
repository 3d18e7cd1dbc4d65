use Rattle.std.proofs.Common.{◌≡◌, arith}
use Rattle.std.proofs.lemmas.Int.{to_z-of_z}
use mir.Syntax.{w64}
use Rattle.integers.proofs.Signed.{fits32, got64}
use Rattle.plant.specs.Steps.{box_after}
use Rattle.delays.proofs.Small.{in_levels}
use Rattle.steps.proofs.Bounds.{low_after_word, high_after_word}
use Rattle.steps.proofs.Written.{none_yet, one_more}
use Rattle.steps.proofs.Faces.{ends_all, ends_left}
use Rattle.steps.proofs.box_after.Goals as goal

pub loop-i-init : goal.loop-i-init
loop-i-init c = none_yet _ _ _

pub returns-then-is_empty : goal.returns-then-is_empty
unfolding box_after
returns-then-is_empty c =
    let inv = simp (to_z-of_z w64 c.args.b c.ranges.b) at c.loop-i.invariant in
    ends_left _ _ _ inv c.loop-i-test.true (grind (arith, to_z-of_z)) c.requires.0.room

pub put-requires : goal.put-requires
put-requires c =
    let a = c.args in
    let i = c.loop-i.i in
    let r = c.requires.0 in
    let l = c.loop-i-test.true in
    let low = low_after_word a.n a.inv.now a.rate.now a.part.now a.d a.b a.t i (r.inv_in i l) (r.rate_in i l) (in_levels r.inv_in r.part_lies_in i l) r.wall_in c.requires.1 in
    let high = high_after_word a.n a.inv.now a.rate.now a.part.now a.d a.b a.t i (r.inv_in i l) (r.rate_in i l) (in_levels r.inv_in r.part_lies_in i l) r.wall_in c.requires.1 in
    grind (arith, to_z-of_z, fits32)

pub loop-i-preserved : goal.loop-i-preserved
loop-i-preserved c =
    let x = c.low_after in
    let y = c.high_after in
    rw (c.put.ensures, got64 x.result x.type_inv, got64 y.result y.type_inv, x.ensures c.args.n, y.ensures c.args.n)
    (one_more _ _ c.loop-i.invariant (omega arith) (grind (arith, to_z-of_z)))

pub returns : goal.returns
unfolding box_after
returns c =
    let inv = simp (to_z-of_z w64 c.args.b c.ranges.b) at c.loop-i.invariant in
    let e : c.loop-i.i ≡ c.args.n = omega arith in
    ends_all _ _ _ (rw e at inv)
