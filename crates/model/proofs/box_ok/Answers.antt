-- The limit as signed words hold it.
use mathlib.Core.Path.{◌≡◌}
use native.Mathlib.Omega.{arith}
use lib.IntN.{pos, neg_ℤ, ◌-ℤ◌}
use mir.Syntax.{w64}
use mir.Val.{to_z, of_z}
use Rattle.std.proofs.lemmas.Int.{ints, to_z-of_z}
use Rattle.plant.specs.Box.{low, high}
use Rattle.plant.specs.Questions.{box_ok}
use Rattle.model.proofs.Turns.{all_more}
use Rattle.model.proofs.box_ok.Goals as goal

pub loop-i-preserved : goal.loop-i-preserved
unfolding box_ok low high
loop-i-preserved c =
    let most = c.args.most in
    let least_is : to_z w64 (of_z w64 (neg_ℤ (to_z w64 most))) ≡ neg_ℤ (pos most) = omega (arith, ints) in
    let most_is : to_z w64 most ≡ pos most = omega (arith, ints) in
    search (arith, ints, to_z-of_z, all_more, least_is, most_is, c.range_ok-ok.ensures, c.loop-i.invariant)
