use Rattle.std.proofs.Common.{◌≡◌, ◌≤◌, ap, arith, nat_abs}
use Rattle.std.proofs.lemmas.Int.{ints, to_z-of_z}
use lib.IntN.{neg_ℤ}
use Rattle.integers.specs.Rounding.{floor_z, ceil_z}
use Rattle.integers.proofs.Signed.{abs_neg, floor_abs, zero_minus}
use Rattle.integers.proofs.ceil_div.Goals as goal

got : (c : goal.After-floor_div) → c.floor_div.result ≡ floor_z (neg_ℤ c.args.z) c.args.d
got c = grind (arith, ints, to_z-of_z, zero_minus)

small : (c : goal.After-floor_div) → nat_abs c.floor_div.result ≤ 4000000000
small c = omega (arith, ap nat_abs (got c), floor_abs (neg_ℤ c.args.z) c.args.d, abs_neg c.args.z)

pub overflow_sub-result : goal.overflow_sub-result
overflow_sub-result c = grind (arith, ints, small c)

pub returns : goal.returns
unfolding ceil_z
returns c = grind (arith, ints, to_z-of_z, zero_minus, got c, small c)
