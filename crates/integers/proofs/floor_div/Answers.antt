-- A quotient by 1 is the number itself; else the sign decides.
use Rattle.std.proofs.Common.{arith}
use Rattle.std.proofs.lemmas.Int.{ints, to_z-of_z}
use Rattle.integers.proofs.Signed.{floor_neg, floor_pos, floor_one}
use Rattle.integers.proofs.floor_div.Goals as goal

pub returns-then-d-eq1 : goal.returns-then-d-eq1
returns-then-d-eq1 c = grind (arith, ints, to_z-of_z, floor_one)

pub returns-then-z-lt0 : goal.returns-then-z-lt0
returns-then-z-lt0 c = grind (arith, ints, to_z-of_z, floor_neg)

pub returns-else-z-lt0 : goal.returns-else-z-lt0
returns-else-z-lt0 c = grind (arith, ints, to_z-of_z, floor_pos)
