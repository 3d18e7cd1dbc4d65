-- Without a delay the pieces stay. A present face in an uncut location is widened by the box, which is not empty; else the box is
-- joined to the pieces.
use Rattle.std.proofs.Common.{◌≡◌, arith, rules, pos, Option, Some, None, false, refl}
use Rattle.std.proofs.lemmas.Int.{ints}
use Rattle.std.specs.Option.{is_some}
use Rattle.integers.specs.Words.{word}
use Rattle.integers.proofs.Signed.{got64}
use Rattle.plant.specs.declared.Cut.{Cut}
use Rattle.passes.proofs.Handing.{delays_ready, pieces_there, wall_nothing, after_ok, wall_after, one_long, wall_widened}
use Rattle.passes.proofs.walls.Place.join_wall.Goals as goal

none_is : (c : Option Cut) → is_some c ≡ false → c ≡ None
none_is None h = refl
none_is (Some cut) h = cc

pub wall_delays-requires : goal.wall_delays-requires
wall_delays-requires c =
    let b = c.word-b in
    rw (got64 b.result b.type_inv) (delays_ready c.requires b.ensures)

pub returns-in_default : goal.returns-in_default
returns-in_default c =
    let b = c.word-b in
    wall_nothing c.requires b.ensures (simp (got64 b.result b.type_inv) at c.wall_delays.ensures) c.in_default.is

pub slice_copy_out-there : goal.slice_copy_out-there
slice_copy_out-there c =
    let u = pieces_there c.requires c.word-b.ensures in
    search rules

pub widen_after-requires : goal.widen_after-requires
widen_after-requires c =
    let a = c.args in
    let b = c.word-b in
    let delays_are = simp (got64 b.result b.type_inv) at c.wall_delays.ensures in
    let none : a.self.now.cut ≡ None = none_is a.self.now.cut (grind arith) in
    let there : word a.pieces.now 0 ≡ pos 1 = omega (arith, ints) in
    simp (got64 b.result b.type_inv) (
      after_ok c.requires b.ensures delays_are c.in-Some.is,
      one_long c.requires b.ensures delays_are c.in-Some.is none,
      there,
    )

pub join_after-requires : goal.join_after-requires
join_after-requires c =
    let b = c.word-b in
    let delays_are = simp (got64 b.result b.type_inv) at c.wall_delays.ensures in
    simp (got64 b.result b.type_inv) (after_ok c.requires b.ensures delays_are c.in-Some.is, c.requires.are_pieces)

pub returns-then-is_none : goal.returns-then-is_none
returns-then-is_none c =
    let a = c.args in
    let b = c.word-b in
    let delays_are = simp (got64 b.result b.type_inv) at c.wall_delays.ensures in
    let none : a.self.now.cut ≡ None = none_is a.self.now.cut (grind arith) in
    let there : word a.pieces.now 0 ≡ pos 1 = omega (arith, ints) in
    wall_widened c.requires b.ensures delays_are c.in-Some.is none there (simp (got64 b.result b.type_inv) at c.widen_after.ensures)

pub returns-else-there : goal.returns-else-there
returns-else-there c =
    let b = c.word-b in
    let delays_are = simp (got64 b.result b.type_inv) at c.wall_delays.ensures in
    wall_after c.requires b.ensures delays_are c.in-Some.is (simp (got64 b.result b.type_inv) at c.join_after.ensures)
