-- Not above the invariant's low, as the products show: the low is that one. Else the bound is computed, and not cut.
use Rattle.std.proofs.Common.{arith}
use Rattle.std.proofs.lemmas.Int.{to_z-of_z}
use Rattle.steps.proofs.Cuts.{way_is, room_is, room_fits, low_past, low_before}
use Rattle.steps.proofs.low_within.Goals as goal

pub overflow_mul-room : goal.overflow_mul-room
overflow_mul-room c =
    let a = c.args in
    let r = c.requires in
    room_fits a.lo a.p a.t.den r.3 r.0 r.2.den_small

pub returns-then-way-room : goal.returns-then-way-room
returns-then-way-room c =
    let a = c.args in
    let r = c.requires in
    let t = rw (way_is a.a a.t.num r.1 r.2.num_small, room_is a.lo a.p a.t.den r.3 r.0 r.2.den_small) at c.if-way-room.true in
    grind (arith, to_z-of_z, low_past a.p a.a a.lo a.t r.2.den_positive t)

pub returns-else-way-room : goal.returns-else-way-room
returns-else-way-room c =
    let a = c.args in
    let r = c.requires in
    let t = rw (way_is a.a a.t.num r.1 r.2.num_small, room_is a.lo a.p a.t.den r.3 r.0 r.2.den_small) at c.if-way-room.false in
    grind (arith, to_z-of_z, low_before a.p a.a a.lo a.t r.2.den_positive t)
