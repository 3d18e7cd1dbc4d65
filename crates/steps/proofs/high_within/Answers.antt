-- Not below the invariant's high, as the products show: the high is that one. Else the bound is computed, and not cut.
use Rattle.std.proofs.Common.{arith}
use Rattle.std.proofs.lemmas.Int.{to_z-of_z}
use Rattle.steps.proofs.Cuts.{way_is, room_is, room_fits, high_past, high_before}
use Rattle.steps.proofs.high_within.Goals as goal

pub overflow_mul-room : goal.overflow_mul-room
overflow_mul-room c =
    let a = c.args in
    let r = c.requires in
    room_fits a.hi a.q a.t.den r.3 r.0 r.2.den_small

pub returns-then-room-way : goal.returns-then-room-way
returns-then-room-way c =
    let a = c.args in
    let r = c.requires in
    let t = rw (way_is a.c a.t.num r.1 r.2.num_small, room_is a.hi a.q a.t.den r.3 r.0 r.2.den_small) at c.if-room-way.true in
    grind (arith, to_z-of_z, high_past a.q a.c a.hi a.t r.2.den_positive t)

pub returns-else-room-way : goal.returns-else-room-way
returns-else-room-way c =
    let a = c.args in
    let r = c.requires in
    let t = rw (way_is a.c a.t.num r.1 r.2.num_small, room_is a.hi a.q a.t.den r.3 r.0 r.2.den_small) at c.if-room-way.false in
    grind (arith, to_z-of_z, high_before a.q a.c a.hi a.t r.2.den_positive t)
