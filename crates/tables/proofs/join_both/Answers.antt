-- Each of the two pieces is joined with its own part of the box.
use Rattle.std.proofs.Common.{arith, rules}
use Rattle.tables.proofs.Cutting.{two_long, first_is_face, second_is_face, own_joined, other_joined}
use Rattle.tables.proofs.join_both.Goals as goal

pub split_at_mut-first-requires : goal.split_at_mut-first-requires
split_at_mut-first-requires c = omega (arith, two_long c.requires c.face_size.ensures)

pub join_between-requires : goal.join_between-requires
join_between-requires c =
    let ok = c.requires in
    let s = c.split_at_mut-first.ensures in
    (ok.n_small, ok.box_length, ok.cut_below, first_is_face ok c.face_size.ensures s.front s.back)

pub join_between-requires-else-v-d : goal.join_between-requires-else-v-d
join_between-requires-else-v-d c =
    let ok = c.requires in
    let s = c.split_at_mut-first.ensures in
    (ok.n_small, ok.box_length, ok.cut_below, second_is_face ok c.face_size.ensures s.front s.back)

pub returns-then-v-d : goal.returns-then-v-d
returns-then-v-d c =
    let s = c.split_at_mut-first.ensures in
    own_joined c.requires c.face_size.ensures s.front s.back c.args.d c.if-v-d.true c.join.ensures

pub returns-else-v-d : goal.returns-else-v-d
returns-else-v-d c =
    let s = c.split_at_mut-first.ensures in
    let y = c.min in
    let z = c.max in
    other_joined c.requires c.face_size.ensures s.front s.back c.args.d c.if-v-d.false {low = z.result} {high = y.result} (search rules) (search rules)
    {a = c.join_between.new.piece} (search rules) (search rules)
