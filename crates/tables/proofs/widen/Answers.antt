-- Filled from the front: in each turn the low and the high of one more variable.
use Rattle.std.proofs.Common.{◌≡◌, arith, rules}
use Rattle.integers.proofs.Signed.{got32}
use Rattle.plant.specs.Box.{box_at}
use Rattle.tables.proofs.Faces.{widen_start, widen_words, widen_end}
use Rattle.tables.proofs.widen.Goals as goal

pub loop-i-init : goal.loop-i-init
loop-i-init c = let a = c.args in widen_start (box_at a.n a.face.now 1) a.from.now a.face.now (omega arith) c.requires.1

pub loop-i-preserved : goal.loop-i-preserved
loop-i-preserved c =
    let a = c.args in
    let l = c.loop-i in
    rw (got32 c.min.result c.min.type_inv, got32 c.max.result c.max.type_inv)
    (widen_words a.n a.from.now a.face.now l.face l.i (omega arith) l.invariant (omega arith) c.min.result c.max.result (search rules) (search rules))

pub returns : goal.returns
returns c =
    let a = c.args in
    let e : c.loop-i.i ≡ a.n = omega arith in
    widen_end a.n (box_at a.n a.face.now 1) a.from.now a.face.now _ (rw e at c.loop-i.invariant) (omega arith)
