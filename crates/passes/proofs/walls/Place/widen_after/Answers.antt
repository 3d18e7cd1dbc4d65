-- In each turn the low and the high of one more variable: the smaller of the two lows, the larger of the two highs.
use Rattle.std.proofs.Common.{◌≡◌, ◌<◌, arith, rules}
use mir.Facts.{to_z-of_z}
use Rattle.integers.proofs.Signed.{got32, got64}
use Rattle.plant.specs.Box.{box_at}
use Rattle.delays.proofs.Small.{in_levels}
use Rattle.tables.proofs.Faces.{widen_start, widen_words, widen_end}
use Rattle.passes.specs.Placing.{after}
use Rattle.passes.proofs.AfterWords.{low_word, high_word, low_fits, high_fits}
use Rattle.passes.proofs.walls.Place.widen_after.Goals as goal

pub loop-i-init : goal.loop-i-init
loop-i-init c =
    let a = c.args in
    let p = a.self.now in
    simp (to_z-of_z c.ranges.b) (widen_start (box_at p.n a.face.now 1) (after p a.bounds.now a.d a.b a.t) a.face.now (omega arith) c.requires.2)

pub low_after-lo-requires : goal.low_after-lo-requires
low_after-lo-requires c =
    let p = c.args.self.now in
    let ok = c.requires.0 in
    let i = c.loop-i.i in
    (p.levels i (omega arith), p.rates i (omega arith), in_levels p.levels ok.bounds_in i (omega arith), ok.small, ok.bounds_in.inside.lower i (omega arith))

pub high_after-hi-requires : goal.high_after-hi-requires
high_after-hi-requires c =
    let p = c.args.self.now in
    let ok = c.requires.0 in
    let i = c.loop-i.i in
    (p.levels i (omega arith), p.rates i (omega arith), in_levels p.levels ok.bounds_in i (omega arith), ok.small, ok.bounds_in.inside.higher i (omega arith))

pub overflow_cast-lo : goal.overflow_cast-lo
overflow_cast-lo c =
    let a = c.args in
    let x = c.low_after-lo in
    let below : c.loop-i.i < a.self.now.n = omega arith in
    rw (got64 x.result x.type_inv) (low_fits c.requires.0 a.d below (simp (to_z-of_z c.ranges.b) at (x.ensures a.self.now.n)))

pub overflow_cast-hi : goal.overflow_cast-hi
overflow_cast-hi c =
    let a = c.args in
    let x = c.high_after-hi in
    let below : c.loop-i.i < a.self.now.n = omega arith in
    rw (got64 x.result x.type_inv) (high_fits c.requires.0 a.d below (simp (to_z-of_z c.ranges.b) at (x.ensures a.self.now.n)))

pub loop-i-preserved : goal.loop-i-preserved
loop-i-preserved c =
    let a = c.args in
    let p = a.self.now in
    let l = c.loop-i in
    let x = c.low_after-lo in
    let y = c.high_after-hi in
    let below : l.i < p.n = omega arith in
    let lo = low_word c.requires.0 a.d below (simp (to_z-of_z c.ranges.b) at (x.ensures p.n)) x.type_inv in
    let hi = high_word c.requires.0 a.d below (simp (to_z-of_z c.ranges.b) at (y.ensures p.n)) y.type_inv in
    simp (to_z-of_z c.ranges.b, got32 c.min.result c.min.type_inv, got32 c.max.result c.max.type_inv)
    (widen_words p.n (after p a.bounds.now a.d a.b a.t) a.face.now l.face l.i below (simp (to_z-of_z c.ranges.b) at l.invariant) (omega arith) c.min.result c.max.result (rw (← lo) (search rules)) (rw (← hi) (search rules)))

pub returns : goal.returns
returns c =
    let a = c.args in
    let p = a.self.now in
    let e : c.loop-i.i ≡ p.n = omega arith in
    widen_end p.n (box_at p.n a.face.now 1) (after p a.bounds.now a.d a.b a.t) a.face.now _ (simp (to_z-of_z c.ranges.b, e) at c.loop-i.invariant) (omega arith)
