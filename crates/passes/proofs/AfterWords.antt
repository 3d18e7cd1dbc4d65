-- The words of the box after a wall's delays: each is the bound of its variable, and fits.
use mathlib.Core.Path.{◌≡◌, sym, ◌∙◌}
use mathlib.Core.List.{List}
use Prim.Native.Nat.{ℕ, ◌+◌, ◌*◌, ◌<◌}
use native.Mathlib.Omega.{arith}
use lib.IntN.{ℤ}
use lib.Signed.{mag}
use mir.Syntax.{w32, w64}
use mir.Val.{SFits, to_z, of_z}
use mir.Facts.{to_z-of_z}
use Rattle.integers.specs.Words.{word}
use Rattle.integers.proofs.Signed.{fits32, got64}
use Rattle.plant.specs.declared.Interval.{Interval}
use Rattle.plant.specs.Box.{low, high}
use Rattle.plant.specs.Steps.{low_after, high_after, box_after}
use Rattle.plant.proofs.Boxes.{low-box_by, high-box_by}
use Rattle.delays.proofs.Small.{in_levels}
use Rattle.steps.proofs.Bounds.{low_after_word, high_after_word}
use Rattle.passes.specs.declared.walls.Place.{Place}
use Rattle.passes.specs.Placing.{AfterJoin, after}

module _ {p : Place} {bounds : List ℤ} {b : ℤ} {t : Interval} (ok : AfterJoin p bounds b t) (d : ℕ) {i : ℕ} (l : i < p.n) {z : ℤ} where
  module _ (is_low : z ≡ low_after p.n p.invariant.now p.rate.now bounds d b t i) where
    pub low_fits : SFits w32 z
    low_fits = rw is_low (fits32 (omega (arith, low_after_word p.n p.invariant.now p.rate.now bounds d b t i (p.levels i l) (p.rates i l) (in_levels p.levels ok.bounds_in i l) ok.wall_in ok.small)))

    pub low_word : mag z < 9223372036854775808 → to_z w32 (of_z w32 (to_z w64 (of_z w64 z))) ≡ word (after p bounds d b t) (2 * i)
    unfolding low box_after
    low_word u = rw (got64 z u, to_z-of_z low_fits) (is_low ∙ sym (low-box_by p.n (low_after p.n p.invariant.now p.rate.now bounds d b t) (high_after p.n p.invariant.now p.rate.now bounds d b t) i l))

  module _ (is_high : z ≡ high_after p.n p.invariant.now p.rate.now bounds d b t i) where
    pub high_fits : SFits w32 z
    high_fits = rw is_high (fits32 (omega (arith, high_after_word p.n p.invariant.now p.rate.now bounds d b t i (p.levels i l) (p.rates i l) (in_levels p.levels ok.bounds_in i l) ok.wall_in ok.small)))

    pub high_word : mag z < 9223372036854775808 → to_z w32 (of_z w32 (to_z w64 (of_z w64 z))) ≡ word (after p bounds d b t) (2 * i + 1)
    unfolding high box_after
    high_word u = rw (got64 z u, to_z-of_z high_fits) (is_high ∙ sym (high-box_by p.n (low_after p.n p.invariant.now p.rate.now bounds d b t) (high_after p.n p.invariant.now p.rate.now bounds d b t) i l))
