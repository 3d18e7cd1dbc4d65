-- Whether a part that is there touches a forbidden box of its location, by its box; and that this is ready to be asked.
use mathlib.Core.Path.{◌≡◌, refl, subst}
use mathlib.Core.Bool.{true}
use mathlib.Core.List.{List}
use Prim.Native.Nat.{ℕ, ◌<◌, ◌≤◌}
use borrow.Author.Tests.{eq-eqb}
use lib.IntN.{ℤ}
use Rattle.integers.proofs.Tests.{true_is}
use Rattle.delays.specs.Ranges.{Levels, Rates}
use Rattle.plant.specs.Box.{Face, present}
use Rattle.plant.specs.Model.{n#, L#, B#, invariant, rate, forbidden_location, forbidden_box}
use Rattle.plant.specs.Steps.{touches}
use Rattle.plant.specs.Pieces.{pieces}
use Rattle.plant.specs.Tables.{table_ok, part_of, part_touches}
use Rattle.plant.proofs.Boxes.{FaceAll}
use Rattle.plant.proofs.Passed.{passed}
use Rattle.plant.proofs.Passing.{whole}
use Rattle.plant.proofs.Positions.{length-forbidden_box}
use Rattle.passes.specs.Ready.{TableReady}
use Rattle.passes.proofs.PartWords.{levels_from, invariant_in, rate_in, part_levels}

pub touch_is : (m : List ℤ) (l b : ℕ) {bounds : List ℤ} {part : Face} → part ≡ present bounds → forbidden_location m b ≡ l → touches (n# m) (invariant m l) (rate m l) bounds (forbidden_box m b) ≡ part_touches m l b part
unfolding part_touches
touch_is m l b there own = rw (there, eq-eqb (forbidden_location m b) l own) refl

pub touch_ready : (m t : List ℤ) → TableReady m t → table_ok m t ≡ true → (l : ℕ) → l < L# m → (p : ℕ) → p ≤ pieces m l → {bounds : List ℤ} → part_of m t l p ≡ present bounds → (b : ℕ) → b < B# m
    → Levels (n# m) (invariant m l) × Rates (n# m) (rate m l) × Levels (n# m) bounds × Levels (n# m) (forbidden_box m b)
touch_ready m t ready valid l u p v there b w =
    let k = passed m ready.passes in (
      invariant_in m k l u,
      rate_in m k l u,
      subst (FaceAll (Levels (n# m))) there (part_levels m k l u t ready.room (true_is valid) p v),
      levels_from (n# m) (forbidden_box m b) (length-forbidden_box m (whole m ready.passes) b w) (k.of_forbidden b w).box_levels,
    )
