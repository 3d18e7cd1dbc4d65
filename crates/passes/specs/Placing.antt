-- What the code that joins wall steps to the faces of a location asks of the words that it is lent, and the words that it leaves.
use Rattle.std.specs.Prelude.{◌≡◌, List, ℕ, ◌*◌, ◌/◌, ◌%◌, ◌<◌, ℤ}
use Rattle.integers.specs.Words.{word}
use Rattle.plant.specs.Box.{Face, on_box}
use Rattle.plant.specs.Model.{n#, invariant, rate, cut_of, variable_of}
use Rattle.plant.specs.Pieces.{pieces_per_face}
use Rattle.plant.specs.Steps.{box_after, wall_step}
use Rattle.plant.specs.declared.End.{End}
use Rattle.plant.specs.declared.Interval.{Interval}
use Rattle.delays.specs.Ranges.{Level, InInvariant, SmallInterval}
use Rattle.delays.specs.Windows.{WindowEnd}
use Rattle.tables.specs.Room.{AreFaces, joined_each, cut_each}
use Rattle.passes.specs.Joining.{pieces_with}
use Rattle.passes.specs.declared.walls.Place.{Place}

-- the place is location l of the model m
pub record IsPlace (m : List ℤ) (l : ℕ) (p : Place) : Type 0 where
  pub n_is : p.n ≡ n# m
  pub invariant_is : p.invariant.now ≡ invariant m l
  pub rate_is : p.rate.now ≡ rate m l
  pub cut_is : p.cut ≡ cut_of m l

-- a box inside its invariant
abbrev pub IsInside : Place → List ℤ → Type 0
IsInside p bounds = InInvariant p.n p.invariant.now bounds

-- the box after the delays t from a box to the value b of a variable
pub record AfterJoin (p : Place) (bounds : List ℤ) (b : ℤ) (t : Interval) : Type 0 where
  pub bounds_in : IsInside p bounds
  pub wall_in : Level b
  pub small : SmallInterval t

-- the wall step to face f from a box whose window ends at end, to be joined to the face's pieces
pub record WallJoin (p : Place) (bounds : List ℤ) (end : End) (f : ℕ) (pieces : List ℤ) : Type 0 where
  pub bounds_in : IsInside p bounds
  pub window_end : WindowEnd p.n p.invariant.now p.rate.now bounds end
  pub is_face : f < 2 * p.n
  pub are_pieces : AreFaces p.n (pieces_per_face p.cut) pieces

-- the words are those of all its pieces
abbrev pub IsBlock : Place → List ℤ → Type 0
IsBlock p block = AreFaces p.n (pieces_with p.n p.cut) block

-- the box after the delays t from a box to the value b of variable d, and the wall step from a box to face f
abbrev pub after : Place → List ℤ → ℕ → ℤ → Interval → List ℤ
after p bounds d b t = box_after p.n p.invariant.now p.rate.now bounds d b t

abbrev pub step : Place → List ℤ → ℕ → Face
step p bounds f = wall_step p.n p.invariant.now p.rate.now bounds (variable_of f) (word p.invariant.now f)

-- the words of the pieces of a face of wall variable d, joined with the face g
abbrev pub with_face : Place → ℕ → Face → List ℤ → List ℤ
with_face p d g pieces = joined_each p.n (pieces_per_face p.cut) pieces (cut_each p.n p.cut d g)

-- what the wall steps from a part give to each piece q
abbrev pub walls_from : Place → Face → ℕ → Face
walls_from p g q =
    let f = q / pieces_per_face p.cut in
    cut_each p.n p.cut (variable_of f) (on_box g (λ b. step p b f)) (q % pieces_per_face p.cut)

-- the words of all its pieces, joined with the wall steps from a part
abbrev pub with_walls : Place → Face → List ℤ → List ℤ
with_walls p g block = joined_each p.n (pieces_with p.n p.cut) block (walls_from p g)
