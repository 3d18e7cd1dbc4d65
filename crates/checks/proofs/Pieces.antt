-- The pieces of a location, as question 32 goes over them.
use Rattle.std.specs.Prelude.{Option, Some, None}
use mathlib.Core.Path.{◌≡◌, refl}
use mathlib.Core.List.{List}
use Prim.Native.Nat.{ℕ, ◌+◌, ◌*◌, ◌/◌, ◌≤◌, ◌<◌}
use native.Mathlib.Omega.{arith}
use lib.IntN.{ℤ}
use Rattle.plant.specs.declared.Cut.{Cut}
use Rattle.plant.specs.Model.{n#, L#, invariant, cut_of}
use Rattle.plant.specs.Pieces.{pieces_per_face, per_face, pieces, piece_face}
use Rattle.plant.specs.Questions.{model_questions}
use Rattle.plant.specs.Tables.{face_size, pieces_before, table_size, piece_at}
use Rattle.plant.proofs.Passed.{CutInside, passed}
use Rattle.plant.proofs.Passing.{whole}
use Rattle.plant.proofs.Pieces.{face_below}
use Rattle.plant.proofs.Positions.{length-invariant}
use Rattle.plant.proofs.Tables.{piece_inside}
use Rattle.checks.specs.Ready.{CutNamed, LocationReady}
use Rattle.checks.proofs.Model.{n_most}

module _ (m : List ℤ) (l : ℕ) where
  pub pieces_are : pieces m l ≡ 2 * n# m * pieces_per_face (cut_of m l)
  unfolding pieces per_face
  pieces_are = refl

  pub face_is : (q : ℕ) → q < pieces m l → q / pieces_per_face (cut_of m l) < 2 * n# m
  unfolding piece_face per_face
  face_is q v = face_below m l q v

  pub piece_ends : (q : ℕ) → l < L# m → q < pieces m l → (pieces_before m l + q) * face_size (n# m) + face_size (n# m) ≤ table_size m
  unfolding piece_at
  piece_ends q u v = piece_inside m l q u v

named : (n : ℕ) (inv : List ℤ) (cut : Option Cut) → CutInside n inv cut → CutNamed (2 * n) cut
named n inv None h = tt
named n inv (Some cut) h = omega (arith, h.0)

pub location_ready : (m : List ℤ) → model_questions m ≡ 0 → (l : ℕ) → l < L# m → LocationReady (n# m) (invariant m l) (cut_of m l)
location_ready m ok l u = record {
  n_small = n_most m ok;
  inv_length = length-invariant m (whole m ok) l u;
  named = named (n# m) (invariant m l) (cut_of m l) ((passed m ok).of_cut l u).inside;
}
