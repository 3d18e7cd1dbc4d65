-- The words of a location's parts as the search for a touch has them: those of the start part, a flag and a box behind it, and those
-- of a piece in the table.
use mathlib.Core.Path.{◌≡◌, refl, ap, ◌∙◌}
use mathlib.Core.Bool.{Bool, true, false, cond}
use mathlib.Core.List.{List, [], ◌∷◌}
use Prim.Native.Nat.{ℕ, zero, suc, ◌+◌, ◌*◌, ◌<◌, ◌≤◌}
use native.Mathlib.Omega.{arith}
use borrow.Rule.Slice.PartMut.{put_mid}
use lib.IntN.{ℤ}
use mir.Syntax.{w32}
use mir.Val.{to_z, bool_byte}
use lib.ListN.{length, set, take}
use lib.Seq.{length-take-le, take-append-le}
use Rattle.plant.specs.Box.{box_at, absent, present}
use Rattle.plant.specs.Model.{n#, L#}
use Rattle.plant.specs.Pieces.{pieces}
use Rattle.plant.specs.Tables.{face_size, pieces_before, table_size, piece_at, face_read, start_part, part_of}
use Rattle.plant.proofs.Tables.{piece_inside}
use Rattle.passes.specs.Parts.{IsPart}
use Rattle.passes.specs.Ready.{TableReady}
use Rattle.plant.proofs.FaceWords.{face_there}
use Rattle.passes.proofs.PartWords.{place_is, piece_part}
use Rattle.checks.specs.Parts.{part_words, PartAt}
use Rattle.checks.proofs.Model.{n_most, pieces_few, before_few}

-- ---- the start part

-- a box put behind the first word, and there the flag 1, or 0 and the box is nothing
pub flag_put : (n k : ℕ) (r : Bool) (x words : List ℤ) → 2 * n ≤ length x → 0 < length words → face_read n (set (put_mid 1 k words x) 0 (to_z w32 (bool_byte r))) 0 ≡ cond r (present (take (2 * n) x)) absent
unfolding face_read box_at
flag_put n k r x [] u v = absurd (omega arith)
flag_put n k true x (w ∷ words) u v = ap present (take-append-le (2 * n) x _ u)
flag_put n k false x (w ∷ words) u v = refl

-- ---- part p of location l

-- where its words end, if it is a piece
piece_end : (m : List ℤ) (l p : ℕ) → l < L# m → p ≤ pieces m l → 0 < p → (pieces_before m l + p) * face_size (n# m) ≤ table_size m
unfolding piece_at
piece_end m l zero u v w = absurd (omega arith)
piece_end m l (suc q) u v w = omega (arith, piece_inside m l q u v)

module _ (m t : List ℤ) (ready : TableReady m t) (l : ℕ) (u : l < L# m) (p : ℕ) (v : p ≤ pieces m l) (start : List ℤ) (long : length start ≡ 13) where
  pub part_ready : PartAt (n# m) start t (pieces_before m l) p
  part_ready = record {
    n_small = n_most m ready.passes;
    start_there = omega (arith, n_most m ready.passes);
    earlier_small = before_few m ready.passes l (omega arith);
    few = omega (arith, pieces_few m ready.passes l);
    piece_there = λ w. omega (arith, piece_end m l p u v w, ready.room);
  }

pub part_is : (m t : List ℤ) → TableReady m t → (l : ℕ) → l < L# m → (p : ℕ) → p ≤ pieces m l → (start : List ℤ) → length start ≡ 13 → face_read (n# m) start 0 ≡ start_part m l
    → IsPart (n# m) (part_words (n# m) start t (pieces_before m l) p) (part_of m t l p)
unfolding part_of part_words
part_is m t ready l u zero v start long e = record { sized = length-take-le (face_size (n# m)) start (omega (arith, n_most m ready.passes)); gives = face_there (n# m) start 0 ∙ e }
part_is m t ready l u (suc q) v start long e = piece_part m l u t ready.room q v refl (place_is m l q refl refl refl) refl
