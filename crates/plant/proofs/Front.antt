-- A table is the first words of a list: what the definitions say of the list they say of those words alone, since no piece reaches
-- past the table's length.
use mathlib.Core.Path.{◌≡◌, refl, ap, ap₂}
use mathlib.Core.Bool.{cond, ◌||◌}
use mathlib.Core.List.{List}
use Prim.Native.Nat.{ℕ, ◌+◌, ◌*◌, ◌<◌}
use native.Mathlib.Decide.{dec_lt}
use native.Mathlib.Omega.{arith}
use borrow.Author.Tests.{le-leb}
use lib.IntN.{ℤ, pos}
use lib.ListN.{length, take}
use lib.Seq.{get_or-take, take-take, take_all, length-take-le}
use Rattle.integers.specs.Words.{eq_z, equal}
use Rattle.integers.specs.Counted.{all_below}
use Rattle.integers.proofs.Counted.{all_ext}
use Rattle.integers.proofs.Buffers.{part_front}
use Rattle.plant.specs.Box.{box_at, absent, present}
use Rattle.plant.specs.Model.{n#, L#, invariant}
use Rattle.plant.specs.Pieces.{pieces, piece_variable, piece_wall, piece_extent}
use Rattle.plant.specs.Tables.{face_size, table_size, piece_at, face_read, piece_of, absent_ok, present_ok, piece_ok, table_ok, pass, touching}
use Rattle.plant.specs.Calls.{table_room_question, unchanged, certificate_questions, table_questions}
use Rattle.plant.proofs.Passed.{Passed}
use Rattle.plant.proofs.SameModel.{itself, same_pass, same_touching}
use Rattle.plant.proofs.Tables.{piece_inside}

-- the table that a list of words begins with
abbrev pub front : List ℤ → List ℤ → List ℤ
front m t = take (table_size m) t

-- it is long enough for 20 exactly if the list is
pub room_front : (m t : List ℤ) → table_room_question m (length (front m t)) ≡ table_room_question m (length t)
room_front m t = by (dec_lt (length t) (table_size m))
  where
    by : Dec (length t < table_size m) → table_room_question m (length (front m t)) ≡ table_room_question m (length t)
    by (yes h) = ap (λ (s : List ℤ). table_room_question m (length s)) (take_all (table_size m) t (omega arith))
    by (no h) = rw (length-take-le (table_size m) t (omega arith), le-leb (table_size m) (table_size m) (omega arith), le-leb (table_size m) (length t) (omega arith)) refl

module _ (m : List ℤ) (ok : Passed m) (t : List ℤ) where
  pub piece_front : (l q : ℕ) → l < L# m → q < pieces m l → piece_of m (front m t) l q ≡ piece_of m t l q
  unfolding piece_of face_read box_at
  piece_front l q u v = ap₂ (λ (z : ℤ) (b : List ℤ). cond (eq_z z (pos 1)) (present b) absent)
      (get_or-take (table_size m) t (piece_at m l q) (pos 0) (omega (arith, piece_inside m l q u v)))
      (part_front (piece_at m l q + 1) (2 * n# m) (table_size m) t (omega (arith, piece_inside m l q u v)))

  pub ok_front : table_ok m (front m t) ≡ table_ok m t
  unfolding table_ok piece_ok
  ok_front =
      all_ext (L# m) (λ l. all_below (pieces m l) (piece_ok m (front m t) l)) (λ l. all_below (pieces m l) (piece_ok m t l))
      (λ l u. all_ext (pieces m l) (piece_ok m (front m t) l) (piece_ok m t l)
      (λ q v. ap (λ (s : List ℤ). absent_ok (n# m) s || present_ok (n# m) (invariant m l) (piece_variable m l q) (piece_wall m l q) (piece_extent m l q) s)
      (part_front (piece_at m l q) (face_size (n# m)) (table_size m) t (piece_inside m l q u v))))

  -- ---- a pass, and touching: of the same pieces

  pub pass_front : pass m (front m t) ≡ pass m t
  pass_front = same_pass m m (itself m) ok (front m t) t piece_front

  pub touching_front : touching m (front m t) ≡ touching m t
  touching_front = same_touching m m (itself m) ok (front m t) t piece_front

  -- ---- the questions

  unchanged_front : unchanged m (front m t) ≡ unchanged m t
  unfolding unchanged
  unchanged_front = ap₂ equal pass_front (take-take (table_size m) (table_size m) t (omega arith))

  pub questions_front : table_questions m (front m t) ≡ table_questions m t
  unfolding table_questions certificate_questions
  questions_front = rw (ok_front, unchanged_front, touching_front) refl
