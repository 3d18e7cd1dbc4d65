-- A step that is handed over as an answer and words, joined to the pieces of a face: they are joined with it, or stay; and the
-- steps from a part, which is there or not, joined to all pieces of a location.
use Rattle.std.specs.Prelude.{Option, Some, None}
use mathlib.Core.Path.{◌≡◌, sym, ap, ◌∙◌, subst}
use mathlib.Core.Bool.{Bool, true, false, cond}
use mathlib.Core.List.{List}
use Prim.Native.Nat.{ℕ, ◌+◌, ◌*◌, ◌<◌, ◌≤◌}
use native.Mathlib.Nat.{mul-le-mul_right}
use native.Mathlib.Omega.{arith}
use lib.IntN.{ℤ, pos}
use lib.ListN.{length, take}
use lib.Signed.{◌≤ℤ◌}
use Rattle.integers.specs.Words.{word}
use Rattle.integers.proofs.Signed.{between}
use Rattle.integers.proofs.Tests.{is_true}
use Rattle.integers.proofs.Counted.{eq_z_intro}
use Rattle.integers.proofs.Buffers.{cat_ext}
use Rattle.plant.specs.Box.{low, high, Ordered, box_at, hull, Face, absent, present, face_words, join}
use Rattle.plant.specs.declared.Cut.{Cut}
use Rattle.plant.specs.Model.{variable_of}
use Rattle.plant.specs.Pieces.{pieces_per_face}
use Rattle.plant.specs.declared.Interval.{Interval}
use Rattle.plant.specs.Delays.{delays_to, both_delays, or_never}
use Rattle.plant.specs.Steps.{low_after, high_after, box_after, face_after, wall_delays, wall_step}
use Rattle.plant.specs.Tables.{face_size}
use Rattle.plant.proofs.Boxes.{FaceAll, length-box_by, inside_ordered, not_empty}
use Rattle.plant.proofs.Inside.{not_empty_after}
use Rattle.plant.proofs.Pieces.{face_of_number, index_of_number}
use Rattle.plant.specs.declared.End.{End}
use Rattle.delays.specs.Ranges.{Level, LevelAt, RateAt, Levels, InInvariant, SmallEnd}
use Rattle.delays.specs.Windows.{up_to}
use Rattle.delays.proofs.Small.{into_small, in_levels}
use Rattle.delays.proofs.WindowEnd.{wall_small}
use Rattle.tables.specs.Room.{face_in, AreFaces, joined_each, cut_each, PiecesJoinable}
use Rattle.tables.proofs.Faces.{join_absent, join_widened}
use Rattle.tables.proofs.Cutting.{one_joinable, one_joined}
use Rattle.steps.specs.Handing.{Handed}
use Rattle.steps.proofs.Faces.{after_in}
use Rattle.passes.specs.declared.walls.Place.{Place}
use Rattle.passes.specs.Placing.{AfterJoin, WallJoin, IsBlock, after, step, with_face, walls_from, with_walls}
use Rattle.passes.proofs.PartWords.{between_ends}
use Rattle.passes.proofs.Locations.{faces_length, same_joined}

-- a step as it is handed over: by the answer its box, or nothing
module _ {n : ℕ} {r : Bool} {exit out : List ℤ} {h : Face} (gives : Handed n r exit out h) where
  pub handed_box : r ≡ true → h ≡ present (take (2 * n) exit)
  handed_box u = gives.is_face ∙ ap (λ (x : Bool). cond x (present (take (2 * n) exit)) absent) u

  pub handed_none : r ≡ false → h ≡ absent
  handed_none u = gives.is_face ∙ ap (λ (x : Bool). cond x (present (take (2 * n) exit)) absent) u

  pub handed_all : (P : List ℤ → Type 0) → r ≡ true → FaceAll P h → P (take (2 * n) exit)
  handed_all P u all = subst (FaceAll P) (handed_box u) all

-- k faces joined with nothing stay
none_joined : (n k : ℕ) (words : List ℤ) → AreFaces n k words → words ≡ joined_each n k words (λ q. absent)
none_joined n k words are = sym (cat_ext k (λ q. face_words n (join n (face_in n words q) absent)) (λ q. face_words n (face_in n words q)) (λ q _. ap (face_words n) (join_absent n (face_in n words q))) ∙ are)

some_piece : (c : Option Cut) → 1 ≤ pieces_per_face c
unfolding pieces_per_face
some_piece None = omega arith
some_piece (Some cut) = omega arith

module _ (p : Place) where
  -- a face that is absent, joined to the pieces of a face, and a part that is absent, to all pieces
  pub face_none : (d : ℕ) {g : Face} {pieces : List ℤ} → AreFaces p.n (pieces_per_face p.cut) pieces → g ≡ absent → pieces ≡ with_face p d g pieces
  face_none d {g} {pieces} are e = none_joined p.n (pieces_per_face p.cut) pieces are ∙ ap (λ (g : Face). with_face p d g pieces) (sym e)

  pub part_none : {g : Face} {block : List ℤ} → IsBlock p block → g ≡ absent → block ≡ with_walls p g block
  part_none {g} {block} are e = none_joined p.n (2 * p.n * pieces_per_face p.cut) block are ∙ ap (λ (g : Face). with_walls p g block) (sym e)

  -- the box after the delays t, as it is handed over
  module _ (bounds : List ℤ) (d : ℕ) (b : ℤ) (t : Interval) (pieces : List ℤ) (are : AreFaces p.n (pieces_per_face p.cut) pieces) {r : Bool} {exit out : List ℤ} (gives : Handed p.n r exit out (face_after p.n p.invariant.now p.rate.now bounds d b (Some t))) where
    pub after_joinable : r ≡ true → PiecesJoinable p.n p.cut (take (2 * p.n) exit) pieces
    after_joinable u =
        let b : InInvariant p.n p.invariant.now (take (2 * p.n) exit) = handed_all gives (InInvariant p.n p.invariant.now) u (after_in p.n p.invariant.now p.rate.now bounds d b (Some t)) in
        record { n_small = p.n_small; box_length = b.sized; box_ordered = b.is_ordered; cut_below = p.cut_below; are_pieces = are }

    pub after_joins : {words : List ℤ} → r ≡ true → words ≡ with_face p d (present (take (2 * p.n) exit)) pieces → words ≡ with_face p d (face_after p.n p.invariant.now p.rate.now bounds d b (Some t)) pieces
    after_joins u k = k ∙ ap (λ (g : Face). with_face p d g pieces) (sym (handed_box gives u))

-- the wall step to face f from a box whose window ends so, to the wall b
module _ {p : Place} {bounds : List ℤ} {end : End} {f : ℕ} {pieces : List ℤ} (ok : WallJoin p bounds end f pieces) {b : ℤ} (b_is : b ≡ word p.invariant.now f) where
  abbrev d : ℕ
  d = variable_of f

  abbrev alone : Option Interval
  alone = delays_to (low bounds d) (high bounds d) (low p.rate.now d) (high p.rate.now d) b

  below : d < p.n
  below = omega (arith, ok.is_face)

  bounds_levels : Levels p.n bounds
  bounds_levels = in_levels p.levels ok.bounds_in

  lies : (low p.invariant.now d ≤ℤ b) × (b ≤ℤ high p.invariant.now d)
  lies = rw b_is (between_ends p.n p.invariant.now (inside_ordered ok.bounds_in.inside ok.bounds_in.is_ordered) f ok.is_face)

  wall_level : Level b
  wall_level = between b lies.0 lies.1 (p.levels d below).low_in (p.levels d below).high_in

  pub delays_ready : RateAt p.rate.now d × LevelAt bounds d × Level b × SmallEnd end
  delays_ready = (p.rates d below, bounds_levels d below, wall_level, ok.window_end.small)

  -- there is at least one piece
  pub pieces_there : 0 < length pieces
  pieces_there = omega (arith, ap length ok.are_pieces, faces_length p.n (pieces_per_face p.cut) (face_in p.n pieces), mul-le-mul_right (face_size p.n) (some_piece p.cut))

  -- its delays, as code has them
  module _ {ds : Option Interval} (found : ds ≡ or_never (both_delays alone (Some (up_to end)))) where
    are_delays : wall_delays p.n p.invariant.now p.rate.now bounds d b ≡ ds
    unfolding wall_delays
    are_delays = ap (λ (w : Option Interval). or_never (both_delays alone w)) ok.window_end.is_window ∙ sym found

    step_is : step p bounds f ≡ face_after p.n p.invariant.now p.rate.now bounds d b ds
    unfolding wall_step
    step_is = rw (← b_is) (ap (face_after p.n p.invariant.now p.rate.now bounds d b) are_delays)

    -- none
    pub wall_nothing : ds ≡ None → pieces ≡ with_face p d (step p bounds f) pieces
    wall_nothing none = face_none p d ok.are_pieces (step_is ∙ ap (face_after p.n p.invariant.now p.rate.now bounds d b) none)

    -- an interval
    module _ {t : Interval} (some : ds ≡ Some t) where
      pub after_ok : AfterJoin p bounds b t
      after_ok = record {
        bounds_in = ok.bounds_in;
        wall_in = wall_level;
        small = wall_small alone end t
            (into_small (low bounds d) (high bounds d) (low p.rate.now d) (high p.rate.now d) b b (bounds_levels d below).low_in (bounds_levels d below).high_in (p.rates d below).low_in (p.rates d below).high_in wall_level wall_level)
            ok.window_end.small (sym found ∙ some);
      }

      pub wall_after : {exit : List ℤ} → exit ≡ with_face p d (face_after p.n p.invariant.now p.rate.now bounds d b (Some t)) pieces → exit ≡ with_face p d (step p bounds f) pieces
      wall_after e = e ∙ ap (λ (g : Face). with_face p d g pieces) (sym (step_is ∙ ap (face_after p.n p.invariant.now p.rate.now bounds d b) some))

      -- its box is not empty
      box_ordered : Ordered p.n (after p bounds d b t)
      box_ordered = not_empty_after p.n p.invariant.now p.rate.now bounds d b (inside_ordered ok.bounds_in.inside ok.bounds_in.is_ordered) p.rate_ordered ok.bounds_in.is_ordered below lies.0 lies.1 t (are_delays ∙ some)

      box_joinable : PiecesJoinable p.n p.cut (after p bounds d b t) pieces
      unfolding box_after
      box_joinable = record {
        n_small = p.n_small;
        box_length = length-box_by p.n (low_after p.n p.invariant.now p.rate.now bounds d b t) (high_after p.n p.invariant.now p.rate.now bounds d b t);
        box_ordered = box_ordered;
        cut_below = p.cut_below;
        are_pieces = ok.are_pieces;
      }

      -- a present face in an uncut location
      module _ (none : p.cut ≡ None) where
        pub one_long : length pieces ≡ face_size p.n
        one_long = (one_joinable p.n d (after p bounds d b t) pieces box_joinable none).face_length

        pub wall_widened : {exit : List ℤ} → word pieces 0 ≡ pos 1 → exit ≡ face_words p.n (present (hull p.n (box_at p.n pieces 1) (after p bounds d b t))) → exit ≡ with_face p d (step p bounds f) pieces
        wall_widened there e = wall_after
            (one_joined p.n d (after p bounds d b t) pieces box_joinable none (e ∙ join_widened p.n pieces (after p bounds d b t) (is_true (eq_z_intro there)))
            ∙ ap (λ (g : Face). with_face p d g pieces) (sym (not_empty p.n (after p bounds d b t) box_ordered)))

-- the step to face f is what the location's pieces of that face are given
pub walls_given : (p : Place) (bounds : List ℤ) (f : ℕ) (words : List ℤ) → with_face p (variable_of f) (step p bounds f) words ≡ joined_each p.n (pieces_per_face p.cut) words (λ j. walls_from p (present bounds) (f * pieces_per_face p.cut + j))
walls_given p bounds f words = same_joined p.n (pieces_per_face p.cut) words _ _
    (λ j u i. cut_each p.n p.cut (variable_of (sym (face_of_number p.cut f j u) i)) (step p bounds (sym (face_of_number p.cut f j u) i)) (sym (index_of_number p.cut f j u) i))
