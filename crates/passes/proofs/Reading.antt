-- What a pass reads of a model and a table that passed their questions: parts whose levels are in range, and pieces that stand
-- in their words.
use Rattle.std.specs.Prelude.{Option, Some, None}
use mathlib.Core.Path.{◌≡◌, refl, sym, ap, ◌∙◌}
use mathlib.Core.List.{List}
use Prim.Native.Nat.{ℕ, ◌+◌, ◌*◌, ◌/◌, ◌%◌, ◌<◌, ◌≤◌}
use native.Mathlib.Numerals.{add-one}
use native.Mathlib.Omega.{arith}
use lib.IntN.{ℤ}
use lib.ListN.{length, take, drop, get_or}
use Rattle.integers.specs.Words.{word}
use Rattle.integers.specs.Counted.{cat, sum_below}
use Rattle.integers.proofs.Tests.{true_is}
use Rattle.integers.proofs.Counted.{sum_back, sum_part, sum_same}
use Rattle.integers.proofs.Buffers.{cat_parts, cat_ext}
use Rattle.plant.specs.Box.{Face, face_words, join, joins, on_box}
use Rattle.plant.specs.declared.Cut.{Cut}
use Rattle.plant.specs.Model.{n#, L#, E#, invariant, rate, source, target, guard, reset, variable_of, side_of, face_wall, cut_of}
use Rattle.plant.specs.Pieces.{pieces_per_face, per_face, pieces, piece_face, piece_index, piece_variable, piece_extent}
use Rattle.plant.specs.Steps.{wall_step}
use Rattle.plant.specs.Tables.{face_size, pieces_before, piece_count, table_size, piece_at, table_by, face_read, piece_of, start_part, part_of, to_piece, wall_step_at, wall_from, walls_joined, source_face, source_piece, target_face}
use Rattle.plant.proofs.Passed.{SwitchPassed, CutInside, Passed, passed}
use Rattle.plant.proofs.PieceCases.{before_more}
use Rattle.plant.proofs.Pieces.{number_below}
use Rattle.plant.proofs.Tables.{location_words, words_before, piece_place, location_length, words_of}
use Rattle.delays.specs.Ranges.{Levels, InInvariant}
use Rattle.tables.specs.Room.{cut_each, CutBelow}
use Rattle.tables.proofs.Faces.{table_most}
use Rattle.tables.proofs.Sizes.{before_most}
use Rattle.plant.proofs.Whole.{Whole, Placed}
use Rattle.plant.proofs.Positions.{length-guard, length-reset}
use Rattle.records.proofs.Walls.{wall_at}
use Rattle.plant.proofs.Passing.{whole_passed, switch_placed}
use Rattle.passes.specs.Checked.{Checked}
use Rattle.passes.specs.Parts.{IsPart}
use Rattle.passes.specs.declared.given.Given.{Given}
use Rattle.passes.specs.declared.walls.Place.{Place}
use Rattle.passes.specs.Joining.{PartOk, Located, NoCut, location_by}
use Rattle.passes.specs.Placing.{IsPlace, IsBlock, with_walls}
use Rattle.steps.specs.Ready.{SwitchReady}
use Rattle.passes.proofs.PartWords.{place_is, levels_from, invariant_in, piece_part, part-within, part_levels, is_part_ok}
use Rattle.plant.proofs.FaceWords.{piece_words_lem}
use Rattle.passes.proofs.Locations.{are_faces, each_joined}

-- the wall of a face is one word of the invariant
pub wall-word : (m : List ℤ) (l f : ℕ) → face_wall m l f ≡ word (invariant m l) f
unfolding face_wall
wall-word m l f = sym (wall_at (invariant m l) (variable_of f) (side_of f) (omega arith)) ∙ ap (word (invariant m l)) (omega arith)

-- a cut by its number of pieces, and by its place inside the invariant

none_of : (c : Option Cut) → pieces_per_face c ≡ 1 → c ≡ None
unfolding pieces_per_face
none_of None e = refl
none_of (Some cut) e = absurd (omega arith)

pub below_of : (n : ℕ) (inv : List ℤ) (c : Option Cut) → CutInside n inv c → CutBelow n c
below_of n inv None h = tt
below_of n inv (Some cut) h = h.0

one_of : (n : ℕ) (c : Option Cut) → 1 ≤ n → 2 * n * pieces_per_face c ≡ 2 * n → pieces_per_face c ≡ 1
unfolding pieces_per_face
one_of n None u e = refl
one_of n (Some cut) u e = absurd (omega arith)

at_least : (n : ℕ) (c : Option Cut) → 2 * n ≤ 2 * n * pieces_per_face c
unfolding pieces_per_face
at_least n None = omega arith
at_least n (Some cut) = omega arith

-- of a model with 2n pieces for each location none is cut
pub no_cut : (m : List ℤ) → 1 ≤ n# m → pieces_before m (L# m) ≡ 2 * n# m * L# m → NoCut m
unfolding pieces_before pieces per_face
no_cut m u e = record {
  one_each = λ l v.
      let a : 2 * n# m ≤ pieces m l = at_least (n# m) (cut_of m l) in
      let b : pieces m l ≤ 2 * n# m = sum_back (L# m) (λ l. 2 * n# m) (pieces m) (λ l _. at_least (n# m) (cut_of m l)) (omega (arith, e, sum_same (L# m) (2 * n# m))) l v in
      one_of (n# m) (cut_of m l) u (omega arith);
}

pub uncut_of : {m : List ℤ} {l n count : ℕ} → Located m l n count → count ≡ 2 * n → cut_of m l ≡ None
unfolding pieces per_face
uncut_of {m} {l} k e = none_of (cut_of m l) (one_of (n# m) (cut_of m l) (passed m k.passes).n_positive (sym k.count_is ∙ e ∙ ap (λ (x : ℕ). 2 * x) k.n_is))

module _ (m t : List ℤ) (ok : Checked m t) where
  pub model_passed : Passed m
  model_passed = passed m ok.ready.passes

  pub whole : Whole m
  whole = whole_passed m model_passed

  pub placed : (e : ℕ) → e < E# m → Placed m e
  placed e l = switch_placed m model_passed e l

module _ (g : Given) where
  abbrev m : List ℤ
  m = g.model.now

  abbrev t : List ℤ
  t = g.table.now

  pub model_ok : Passed m
  model_ok = model_passed m t g.checked

  -- ---- the parts of a location

  module _ (l p : ℕ) (u : l < L# m) (v : p ≤ pieces m l) {words : List ℤ} (h : IsPart (n# m) words (part_of m t l p)) where
    pub part_inside : PartOk (n# m) (InInvariant (n# m) (invariant m l)) words
    part_inside = is_part_ok (n# m) (InInvariant (n# m) (invariant m l)) words (part_of m t l p) h (part-within m model_ok l u t g.checked.ready.room (true_is g.checked.valid) p v)

    pub part_ok : PartOk (n# m) (Levels (n# m)) words
    part_ok = is_part_ok (n# m) (Levels (n# m)) words (part_of m t l p) h (part_levels m model_ok l u t g.checked.ready.room (true_is g.checked.valid) p v)

  -- piece q of location l, whose words code has
  pub piece_is_part : (l q : ℕ) → l < L# m → q < pieces m l → {n at : ℕ} → n ≡ n# m → at ≡ piece_at m l q → {words : List ℤ} → words ≡ take (face_size n) (drop at t) → IsPart (n# m) words (part_of m t l (q + 1))
  unfolding part_of
  piece_is_part l q u v e a h = rw (add-one q) (piece_part m l u t g.checked.ready.room q v e a h)

  -- the words of a piece of the table are those of the piece
  pub old_words : (l q : ℕ) → l < L# m → q < pieces m l → words_of m t l q ≡ face_words (n# m) (piece_of m t l q)
  old_words = piece_words_lem m t g.checked.ready.room (true_is g.checked.valid)

  -- ---- the wall steps from them to the pieces of location l, with what was read of it

  module _ (l : ℕ) (u : l < L# m) where
    -- the words that it has in the table
    pub old_location : {from k : ℕ} → from ≡ piece_at m l 0 → k ≡ location_words m l → take k (drop from t) ≡ location_by m l (piece_of m t l)
    old_location a b =
        rw (a, b) (sym (cat_parts t (piece_at m l 0) (face_size (n# m)) (pieces m l)))
        ∙ cat_ext (pieces m l) _ (λ q. face_words (n# m) (piece_of m t l q)) (λ q v. ap (λ (k : ℕ). take (face_size (n# m)) (drop k t)) (there q) ∙ old_words l q u v)
      where
        there : (q : ℕ) → piece_at m l 0 + q * face_size (n# m) ≡ piece_at m l q
        there q = omega (arith, piece_place m l 0, piece_place m l q)

    -- its pieces, joined with the wall steps from the parts below p
    abbrev pub joined_to : ℕ → List ℤ
    joined_to p = location_by m l (λ q. joins (n# m) p (wall_from m t l q) (piece_of m t l q))

    pub joined_none : {block : List ℤ} → block ≡ location_by m l (piece_of m t l) → block ≡ joined_to 0
    unfolding joins
    joined_none e = e

    pub joined_all : joined_to (pieces m l + 1) ≡ location_by m l (walls_joined m t l)
    unfolding walls_joined
    joined_all = rw (add-one (pieces m l))

    module _ {p : Place} (r : IsPlace m l p) where
      -- part k, once its steps are joined
      module _ (k : ℕ) {block : List ℤ} (block-is : block ≡ joined_to k) where
        pub is_block : IsBlock p block
        unfolding pieces per_face
        is_block = rw (r.n_is, r.cut_is) (are_faces (n# m) (pieces m l) (λ q. joins (n# m) k (wall_from m t l q) (piece_of m t l q)) block-is)

        module _ {part : Face} (part_is : part ≡ part_of m t l k) where
          walls_are : (q : ℕ) → cut_each (n# m) (cut_of m l) (variable_of (q / per_face m l)) (on_box part (λ b. wall_step (n# m) (invariant m l) (rate m l) b (variable_of (q / per_face m l)) (word (invariant m l) (q / per_face m l)))) (q % per_face m l) ≡ wall_from m t l q k
          unfolding wall_from to_piece wall_step_at piece_extent piece_variable piece_face piece_index per_face
          walls_are q = rw (← (wall-word m l (piece_face m l q)), part_is) refl

          pub joined_next : {exit : List ℤ} → exit ≡ with_walls p part block → exit ≡ joined_to (k + 1)
          unfolding joins pieces per_face
          joined_next e = rw (add-one k)
              (e ∙ rw (r.n_is, r.invariant_is, r.rate_is, r.cut_is) (each_joined (n# m) (pieces m l) (λ q. joins (n# m) k (wall_from m t l q) (piece_of m t l q)) block-is _)
              ∙ cat_ext (pieces m l) _ _ (λ q v. ap (λ (x : Face). face_words (n# m) (join (n# m) (joins (n# m) k (wall_from m t l q) (piece_of m t l q)) x)) (walls_are q)))

      -- the start part, before all others
      pub start_joined : {block exit : List ℤ} → block ≡ location_by m l (piece_of m t l) → exit ≡ with_walls p (start_part m l) block → exit ≡ joined_to 1
      unfolding part_of
      start_joined e = joined_next 0 (joined_none e) refl

      -- a part whose words code has
      module _ (k : ℕ) (v : k ≤ pieces m l) {part : List ℤ} (part_is : IsPart (n# m) part (part_of m t l k)) where
        pub part_lies : PartOk p.n (InInvariant p.n p.invariant.now) part
        part_lies = rw (r.n_is, r.invariant_is) (part_inside l k u v part_is)

        pub joined_more : {block exit : List ℤ} → block ≡ joined_to k → exit ≡ with_walls p (face_read p.n part 0) block → exit ≡ joined_to (k + 1)
        joined_more e = joined_next k e (rw r.n_is part_is.gives)

  -- ---- the step of switch e

  -- the face that it leaves, with its pieces, and the one on which it lands
  pub source_face_lem : (e : ℕ) → e < E# m → (source m e < L# m) × (source_face m e < 2 * n# m)
  source_face_lem e u = let p : Placed m e = g.placed e u in (p.source_is, omega (arith, p.variable_is, p.source_side_is))

  pub source_below : (e k : ℕ) → e < E# m → k < per_face m (source m e) → source_piece m e k < pieces m (source m e)
  unfolding source_piece
  source_below e k u v = number_below m (source m e) (source_face m e) k (source_face_lem e u).1 v

  pub target_face_lem : (e : ℕ) → e < E# m → target_face m e < 2 * n# m
  target_face_lem e l = let p : Placed m e = g.placed e l in omega (arith, p.variable_is, p.target_side_is)

  -- in a model without a cut it lands on a face of one piece
  pub lands_uncut : NoCut m → (e : ℕ) → e < E# m → None ≡ cut_of m (target m e)
  unfolding per_face
  lands_uncut none e u = sym (none_of (cut_of m (target m e)) (none.one_each (target m e) (g.placed e u).target_is))

  -- the box of a piece of its source's face
  pub source_levels : (e k : ℕ) → e < E# m → k < per_face m (source m e) → {from : List ℤ} → IsPart (n# m) from (part_of m t (source m e) (source_piece m e k + 1)) → PartOk (n# m) (Levels (n# m)) from
  source_levels e k u v = part_ok (source m e) (source_piece m e k + 1) (g.placed e u).source_is (omega (arith, source_below e k u v))

  -- its records are boxes of levels
  pub switch_ready : (e : ℕ) → e < E# m → {bounds out : List ℤ} → Levels (n# m) bounds → 2 * n# m ≤ length out → SwitchReady (n# m) (guard m e) (reset m e) (invariant m (target m e)) bounds out
  switch_ready e u b room =
      let s : SwitchPassed m e = model_ok.of_switch e u in
      record {
        guard_in = levels_from (n# m) (guard m e) (length-guard m g.whole e u) s.guard_levels;
        reset_in = levels_from (n# m) (reset m e) (length-reset m g.whole e u) s.reset_levels;
        inv_in = invariant_in m model_ok (target m e) (g.placed e u).target_is;
        from_in = b;
        room = room;
      }

-- ---- the locations, one after the other

abbrev pub locations_of : List ℤ → List ℤ → ℕ → List ℤ
locations_of m t l = location_by m l (walls_joined m t l)

pub all_locations : (m t : List ℤ) → cat (L# m) (locations_of m t) ≡ table_by m (walls_joined m t)
unfolding table_by
all_locations m t = refl

pub locations_sized : (m t : List ℤ) (l : ℕ) → length (locations_of m t l) ≡ location_words m l
locations_sized m t l = location_length m (walls_joined m t) l

pub table_small : (g : Given) → table_size g.model.now ≤ 19968
table_small g = table_most g.model.now g.whole.head

-- how many pieces stand before location k, and where a piece of it begins, as code has it
module _ (g : Given) {l k : ℕ} (l_is : l ≡ k) (u : k ≤ L# g.model.now) where
  pub before_is : get_or g.places.now l 0 ≡ pieces_before g.model.now k
  before_is = rw l_is (g.counted.each k u)

  pub before_small : get_or g.places.now l 0 ≤ 1536
  before_small = omega (arith, before_is, before_most g.model.now g.whole.head k u)

  pub piece_begins : {n q p at : ℕ} → n ≡ n# g.model.now → q ≡ p → at ≡ (get_or g.places.now l 0 + q) * face_size n → at ≡ piece_at g.model.now k p
  piece_begins {n} {q} {p} n_is q_is h = place_is g.model.now k q n_is before_is h ∙ ap (piece_at g.model.now k) q_is

module _ (m : List ℤ) where
  -- the words of location l: where they begin and end, by what code has
  module _ (l : ℕ) {at end : ℕ} (at_is : at ≡ piece_at m l 0) (end_is : end ≡ piece_at m (l + 1) 0) where
    pub location_from : at ≡ sum_below l (location_words m)
    location_from = omega (arith, at_is, piece_place m l 0, words_before m l)

    pub location_to : end ≡ at + location_words m l
    location_to = omega (arith, at_is, end_is, piece_place m l 0, piece_place m (l + 1) 0, ap (λ (k : ℕ). k * face_size (n# m)) (before_more m l))

  -- a location that begins in the table ends in it
  pub location_inside : (l : ℕ) {at : ℕ} → at ≡ piece_at m l 0 → l < L# m → {k : ℕ} → k ≡ table_size m → at + location_words m l ≤ k
  unfolding table_size piece_count
  location_inside l a u h = omega (arith, a, piece_place m l 0, words_before m l, sum_part (L# m) (location_words m) l u, words_before m (L# m), h)

  pub table_sized : {k : ℕ} → k ≡ table_size m → k ≡ sum_below (L# m) (location_words m)
  unfolding table_size piece_count
  table_sized h = h ∙ sym (words_before m (L# m))
