-- Faces that stand one after the other: each is read back from its place, and there it is joined with what leads to it. In a
-- location they are the pieces of its faces, as many for each.
use Rattle.std.specs.Prelude.{Option, Some, None}
use mathlib.Core.Path.{◌≡◌, sym, ap, ◌∙◌}
use mathlib.Core.List.{List, ◌++◌}
use Prim.Native.Nat.{ℕ, ◌+◌, ◌*◌, ◌-◌, ◌<◌, ◌≤◌}
use native.Mathlib.Nat.{mul-le-mul, mul-le-mul_right}
use native.Mathlib.Omega.{arith}
use lib.IntN.{ℤ}
use lib.ListN.{length}
use borrow.Rule.Slice.PartMut.{mid_of}
use Rattle.integers.specs.Words.{onto}
use Rattle.integers.specs.Counted.{cat, sum_below}
use Rattle.integers.proofs.Counted.{sum_same}
use Rattle.integers.proofs.Buffers.{cat_at, length-cat, cat_ext}
use Rattle.integers.proofs.Rows.{cat_groups}
use Rattle.plant.specs.Box.{Face, face_words, join}
use Rattle.plant.specs.declared.Cut.{Cut}
use Rattle.plant.specs.Pieces.{pieces_per_face}
use Rattle.plant.specs.Tables.{face_size, face_read}
use Rattle.plant.proofs.Boxes.{length_face}
use Rattle.plant.proofs.Tables.{ends, words_ends}
use Rattle.tables.specs.Room.{faces_by, face_in, AreFaces, joined_each}
use Rattle.passes.specs.Joining.{pieces_with}
use Rattle.plant.proofs.FaceWords.{read_words, face_there}
use Rattle.passes.proofs.Joined.{join_ends}
use Rattle.passes.proofs.Blocks.{mid_between, place_rest}

-- ---- the k faces g

module _ (n k : ℕ) (g : ℕ → Face) where
  pub faces_length : length (faces_by n k g) ≡ k * face_size n
  faces_length = length-cat k (face_size n) (λ q. face_words n (g q)) (λ q _. length_face n (g q))

  words_there : (q : ℕ) → q < k → mid_of (q * face_size n) (face_size n) (faces_by n k g) ≡ face_words n (g q)
  words_there q u =
      let d = cat_at (λ q. face_words n (g q)) k q u in
      ap (mid_of (q * face_size n) (face_size n)) d.1
      ∙ mid_between (cat q (λ q. face_words n (g q))) (face_words n (g q)) d.0 (q * face_size n) (face_size n) (length-cat q (face_size n) (λ q. face_words n (g q)) (λ j _. length_face n (g j))) (length_face n (g q))

  face_back : (q : ℕ) → q < k → face_in n (faces_by n k g) q ≡ ends n (g q)
  face_back q u = sym (face_there n (faces_by n k g) (q * face_size n)) ∙ ap (λ (s : List ℤ). face_read n s 0) (words_there q u) ∙ read_words n (g q)

  module _ {words : List ℤ} (e : words ≡ faces_by n k g) where
    pub are_faces : AreFaces n k words
    are_faces = rw e (cat_ext k (λ q. face_words n (face_in n (faces_by n k g) q)) (λ q. face_words n (g q)) (λ q u. ap (face_words n) (face_back q u) ∙ words_ends n (g q)))

    pub each_joined : (h : ℕ → Face) → joined_each n k words h ≡ faces_by n k (λ q. join n (g q) (h q))
    each_joined h = rw e (cat_ext k (λ q. face_words n (join n (face_in n (faces_by n k g) q) (h q))) (λ q. face_words n (join n (g q) (h q)))
        (λ q u. ap (λ (x : Face). face_words n (join n x (h q))) (face_back q u) ∙ join_ends n (g q) (h q)))

-- the same faces, joined with the same
pub same_joined : (n k : ℕ) (words : List ℤ) (h h' : ℕ → Face) → ((q : ℕ) → q < k → h q ≡ h' q) → joined_each n k words h ≡ joined_each n k words h'
same_joined n k words h h' e = cat_ext k (λ q. face_words n (join n (face_in n words q) (h q))) (λ q. face_words n (join n (face_in n words q) (h' q))) (λ q u. ap (λ (x : Face). face_words n (join n (face_in n words q) x)) (e q u))

-- ---- the pieces of a location with the cut c: of face f those from f * p on, p for each

pub pieces_few : (c : Option Cut) → pieces_per_face c ≤ 2
unfolding pieces_per_face
pieces_few None = omega arith
pieces_few (Some cut) = omega arith

pub group_few : (n : ℕ) (c : Option Cut) → n ≤ 6 → pieces_per_face c * face_size n ≤ 26
group_few n c h = let b : face_size n ≤ 13 = omega arith in let g : pieces_per_face c * face_size n ≤ 2 * 13 = mul-le-mul (pieces_few c) b in omega arith

-- of which the faces below f are joined with the faces h
module _ (n : ℕ) (c : Option Cut) (block : List ℤ) (h : ℕ → Face) where
  abbrev pub group_size : ℕ
  group_size = pieces_per_face c * face_size n

  abbrev pub joined_group : ℕ → List ℤ
  joined_group f = faces_by n (pieces_per_face c) (λ j. join n (face_in n block (f * pieces_per_face c + j)) (h (f * pieces_per_face c + j)))

  pub joined_sized : (f : ℕ) → length (joined_group f) ≡ group_size
  joined_sized f = faces_length n (pieces_per_face c) (λ j. join n (face_in n block (f * pieces_per_face c + j)) (h (f * pieces_per_face c + j)))

  pub groups_joined : cat (2 * n) joined_group ≡ joined_each n (pieces_with n c) block h
  groups_joined = sym (cat_groups (2 * n) (pieces_per_face c) (λ q. face_words n (join n (face_in n block q) (h q))))

  module _ (are : AreFaces n (pieces_with n c) block) where
    group : ℕ → List ℤ
    group f = faces_by n (pieces_per_face c) (λ j. face_in n block (f * pieces_per_face c + j))

    group_sized : (f : ℕ) → length (group f) ≡ group_size
    unfolding group
    group_sized f = faces_length n (pieces_per_face c) (λ j. face_in n block (f * pieces_per_face c + j))

    are_groups : block ≡ cat (2 * n) group
    unfolding group
    are_groups = sym are ∙ cat_groups (2 * n) (pieces_per_face c) (λ q. face_words n (face_in n block q))

    pub block_length : length block ≡ 2 * n * group_size
    block_length = ap length are_groups ∙ length-cat (2 * n) group_size group (λ f _. group_sized f)

    pub block_few : n ≤ 6 → length block ≤ 312
    block_few u = let a : 2 * n ≤ 12 = omega arith in let g : 2 * n * group_size ≤ 12 * 26 = mul-le-mul a (group_few n c u) in omega (arith, block_length)

    pub block_sum : length block ≡ sum_below (2 * n) (λ f. group_size)
    block_sum = block_length ∙ sym (sum_same (2 * n) group_size)

    pub next_inside : (f : ℕ) → f < 2 * n → f * group_size + group_size ≤ length block
    next_inside f u = omega (arith, block_length, mul-le-mul_right group_size u)

    module _ (f : ℕ) (u : f < 2 * n) {at end : ℕ} {ws : List ℤ} (filled : ws ≡ onto (cat f joined_group) block) (at_is : at ≡ f * group_size) (end_is : end ≡ at + group_size) where
      next_words : mid_of at (end - at) ws ≡ faces_by n (pieces_per_face c) (λ j. face_in n block (f * pieces_per_face c + j))
      unfolding group
      next_words =
          place_rest (λ f. group_size) joined_group joined_sized block f filled (at_is ∙ sym (sum_same f group_size)) end_is (omega (arith, next_inside f u))
          ∙ rw (size, at_is) (ap (mid_of (f * group_size) group_size) (are_groups ∙ there.1)
          ∙ mid_between (cat f group) (group f) there.0 (f * group_size) group_size (length-cat f group_size group (λ j _. group_sized j)) (group_sized f))
        where
          size : end - at ≡ group_size
          size = omega arith

          there : (r : List ℤ) × (cat (2 * n) group ≡ cat f group ++ (group f ++ r))
          there = cat_at group (2 * n) f u

      -- the next face's words are those of its pieces
      pub next_are_pieces : AreFaces n (pieces_per_face c) (mid_of at (end - at) ws)
      next_are_pieces = are_faces n (pieces_per_face c) (λ j. face_in n block (f * pieces_per_face c + j)) next_words

      pub next_joined : {exit : List ℤ} → exit ≡ joined_each n (pieces_per_face c) (mid_of at (end - at) ws) (λ j. h (f * pieces_per_face c + j)) → exit ≡ joined_group f
      next_joined e = e ∙ each_joined n (pieces_per_face c) (λ j. face_in n block (f * pieces_per_face c + j)) next_words (λ j. h (f * pieces_per_face c + j))
