-- A switch step joined to the words of the pieces on which it lands is joined to those pieces of the table and to no other.
use Rattle.std.specs.Prelude.{Option, Some, None}
use mathlib.Core.Path.{◌≡◌, refl, sym, ap, ◌∙◌}
use mathlib.Core.Bool.{Bool, cond, ◌&&◌, true, false}
use mathlib.Core.List.{List, ◌++◌, append_assoc}
use Prim.Native.Nat.{ℕ, suc, ◌+◌, ◌*◌, ◌/◌, ◌<◌, ◌≤◌}
use native.Mathlib.Nat.{mul-le-mul, mul-le-mul_right}
use native.Mathlib.Numerals.{add-one}
use native.Mathlib.Omega.{arith}
use lib.Dec.{T, eqb, eqb→eq}
use lib.IntN.{ℤ}
use lib.ListN.{length, length-append}
use borrow.Author.Tests.{eq-eqb}
use borrow.Rule.Slice.PartMut.{mid_of, put_mid}
use Rattle.integers.specs.Counted.{cat}
use Rattle.integers.proofs.Counted.{sum_part}
use Rattle.integers.proofs.Buffers.{length_cat_sum, cat_ext}
use Rattle.plant.specs.Box.{Face, absent, on_box, face_words, join, joins}
use Rattle.plant.specs.declared.Cut.{Cut}
use Rattle.plant.specs.Model.{n#, L#, E#, source, target, wall_variable, target_side, cut_of, variable_of}
use Rattle.plant.specs.Pieces.{Extent, extent_by, cut_to_extent, pieces_per_face, per_face, pieces, piece_number, piece_face}
use Rattle.plant.specs.Steps.{switch_step}
use Rattle.plant.specs.Tables.{face_size, piece_count, table_size, piece_at, table_by, piece_of, part_of, source_piece, target_face, switch_step_at, to_piece, switch_onto, walls_joined, switches_joined, new_piece, pass}
use Rattle.plant.proofs.Pieces.{per_face_most, number_face, extent_number}
use Rattle.plant.proofs.Tables.{location_words, words_before, piece_place, location_length, words_ends, begins_itself, piece_read, table_ext, table_length}
use Rattle.tables.specs.Room.{faces_by, AreFaces, joined_each, cut_each}
use Rattle.tables.proofs.Faces.{join_absent}
use Rattle.passes.specs.Joining.{IsTable, location_by, landed_on, with_landed, with_switch, joined_below}
use Rattle.passes.proofs.Joined.{join_ends}
use Rattle.passes.proofs.Blocks.{put_between, mid_between, cat_one, Differ, differ}
use Rattle.passes.proofs.Locations.{faces_length, are_faces, each_joined}

-- ---- k pieces of a table, from piece q of location l on

module _ (m : List ℤ) (g h : ℕ → ℕ → Face) (l q k : ℕ) (u : l < L# m) (v : q + k ≤ pieces m l)
    (elsewhere : (l' q' : ℕ) → (l' ≡ l → q ≤ q' → q' < q + k → ⊥) → g l' q' ≡ h l' q') where
  in_location : Differ (pieces m l) (λ q. face_words (n# m) (g l q)) (λ q. face_words (n# m) (h l q)) q k
  in_location = differ (pieces m l) _ _ q k v (λ j w x. ap (face_words (n# m)) (elsewhere l j (λ _ a b. x a b)))

  in_table : Differ (L# m) (λ l. location_by m l (g l)) (λ l. location_by m l (h l)) l 1
  in_table = differ (L# m) _ _ l 1 (omega arith) (λ j w x. cat_ext (pieces m j) _ _ (λ i y. ap (face_words (n# m)) (elsewhere j i (λ e _ _. x (omega arith) (omega arith)))))

  before : List ℤ
  before = cat l (λ l. location_by m l (g l)) ++ cat q (λ q. face_words (n# m) (g l q))

  after : List ℤ
  after = in_location.rest ++ in_table.rest

  group : (a b x c d : List ℤ) → a ++ ((b ++ (x ++ c)) ++ d) ≡ (a ++ b) ++ (x ++ (c ++ d))
  group a b x c d = simp append_assoc

  -- the one location
  alone : (f : ℕ → ℕ → Face) → cat 1 (λ j. location_by m (l + j) (f (l + j))) ≡ location_by m l (f l)
  alone f = let e : l + 0 ≡ l = omega arith in cat_one (λ j. location_by m (l + j) (f (l + j))) ∙ ap (λ (x : ℕ). location_by m x (f x)) e

  first_is : table_by m g ≡ before ++ (faces_by (n# m) k (λ j. g l (q + j)) ++ after)
  unfolding table_by before after
  first_is = in_table.is_first ∙ ap (λ (s : List ℤ). cat l (λ l. location_by m l (g l)) ++ (s ++ in_table.rest)) (alone g ∙ in_location.is_first)
      ∙ group (cat l (λ l. location_by m l (g l))) (cat q (λ q. face_words (n# m) (g l q))) (faces_by (n# m) k (λ j. g l (q + j))) in_location.rest in_table.rest

  second_is : table_by m h ≡ before ++ (faces_by (n# m) k (λ j. h l (q + j)) ++ after)
  unfolding table_by before after
  second_is = in_table.is_second ∙ ap (λ (s : List ℤ). cat l (λ l. location_by m l (g l)) ++ (s ++ in_table.rest)) (alone h ∙ in_location.is_second)
      ∙ group (cat l (λ l. location_by m l (g l))) (cat q (λ q. face_words (n# m) (g l q))) (faces_by (n# m) k (λ j. h l (q + j))) in_location.rest in_table.rest

  before_length : length before ≡ piece_at m l q
  unfolding before
  before_length = omega (
    arith,
    length-append (cat l (λ l. location_by m l (g l))) (cat q (λ q. face_words (n# m) (g l q))),
    length_cat_sum l (location_words m) (λ l. location_by m l (g l)) (λ j w. location_length m g j),
    words_before m l,
    faces_length (n# m) q (g l),
    piece_place m l q,
  )

  -- their words
  pub pieces-part : mid_of (piece_at m l q) (k * face_size (n# m)) (table_by m g) ≡ faces_by (n# m) k (λ j. g l (q + j))
  pieces-part = ap (mid_of (piece_at m l q) (k * face_size (n# m))) first_is
      ∙ mid_between before (faces_by (n# m) k (λ j. g l (q + j))) after (piece_at m l q) (k * face_size (n# m)) before_length (faces_length (n# m) k (λ j. g l (q + j)))

  -- other words in their place
  pub pieces_put : put_mid (piece_at m l q) (k * face_size (n# m)) (table_by m g) (faces_by (n# m) k (λ j. h l (q + j))) ≡ table_by m h
  pieces_put = ap (λ (s : List ℤ). put_mid (piece_at m l q) (k * face_size (n# m)) s (faces_by (n# m) k (λ j. h l (q + j)))) first_is
      ∙ put_between before (faces_by (n# m) k (λ j. g l (q + j))) after (faces_by (n# m) k (λ j. h l (q + j))) (piece_at m l q) (k * face_size (n# m)) before_length (faces_length (n# m) k (λ j. g l (q + j)))
      ∙ sym second_is

-- one piece alone
pub piece_put : (m : List ℤ) (g h : ℕ → ℕ → Face) (l q : ℕ) → l < L# m → q < pieces m l → ((l' q' : ℕ) → (l' ≡ l → q' ≡ q → ⊥) → g l' q' ≡ h l' q') → put_mid (piece_at m l q) (face_size (n# m)) (table_by m g) (face_words (n# m) (h l q)) ≡ table_by m h
piece_put m g h l q u v elsewhere =
    (λ i. put_mid (piece_at m l q) (size i) (table_by m g) (sym one i))
    ∙ pieces_put m g h l q 1 u (omega arith) (λ l' q' x. elsewhere l' q' (λ a b. x a (omega arith) (omega arith)))
  where
    size : face_size (n# m) ≡ 1 * face_size (n# m)
    size = omega arith

    one : faces_by (n# m) 1 (λ j. h l (q + j)) ≡ face_words (n# m) (h l q)
    one = let e : q + 0 ≡ q = omega arith in cat_one (λ j. face_words (n# m) (h l (q + j))) ∙ ap (λ (x : ℕ). face_words (n# m) (h l x)) e

-- ---- where switch e lands: on the pieces of its target's face

-- the pieces of face f
of_face : (c : Option Cut) (f q : ℕ) → q / pieces_per_face c ≡ f → (f * pieces_per_face c ≤ q) × (q < f * pieces_per_face c + pieces_per_face c)
unfolding pieces_per_face
of_face None f q e = (omega arith, omega arith)
of_face (Some cut) f q e = (omega arith, omega arith)

-- the first of the pieces on which switch e lands
abbrev pub target_first : List ℤ → ℕ → ℕ
target_first m e = target_face m e * per_face m (target m e)

pub first_small : (m : List ℤ) (e : ℕ) → n# m ≤ 6 → target_face m e < 2 * n# m → target_first m e ≤ 24
first_small m e u v =
    let a : target_face m e ≤ 12 = omega arith in
    let b : target_first m e ≤ 12 * 2 = mul-le-mul a (per_face_most m (target m e)) in
    omega arith

module _ (m : List ℤ) (e : ℕ) (g : Face) where
  lands_there : target_side m e ≤ 1 → (j : ℕ) → j < per_face m (target m e) → cut_each (n# m) (cut_of m (target m e)) (wall_variable m e) (g) j ≡ landed_on m e g (target m e) (target_first m e + j)
  unfolding to_piece piece_number
  lands_there s j u = sym (
      ap (λ (b : Bool). cond (b && eqb (target_face m e) (piece_face m (target m e) (target_first m e + j))) onto absent) (eq-eqb (target m e) (target m e) refl)
      ∙ ap (λ (b : Bool). cond b onto absent) (eq-eqb (target_face m e) (piece_face m (target m e) (target_first m e + j)) (sym (number_face m (target m e) (target_face m e) j u)))
      ∙ ap (λ (x : Extent). on_box (g) (cut_to_extent (n# m) x)) (extent_number m (target m e) (target_face m e) j u)
      ∙ ap (λ (d : ℕ). on_box (g) (cut_to_extent (n# m) (extent_by (cut_of m (target m e)) d j))) half)
    where
      onto : Face
      onto = to_piece m (target m e) (target_first m e + j) (g)

      half : variable_of (target_face m e) ≡ wall_variable m e
      half = omega arith

  by_tests : (a b : Bool) (x : Face) → (T a → T b → ⊥) → cond (a && b) x absent ≡ absent
  by_tests true true x h = absurd (h tt tt)
  by_tests true false x h = refl
  by_tests false b x h = refl

  lands_nowhere_else : (l q : ℕ) → (l ≡ target m e → target_first m e ≤ q → q < target_first m e + per_face m (target m e) → ⊥) → landed_on m e g l q ≡ absent
  unfolding piece_face per_face
  lands_nowhere_else l q h = by_tests (eqb (target m e) l) (eqb (target_face m e) (piece_face m l q)) _ (λ a b. not_there (sym (eqb→eq (target m e) l a)) (sym (eqb→eq (target_face m e) (piece_face m l q) b)))
    where
      not_there : l ≡ target m e → piece_face m l q ≡ target_face m e → ⊥
      not_there a b =
          let r : (target_first m e ≤ q) × (q < target_first m e + per_face m (target m e)) = of_face (cut_of m (target m e)) (target_face m e) q (ap (λ (x : ℕ). piece_face m x q) (sym a) ∙ b) in
          h a r.0 r.1

-- a table whose words are those of its pieces, of which some words at a place are the pieces on which switch e lands
module _ (m : List ℤ) (e : ℕ) (g : Face) (u : target m e < L# m) (v : target_face m e < 2 * n# m) (s : target_side m e ≤ 1) (out : List ℤ) (table : IsTable m out) where
  abbrev landed_piece : ℕ → ℕ → Face
  landed_piece l q = join (n# m) (piece_of m out l q) (landed_on m e g l q)

  elsewhere : (l q : ℕ) → (l ≡ target m e → target_first m e ≤ q → q < target_first m e + per_face m (target m e) → ⊥) → piece_of m out l q ≡ landed_piece l q
  elsewhere l q h = sym (ap (join (n# m) (piece_of m out l q)) (lands_nowhere_else m e g l q h) ∙ join_absent (n# m) (piece_of m out l q))

  there : target_first m e + per_face m (target m e) ≤ pieces m (target m e)
  unfolding pieces
  there = omega (arith, mul-le-mul_right (per_face m (target m e)) v)

  pub lands_inside : piece_at m (target m e) (target_first m e) + per_face m (target m e) * face_size (n# m) ≤ table_size m
  unfolding table_size piece_count
  lands_inside = omega (arith, piece_place m (target m e) (target_first m e), mul-le-mul_right (face_size (n# m)) there, sum_part (L# m) (location_words m) (target m e) u, words_before m (target m e), words_before m (L# m))

  pub out_long : length out ≡ table_size m
  out_long = ap length (sym table) ∙ table_length m (piece_of m out)

  module _ {at w : ℕ} (at_is : at ≡ piece_at m (target m e) (target_first m e)) (w-is : w ≡ per_face m (target m e) * face_size (n# m)) where
    target_words : mid_of at w out ≡ faces_by (n# m) (per_face m (target m e)) (λ j. piece_of m out (target m e) (target_first m e + j))
    target_words = rw (at_is, w-is)
        (ap (mid_of (piece_at m (target m e) (target_first m e)) (per_face m (target m e) * face_size (n# m))) (sym table)
        ∙ pieces-part m (piece_of m out) landed_piece (target m e) (target_first m e) (per_face m (target m e)) u there elsewhere)

    pub target_are_pieces : AreFaces (n# m) (per_face m (target m e)) (mid_of at w out)
    target_are_pieces = are_faces (n# m) (per_face m (target m e)) (λ j. piece_of m out (target m e) (target_first m e + j)) target_words

    landed_words : joined_each (n# m) (per_face m (target m e)) (mid_of at w out) (cut_each (n# m) (cut_of m (target m e)) (wall_variable m e) g) ≡ faces_by (n# m) (per_face m (target m e)) (λ j. landed_piece (target m e) (target_first m e + j))
    landed_words =
        each_joined (n# m) (per_face m (target m e)) (λ j. piece_of m out (target m e) (target_first m e + j)) target_words (cut_each (n# m) (cut_of m (target m e)) (wall_variable m e) (g))
        ∙ cat_ext (per_face m (target m e)) _ _ (λ j x. ap (λ (y : Face). face_words (n# m) (join (n# m) (piece_of m out (target m e) (target_first m e + j)) y)) (lands_there m e g s j x))

    pub landed : {words : List ℤ} → words ≡ joined_each (n# m) (per_face m (target m e)) (mid_of at w out) (cut_each (n# m) (cut_of m (target m e)) (wall_variable m e) g) → put_mid at w out words ≡ with_landed m e g out
    landed h = rw (h, landed_words, at_is, w-is)
        (ap (λ (x : List ℤ). put_mid (piece_at m (target m e) (target_first m e)) (per_face m (target m e) * face_size (n# m)) x (faces_by (n# m) (per_face m (target m e)) (λ j. landed_piece (target m e) (target_first m e + j)))) (sym table)
        ∙ pieces_put m (piece_of m out) landed_piece (target m e) (target_first m e) (per_face m (target m e)) u there elsewhere)

-- ---- the switches below e, and switch e from the pieces of its source's face below k

abbrev pub joined_from : List ℤ → List ℤ → ℕ → ℕ → ℕ → ℕ → Face
joined_from m t e k l q = joins (n# m) k (switch_onto m t l q e) (switches_joined m t l q e)

module _ (m t : List ℤ) where
  pub switches_none : table_by m (walls_joined m t) ≡ table_by m (joined_below m t 0)
  unfolding switches_joined
  switches_none = refl

  pub switches_all : table_by m (joined_below m t (E# m)) ≡ pass m t
  unfolding pass new_piece
  switches_all = refl

  pub from_none : (e : ℕ) → table_by m (joined_below m t e) ≡ table_by m (joined_from m t e 0)
  unfolding joins
  from_none e = refl

  pub from_all : (e : ℕ) → table_by m (joined_from m t e (per_face m (source m e))) ≡ table_by m (joined_below m t (e + 1))
  unfolding switches_joined
  from_all e = rw (add-one e) refl

  pub is_table : (g : ℕ → ℕ → Face) {out : List ℤ} → out ≡ table_by m g → IsTable m out
  is_table g e = rw e (table_ext m (piece_of m (table_by m g)) g
      (λ l q u v. ap (face_words (n# m)) (piece_read m (table_by m g) g (begins_itself m g) l q u v) ∙ words_ends (n# m) (g l q)))

  pub from_more : (e k : ℕ) {out : List ℤ} → out ≡ table_by m (joined_from m t e k) → with_switch m t e k out ≡ table_by m (joined_from m t e (k + 1))
  unfolding joins
  from_more e k h =
      let g = joined_from m t e k in
      rw (h, add-one k) (table_ext m (λ l q. join (n# m) (piece_of m (table_by m g) l q) (switch_onto m t l q e k)) (joined_from m t e (suc k))
      (λ l q u v. ap (λ (x : Face). face_words (n# m) (join (n# m) x (switch_onto m t l q e k))) (piece_read m (table_by m g) g (begins_itself m g) l q u v)
      ∙ join_ends (n# m) (g l q) (switch_onto m t l q e k)))

  -- from a face of one piece
  pub from_one : (e : ℕ) → per_face m (source m e) ≡ 1 → {out : List ℤ} → out ≡ table_by m (joined_below m t e) → with_switch m t e 0 out ≡ table_by m (joined_below m t (e + 1))
  from_one e one h = from_more e 0 (h ∙ from_none e) ∙ ap (λ (k : ℕ). table_by m (joined_from m t e k)) all ∙ from_all e
    where
      all : 0 + 1 ≡ per_face m (source m e)
      all = omega (arith, one)

-- ---- a step that gives nothing lands nothing

pub nothing_landed : (m : List ℤ) (e : ℕ) {g : Face} → g ≡ absent → {out : List ℤ} → IsTable m out → out ≡ with_landed m e g out
unfolding to_piece
nothing_landed m e {g} gone {out} is =
    sym is
    ∙ table_ext m (piece_of m out) (λ l q. join (n# m) (piece_of m out l q) (landed_on m e g l q))
    (λ l q u v. ap (face_words (n# m)) (sym (ap (join (n# m) (piece_of m out l q)) (nothing l q) ∙ join_absent (n# m) (piece_of m out l q))))
  where
    either : (b : Bool) (l q : ℕ) → cond b (to_piece m l q absent) absent ≡ absent
    either true l q = refl
    either false l q = refl

    nothing : (l q : ℕ) → landed_on m e g l q ≡ absent
    nothing l q = ap (λ (g : Face). landed_on m e g l q) gone ∙ either (eqb (target m e) l && eqb (target_face m e) (piece_face m l q)) l q

-- what switch e lands from piece k of its source's face
module _ (m t : List ℤ) (e k : ℕ) where
  pub landed_from : {g : Face} → g ≡ part_of m t (source m e) (source_piece m e k + 1) → (out : List ℤ) {exit : List ℤ} → exit ≡ with_landed m e (switch_step_at m e g) out → exit ≡ with_switch m t e k out
  unfolding switch_onto part_of
  landed_from part_is out h = h ∙ rw (part_is, add-one (source_piece m e k)) refl

  pub step_none : {g : Face} → g ≡ absent → switch_step_at m e g ≡ absent
  unfolding switch_step_at switch_step
  step_none gone = rw gone refl
