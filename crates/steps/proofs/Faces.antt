-- What the steps hand over is the face of the definition: by the answer it is absent, or present with the box at the front of the lent words.
-- That box is ordered and inside the invariant.
use Rattle.std.specs.Prelude.{Option, Some, None}
use mathlib.Core.Path.{◌≡◌, refl, sym, ap, ◌∙◌, subst}
use mathlib.Core.Bool.{Bool, true, false, cond, ◌&&◌}
use mathlib.Core.List.{List, [], ◌++◌}
use Prim.Native.Nat.{ℕ, ◌+◌, ◌*◌, ◌-◌, ◌≤◌, ◌<◌}
use native.Mathlib.Omega.{arith}
use lib.IntN.{ℤ}
use lib.Signed.{le_z, lt_z}
use lib.ListN.{length, take, drop, take-append-drop}
use lib.Seq.{length-take-le, drop-append-add, drop-drop}
use Rattle.integers.specs.Words.{onto}
use Rattle.integers.specs.Counted.{all_below}
use Rattle.integers.proofs.Buffers.{take-onto, length-onto, onto_none}
use Rattle.plant.specs.declared.Interval.{Interval}
use Rattle.plant.specs.Box.{box_by, ordered, Inside, cut, Face, absent, present, unless_empty, on_box}
use Rattle.plant.specs.Steps.{low_after, high_after, box_after, face_after, set_masked, guarded, landed, switch_step}
use Rattle.plant.proofs.Boxes.{length-box_by, length_cut, cut_right, FaceAll, unless_all, on_box_all}
use Rattle.plant.proofs.WallStep.{box_after_inside}
use Rattle.delays.specs.Ranges.{InInvariant}
use Rattle.steps.specs.Handing.{Handed}
use Rattle.steps.proofs.Written.{OrderedSoFar, le_by, not_all, ordered_by}
use Rattle.integers.proofs.Tests.{is_true, true_is}
use Rattle.integers.proofs.Counted.{all_intro}
use Rattle.steps.proofs.Landing.{landed_box}

-- ---- the face handed over

-- a box in the first places
pub box_handed : (n : ℕ) (b out : List ℤ) (r : Bool) (face : Face) → length b ≡ 2 * n → face ≡ cond r (present b) absent → Handed n r (onto b out) out face
unfolding onto
box_handed n b out r face l e =
    let t : take (2 * n) (onto b out) ≡ b = take-onto b out (2 * n) l in
    record { is_face = rw t e; is_exit = rw t refl; sized = rw t l }

-- a list whose first places were filled is, from place k on, as it was
rest_kept : (a d : List ℤ) (k : ℕ) → length a ≤ k → drop k (onto a d) ≡ drop k d
unfolding onto
rest_kept a d k h =
    let j : ℕ = k - length a in
    let e : length a + j ≡ k = omega arith in
    ap (λ (x : ℕ). drop x (a ++ drop (length a) d)) (sym e) ∙ drop-append-add a (drop (length a) d) j ∙ drop-drop j (length a) d ∙ ap (λ (x : ℕ). drop x d) e

front_onto : (a d : List ℤ) (k : ℕ) → length a ≡ k → a ++ drop k d ≡ onto a d
unfolding onto
front_onto a d k e = ap (λ (x : ℕ). a ++ drop x d) (sym e)

-- no face, and at most its places written
pub none_handed : (n : ℕ) (a out : List ℤ) (face : Face) → length a ≤ 2 * n → 2 * n ≤ length out → face ≡ absent → Handed n false (onto a out) out face
none_handed n a out face h room e =
    let l : length (take (2 * n) (onto a out)) ≡ 2 * n = length-take-le (2 * n) (onto a out) (omega (arith, length-onto a out (omega arith))) in
    record {
      is_face = e;
      is_exit = sym (take-append-drop (2 * n) (onto a out)) ∙ ap (λ (x : List ℤ). take (2 * n) (onto a out) ++ x) (rest_kept a out (2 * n) h) ∙ front_onto (take (2 * n) (onto a out)) out (2 * n) l;
      sized = l;
    }

-- no face, and nothing written
pub nothing_handed : (n : ℕ) (out : List ℤ) (face : Face) → 2 * n ≤ length out → face ≡ absent → Handed n false out out face
nothing_handed n out face room e = subst (λ (x : List ℤ). Handed n false x out face) (sym (onto_none out)) (none_handed n [] out face (omega arith) room e)

-- the box of these lows and highs, written variable by variable
module _ (n : ℕ) (lo hi : ℕ → ℤ) where
  -- all written, each ordered
  pub ends_all : {exit out : List ℤ} → OrderedSoFar lo hi out exit n → Handed n true exit out (unless_empty n (box_by n lo hi))
  unfolding unless_empty
  ends_all {exit} {out} h =
      let o : all_below n (λ j. le_z (lo j) (hi j)) ≡ true = is_true (all_intro n _ (λ j l. true_is (le_by (lo j) (hi j) (h.are_ordered j l)))) in
      rw h.is_written (box_handed n (box_by n lo hi) out true _ (length-box_by n lo hi) (ap (λ (x : Bool). cond x (present (box_by n lo hi)) absent) (ordered_by n lo hi ∙ o)))

  -- left at a variable that is not ordered
  pub ends_left : {exit out : List ℤ} {i : ℕ} → OrderedSoFar lo hi out exit i → i < n → lt_z (hi i) (lo i) ≡ true → 2 * n ≤ length out → Handed n false exit out (unless_empty n (box_by n lo hi))
  unfolding unless_empty
  ends_left {exit} {out} {i} h l o room =
      rw h.is_written (none_handed n (box_by i lo hi) out _ (omega (arith, length-box_by i lo hi)) room
      (ap (λ (x : Bool). cond x (present (box_by n lo hi)) absent) (ordered_by n lo hi ∙ not_all n (λ j. le_z (lo j) (hi j)) i l (le_by (lo i) (hi i) o))))

module _ (n : ℕ) (inv rate part : List ℤ) (d : ℕ) (b : ℤ) where
  length_after : (t : Interval) → length (box_after n inv rate part d b t) ≡ 2 * n
  unfolding box_after
  length_after t = length-box_by n (low_after n inv rate part d b t) (high_after n inv rate part d b t)

module _ (n mask : ℕ) (guard reset inv from : List ℤ) where
  length-landed : length (landed_box n mask guard reset inv from) ≡ 2 * n
  unfolding landed_box
  length-landed = length_cut n (cut n (set_masked n mask reset (cut n from guard)) reset) inv

  -- both cuts, by their tests
  two_cuts : (o p : Bool) (c l : List ℤ) (f : List ℤ → Face) → f c ≡ cond p (present l) absent → on_box (cond o (present c) absent) f ≡ cond (o && p) (present l) absent
  two_cuts true p c l f e = e
  two_cuts false p c l f e = refl

  switch_is : switch_step n mask guard reset inv (present from) ≡ cond (ordered n (cut n from guard) && ordered n (landed_box n mask guard reset inv from)) (present (landed_box n mask guard reset inv from)) absent
  unfolding switch_step guarded landed unless_empty landed_box
  switch_is = two_cuts (ordered n (cut n from guard)) (ordered n (landed_box n mask guard reset inv from)) (cut n from guard) (landed_box n mask guard reset inv from) (landed n mask reset inv) refl

  -- the switch step from a present face hands over the face on which it lands
  pub switch_handed : {r : Bool} {exit out : List ℤ} → r ≡ ordered n (cut n from guard) && ordered n (landed_box n mask guard reset inv from) → exit ≡ onto (landed_box n mask guard reset inv from) out
      → Handed n r exit out (switch_step n mask guard reset inv (present from))
  switch_handed {r} {exit} {out} o e =
      rw e (box_handed n (landed_box n mask guard reset inv from) out r _ length-landed (switch_is ∙ ap (λ (x : Bool). cond x (present (landed_box n mask guard reset inv from)) absent) (sym o)))

-- ---- its range

in_unless : (n : ℕ) (inv b : List ℤ) → length b ≡ 2 * n → Inside n b inv → FaceAll (InInvariant n inv) (unless_empty n b)
in_unless n inv b l i = unless_all n b (InInvariant n inv) (λ o. record { sized = l; is_ordered = o; inside = i })

module _ (n : ℕ) (inv rate part : List ℤ) (d : ℕ) (b : ℤ) where
  pub after_in : (t : Option Interval) → FaceAll (InInvariant n inv) (face_after n inv rate part d b t)
  after_in None = tt
  after_in (Some t) = in_unless n inv (box_after n inv rate part d b t) (length_after n inv rate part d b t) (box_after_inside n inv rate part d b t)

pub switch_in : (n mask : ℕ) (guard reset inv : List ℤ) (g : Face) → FaceAll (InInvariant n inv) (switch_step n mask guard reset inv g)
unfolding switch_step landed
switch_in n mask guard reset inv g =
    on_box_all (InInvariant n inv) (landed n mask reset inv)
    (λ b. let a = cut n (set_masked n mask reset b) reset in in_unless n inv (cut n a inv) (length_cut n a inv) (cut_right n a inv))
    (on_box g (guarded n guard))
