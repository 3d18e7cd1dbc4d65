-- A table accepted by the wall step without the window stays accepted. The step with the window lies in the one without it, since its
-- delays are among them; so a pass adds nothing to a table that the pass without the window left as it was.
use mathlib.Core.Path.{◌≡◌, refl, sym, ap, ◌∙◌}
use mathlib.Core.Bool.{not}
use mathlib.Core.List.{List}
use Prim.Native.Nat.{ℕ, zero, suc, ◌≤◌, ◌<◌}
use native.Mathlib.Omega.{arith}
use lib.Dec.{T, not_T, leb, le→leb}
use lib.IntN.{ℤ}
use lib.ListN.{length, take}
use Rattle.integers.specs.Words.{equal}
use Rattle.integers.proofs.Counted.{equal_eq, equal_intro}
use Rattle.plant.specs.Box.{Ordered, Face, absent, FaceIn, on_box}
use Rattle.plant.specs.Model.{n#, L#, E#, invariant, rate, source, variable_of, face_wall}
use Rattle.plant.specs.Questions.{model_questions}
use Rattle.plant.specs.Steps.{wall_step, wall_delays}
use Rattle.plant.specs.Pieces.{per_face, pieces, piece_face, piece_variable, piece_wall, piece_extent}
use Rattle.plant.specs.Tables.{table_size, table_by, table_ok, piece_of, part_of, wall_step_at, wall_from, walls_joined, switch_onto, switches_joined, new_piece, touching}
use Rattle.plant.specs.Calls.{checker_questions}
use Rattle.plant.specs.Demands.{Accepts, answers, ceiling, Room}
use Rattle.earlier.specs.WithoutWindow.{NothingLost}
use Rattle.earlier.specs.WithoutWindow as before
use Rattle.plant.proofs.Asks.{ask_yes, ask_intro, asked, then_both, then_intro}
use Rattle.plant.proofs.Boxes.{inside_refl, face_refl, joins_mono, joins_all, on_box_each, on_box_all}
use Rattle.plant.proofs.Passed.{Passed, passed}
use Rattle.plant.proofs.WallDelays.{window_cuts}
use Rattle.plant.proofs.WallStep.{OnWall, wall_in, face_after_ok, face_after_mono}
use Rattle.plant.proofs.Tables.{Begins, begins_itself, long_enough, OkBox, OkFace, Valid, ok_valid, made_valid, made_ok}
use Rattle.plant.proofs.Growth.{narrower_wider, narrower_refl, to_piece_grows, part-ordered}
use Rattle.plant.proofs.Pieces.{face_below, variable_below, extent_of, hull_on_piece}
use Rattle.plant.proofs.Keeps.{to_piece_ok, switch_onto_ok}
use Rattle.plant.proofs.Accepted.{begins_closed, closed_unchanged, questions_yes}
use Rattle.plant.proofs.Demands.{accepted_safe, third_demand}

-- the step's box lies in the one without the window
wall_step_in : (n : ℕ) (inv rate part : List ℤ) (d : ℕ) (b : ℤ) → d < n → Ordered n rate → Ordered n part → FaceIn n (wall_step n inv rate part d b) (before.wall_step n inv rate part d b)
unfolding wall_step before.wall_step before.wall_delays
wall_step_in n inv rate part d b l rates parts = wall_in n inv rate part d b l (before.wall_step n inv rate part d b)
    (λ invs. face_after_mono n inv rate rate part part d b (inside_refl n part) (inside_refl n rate) (wall_delays n inv rate part d b) (before.wall_delays n inv rate part d b)
    (window_cuts n inv rate part d b l invs rates parts))

-- so does what it gives to a piece, and the piece after a pass
module _ (m : List ℤ) (ok : Passed m) (t : List ℤ) (good : Valid m t) where
  wall_from_in : (l q p : ℕ) → l < L# m → q < pieces m l → p < suc (pieces m l) → FaceIn (n# m) (wall_from m t l q p) (before.wall_from m t l q p)
  unfolding wall_from before.wall_from wall_step_at
  wall_from_in l q p u v w =
      let f : ℕ = piece_face m l q in
      let old : List ℤ → Face = λ b. before.wall_step (n# m) (invariant m l) (rate m l) b (variable_of f) (face_wall m l f) in
      to_piece_grows m m ok (narrower_wider m m (narrower_refl m)) l q u (on_box (part_of m t l p) (wall_step_at m l f)) (on_box (part_of m t l p) old)
      (on_box_each (n# m) (Ordered (n# m)) (wall_step_at m l f) old
      (λ a o. wall_step_in (n# m) (invariant m l) (rate m l) a (variable_of f) (face_wall m l f) (omega (arith, face_below m l q v)) (ok.of_location l u).rate_ordered o)
      (part_of m t l p) (part-ordered m t good l p u w))

  piece_in : (l q : ℕ) → l < L# m → q < pieces m l → (e : ℕ) → FaceIn (n# m) (switches_joined m t l q e) (before.switches_joined m t l q e)
  unfolding switches_joined before.switches_joined walls_joined
  piece_in l q u v zero = joins_mono (n# m) (suc (pieces m l)) (wall_from m t l q) (before.wall_from m t l q) (piece_of m t l q) (piece_of m t l q)
      (λ p w. wall_from_in l q p u v w) (face_refl (n# m) (piece_of m t l q))
  piece_in l q u v (suc e) = joins_mono (n# m) (per_face m (source m e)) (switch_onto m t l q e) (switch_onto m t l q e) (switches_joined m t l q e) (before.switches_joined m t l q e)
      (λ k _. face_refl (n# m) (switch_onto m t l q e k)) (piece_in l q u v e)

stays_accepted : (m t : List ℤ) → before.checker_questions m t ≡ 0 → checker_questions m t ≡ 0
unfolding before.checker_questions before.pass new_piece
stays_accepted m t h =
    let a : (model_questions m ≡ 0) × _ = then_both (model_questions m) _ h in
    let b : T (leb (table_size m) (length t)) × _ = asked (leb (table_size m) (length t)) 20 _ (omega arith) a.1 in
    let c : T (table_ok m t) × _ = asked (table_ok m t) 32 _ (omega arith) b.1 in
    let d : T (equal (before.pass m t) (take (table_size m) t)) × _ = asked (equal (before.pass m t) (take (table_size m) t)) 33 _ (omega arith) c.1 in
    let old : ℕ → ℕ → Face = λ l q. before.switches_joined m t l q (E# m) in
    let begins : Begins m t old = sym (equal_eq (before.pass m t) (take (table_size m) t) d.0) in
    questions_yes m t a.0 b.0 c.0
    (closed_unchanged m t old begins (begins_closed m t old begins (λ l q u v. piece_in m (passed m a.0) t (ok_valid m t c.0) l q u v (E# m))))
    (ask_yes (not (touching m t)) 34 (omega arith) d.1)

-- ---- the tables of before pass 32, since the step kept to the invariant and the wall; so a safe answer's table was accepted

-- the pieces of which table k was made
abbrev pieces_before : List ℤ → ℕ → ℕ → ℕ → Face
pieces_before m zero l q = absent
pieces_before m (suc k) l q = before.switches_joined m (before.table_after m k) l q (E# m)

was_made : (m : List ℤ) (k : ℕ) → before.table_after m k ≡ table_by m (pieces_before m k)
unfolding before.table_after before.pass
was_made m zero = refl
was_made m (suc k) = refl

was_begun : (m : List ℤ) (k : ℕ) → Begins m (before.table_after m k) (pieces_before m k)
was_begun m k = ap (take (table_size m)) (was_made m k) ∙ begins_itself m (pieces_before m k)

passed_on : (m : List ℤ) (k : ℕ) → before.pass m (before.table_after m k) ≡ before.table_after m (suc k)
unfolding before.table_after
passed_on m k = refl

module _ (m : List ℤ) (ok : Passed m) where
  wall_from_ok : (t : List ℤ) (l q p : ℕ) → l < L# m → q < pieces m l → OkFace m l q (before.wall_from m t l q p)
  unfolding before.wall_from before.wall_step piece_variable piece_wall
  wall_from_ok t l q p u v =
      let f : ℕ = piece_face m l q in
      let old : List ℤ → Face = λ b. before.wall_step (n# m) (invariant m l) (rate m l) b (variable_of f) (face_wall m l f) in
      to_piece_ok m ok l q u v (on_box (part_of m t l p) old)
      (on_box_all (OnWall (n# m) (invariant m l) (piece_variable m l q) (piece_wall m l q)) old
      (λ b. face_after_ok (n# m) (invariant m l) (rate m l) b (piece_variable m l q) (piece_wall m l q) (variable_below m l q v) (before.wall_delays (n# m) (invariant m l) (rate m l) b (piece_variable m l q) (piece_wall m l q)))
      (part_of m t l p))

  joined_ok : (t : List ℤ) → Valid m t → (l q : ℕ) → l < L# m → q < pieces m l → (e : ℕ) → e ≤ E# m → OkFace m l q (before.switches_joined m t l q e)
  unfolding before.switches_joined
  joined_ok t good l q u v zero w = joins_all (n# m) (OkBox m l q)
      (hull_on_piece (n# m) (invariant m l) (piece_variable m l q) (piece_wall m l q) (variable_below m l q v) (piece_extent m l q) (extent_of m ok l q u))
      (suc (pieces m l)) (before.wall_from m t l q) (piece_of m t l q) (λ p x. wall_from_ok t l q p u v) (good.valid l q u v)
  joined_ok t good l q u v (suc e) w = joins_all (n# m) (OkBox m l q)
      (hull_on_piece (n# m) (invariant m l) (piece_variable m l q) (piece_wall m l q) (variable_below m l q v) (piece_extent m l q) (extent_of m ok l q u))
      (per_face m (source m e)) (switch_onto m t l q e) (before.switches_joined m t l q e) (λ k x. switch_onto_ok m ok t l q e k u v w) (joined_ok t good l q u v e (omega arith))

  was_ok : (k l q : ℕ) → l < L# m → q < pieces m l → OkFace m l q (pieces_before m k l q)
  was_ok zero l q u v = tt
  was_ok (suc k) l q u v =
      joined_ok (before.table_after m k) (made_valid m ok (before.table_after m k) (pieces_before m k) (was_begun m k) (was_ok k)) l q u v (E# m) (omega arith)

safe_accepted : (m : List ℤ) → model_questions m ≡ 0 → (k : ℕ) → before.table_after m (suc k) ≡ before.table_after m k → (T (touching m (before.table_after m k)) → ⊥)
    → before.checker_questions m (before.table_after m k) ≡ 0
unfolding before.checker_questions
safe_accepted m asks k repeats clear =
    then_intro asks
    (then_intro (ask_intro (leb (table_size m) (length t)) 20 (le→leb (table_size m) (length t) (long_enough m t (pieces_before m k) (was_begun m k))))
    (then_intro (ask_intro (table_ok m t) 32 (made_ok m ok t (pieces_before m k) (was_begun m k) (was_ok m ok k)))
    (then_intro (ask_intro (equal (before.pass m t) (take (table_size m) t)) 33 (equal_intro (passed_on m k ∙ repeats ∙ was_made m k ∙ sym (was_begun m k)))) (ask_intro (not (touching m t)) 34 (not_T (touching m t) clear)))))
  where
    t : List ℤ
    t = before.table_after m k

    ok : Passed m
    ok = passed m asks

-- ---- what follows for the answers, by the third demand

module _ (m t : List ℤ) (held : before.checker_questions m t ≡ 0) (limit : ℕ) (table work : List ℤ) where
  accepts : Accepts m t
  accepts = ((third_demand m).by_questions t).1 (stays_accepted m t held)

  never_unknown : answers m limit table work ≡ 101 → ⊥
  never_unknown h = (third_demand m).unknown_refused limit table work h t accepts

  stays_safe : ceiling m ≤ limit → Room m table work → answers m limit table work ≡ 100
  stays_safe = accepted_safe m t accepts limit table work

pub nothing_lost : NothingLost
nothing_lost = record { step_in = wall_step_in; stays_accepted = stays_accepted; safe_accepted = safe_accepted; never_unknown = never_unknown; stays_safe = stays_safe }
