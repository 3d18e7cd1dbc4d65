-- The wall step as it was before request T-06, when a wall's delays looked at its own variable alone; and the pass, table k and the
-- checker's questions with it, some definitions written out in one. All else is today's. No call and no demand rests on this file: it
-- says that a table accepted before stays accepted, and what follows for the answers. The names are those of the definitions that
-- they stand for.
use Rattle.plant.specs.declared.Interval.{Interval}
use Rattle.std.specs.Prelude.{◌≡◌, not, List, ℕ, zero, suc, ◌≤◌, ◌<◌, T, ℤ, length, take, Option}
use Rattle.integers.specs.Words.{equal}
use Rattle.plant.specs.Ask.{ask, ◌then◌}
use Rattle.plant.specs.Box.{low, high, Ordered, Face, absent, FaceIn, on_box, joins}
use Rattle.plant.specs.Model.{n#, E#, invariant, rate, source, variable_of, face_wall}
use Rattle.plant.specs.Questions.{model_questions}
use Rattle.plant.specs.Delays.{delays_to}
use Rattle.plant.specs.Steps.{face_after}
use Rattle.plant.specs.Steps as S
use Rattle.plant.specs.Pieces.{per_face, pieces, piece_face}
use Rattle.plant.specs.Tables.{table_size, table_by, piece_of, table_ok, part_of, to_piece, switch_onto, touching}
use Rattle.plant.specs.Calls.{table_room_question}
use Rattle.plant.specs.Calls as C
use Rattle.plant.specs.Demands.{ceiling, answers, Room}

-- ---- the step

module _ (n : ℕ) (inv rate part : List ℤ) (d : ℕ) (b : ℤ) where
  -- the delays to the wall look at variable d alone
  unfoldable pub wall_delays : Option Interval
  wall_delays = delays_to (low part d) (high part d) (low rate d) (high rate d) b

  unfoldable pub wall_step : Face
  wall_step = face_after n inv rate part d b wall_delays

-- ---- the pass

unfoldable pub wall_from : List ℤ → List ℤ → ℕ → ℕ → ℕ → Face
wall_from m t l q p =
    let f = piece_face m l q in
    to_piece m l q (on_box (part_of m t l p) (λ b. wall_step (n# m) (invariant m l) (rate m l) b (variable_of f) (face_wall m l f)))

unfoldable pub switches_joined : List ℤ → List ℤ → ℕ → ℕ → ℕ → Face
switches_joined m t l q zero = joins (n# m) (suc (pieces m l)) (wall_from m t l q) (piece_of m t l q)
switches_joined m t l q (suc e) = joins (n# m) (per_face m (source m e)) (switch_onto m t l q e) (switches_joined m t l q e)

unfoldable pub pass : List ℤ → List ℤ → List ℤ
pass m t = table_by m (λ l q. switches_joined m t l q (E# m))

unfoldable pub table_after : List ℤ → ℕ → List ℤ
table_after m zero = table_by m (λ l q. absent)
table_after m (suc k) = pass m (table_after m k)

-- ---- the checker

unfoldable pub checker_questions : List ℤ → List ℤ → ℕ
checker_questions m t =
    model_questions m
    then table_room_question m (length t)
    then ask (table_ok m t) 32
    then ask (equal (pass m t) (take (table_size m) t)) 33
    then ask (not (touching m t)) 34

-- ---- what is kept: today's definitions are those of Steps, Calls and Demands

pub record NothingLost : Type 0 where
  -- the box that the step gives lies in the one that it gave
  pub step_in :
      (n : ℕ) (inv rate part : List ℤ) (d : ℕ) (b : ℤ) → d < n → Ordered n rate → Ordered n part
      → FaceIn n (S.wall_step n inv rate part d b) (wall_step n inv rate part d b)
  -- a table accepted before stays accepted, of every model and every list of words
  pub stays_accepted : (m t : List ℤ) → checker_questions m t ≡ 0 → C.checker_questions m t ≡ 0
  -- a safe answer's table, which a pass repeated and which touched nothing, was accepted
  pub safe_accepted :
      (m : List ℤ) → model_questions m ≡ 0
      → (k : ℕ) → table_after m (suc k) ≡ table_after m k → (T (touching m (table_after m k)) → ⊥)
      → checker_questions m (table_after m k) ≡ 0
  -- so a model with such a table is never unknown, under whatever limit, and safe under a limit of at least the ceiling
  pub never_unknown :
      (m t : List ℤ) → checker_questions m t ≡ 0
      → (limit : ℕ) (table work : List ℤ) → answers m limit table work ≡ 101 → ⊥
  pub stays_safe :
      (m t : List ℤ) → checker_questions m t ≡ 0
      → (limit : ℕ) (table work : List ℤ) → ceiling m ≤ limit → Room m table work → answers m limit table work ≡ 100
