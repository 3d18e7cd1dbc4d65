-- Question 13 and the start part as they were before request T-02: a start box had to lie inside the invariant, and the whole box was
-- the part. What rests on the two is written again under its own name, some of it in one piece; all else is today's, from Questions,
-- Tables and Calls. No call and no demand rests on this file: it says that a model which passes so is answered as if T-02 had not been.
use Rattle.std.specs.Prelude.{◌≡◌, Bool, cond, not, ◌&&◌, ◌||◌, List, ℕ, zero, suc, ◌*◌, ◌<◌, leb, ℤ, pos, length, take}
use Rattle.integers.specs.Words.{equal, eq_z}
use Rattle.integers.specs.Counted.{any_below}
use Rattle.plant.specs.declared.Answer.{Answer}
use Rattle.plant.specs.declared.Answer.TheVariants.{Safe, Unknown, Unfinished}
use Rattle.plant.specs.Ask.{ask, ◌then◌, first}
use Rattle.plant.specs.Box.{Face, absent, present, on_box, joins}
use Rattle.plant.specs.Model.{n#, L#, E#, B#, head_size, model_size, invariant, rate, start_flag, start_box, source}
use Rattle.plant.specs.Questions.{level_limit, rate_limit, box_ok, inside_ok, zeros_ok, switch_questions, forbidden_question, cut_question, ranges_questions, edition_question}
use Rattle.plant.specs.Questions as Q
use Rattle.plant.specs.Pieces.{per_face, pieces, piece_face}
use Rattle.plant.specs.Tables.{table_size, table_by, piece_of, table_ok, to_piece, wall_step_at, switch_onto, part_touches}
use Rattle.plant.specs.Tables as T
use Rattle.plant.specs.Calls.{table_room_question}
use Rattle.plant.specs.Calls as C

-- ---- 13: start flag 0 and box zeros, or start flag 1 and box ordered inside the invariant

unfoldable pub start_ok : List ℤ → ℕ → Bool
start_ok m l =
    (eq_z (start_flag m l) (pos 0) && zeros_ok (2 * n# m) (start_box m l))
    || (eq_z (start_flag m l) (pos 1) && inside_ok (n# m) (start_box m l) (invariant m l))

unfoldable pub location_questions : List ℤ → ℕ → ℕ
location_questions m l =
    ask (box_ok (n# m) level_limit (invariant m l)) 11
    then ask (box_ok (n# m) rate_limit (rate m l)) 12
    then ask (start_ok m l) 13

unfoldable pub model_questions : List ℤ → ℕ
model_questions m =
    ask (leb head_size (length m)) 5
    then ranges_questions m
    then edition_question m
    then ask (leb (model_size m) (length m)) 5
    then first (L# m) (location_questions m)
    then first (E# m) (switch_questions m)
    then first (B# m) (forbidden_question m)
    then first (L# m) (cut_question m)

-- ---- the parts: the start box under start flag 1, and the present pieces

unfoldable pub start_part : List ℤ → ℕ → Face
start_part m l = cond (eq_z (start_flag m l) (pos 1)) (present (start_box m l)) absent

unfoldable pub part_of : List ℤ → List ℤ → ℕ → ℕ → Face
part_of m t l zero = start_part m l
part_of m t l (suc q) = piece_of m t l q

-- ---- the pass and touching, from these parts

unfoldable pub wall_from : List ℤ → List ℤ → ℕ → ℕ → ℕ → Face
wall_from m t l q p = to_piece m l q (on_box (part_of m t l p) (wall_step_at m l (piece_face m l q)))

unfoldable pub switches_joined : List ℤ → List ℤ → ℕ → ℕ → ℕ → Face
switches_joined m t l q zero = joins (n# m) (suc (pieces m l)) (wall_from m t l q) (piece_of m t l q)
switches_joined m t l q (suc e) = joins (n# m) (per_face m (source m e)) (switch_onto m t l q e) (switches_joined m t l q e)

unfoldable pub pass : List ℤ → List ℤ → List ℤ
pass m t = table_by m (λ l q. switches_joined m t l q (E# m))

unfoldable pub table_after : List ℤ → ℕ → List ℤ
table_after m zero = table_by m (λ l q. absent)
table_after m (suc k) = pass m (table_after m k)

unfoldable pub touching : List ℤ → List ℤ → Bool
touching m t =
    any_below (L# m) (λ l. any_below (suc (pieces m l)) (λ p. any_below (B# m) (λ b. part_touches m l b (part_of m t l p))))

-- ---- the checker and the analysis

unfoldable pub checker_questions : List ℤ → List ℤ → ℕ
checker_questions m t =
    model_questions m
    then table_room_question m (length t)
    then ask (table_ok m t) 32
    then ask (equal (pass m t) (take (table_size m) t)) 33
    then ask (not (touching m t)) 34

unfoldable pub search : List ℤ → ℕ → ℕ → Answer
search m zero k =
    let settled = cond (equal (table_after m (suc k)) (table_after m k)) (Safe k) (Unfinished k) in
    cond (touching m (table_after m k)) (Unknown k) settled
search m (suc left) k =
    let more = search m left (suc k) in
    let settled = cond (equal (table_after m (suc k)) (table_after m k)) (Safe k) more in
    cond (touching m (table_after m k)) (Unknown k) settled

unfoldable pub analysis : List ℤ → ℕ → Answer
analysis m limit = search m limit 0

-- ---- what did not change: on the left what is defined today, in Questions, Tables and Calls

-- of a model that passes so: its start parts are its start boxes, and so pass, tables, answers and verdicts are what they were
pub record SameAnswers (m : List ℤ) : Type 0 where
  pub start_parts : (l : ℕ) → l < L# m → T.start_part m l ≡ start_part m l
  pub passes : (t : List ℤ) → T.pass m t ≡ pass m t
  pub tables : (k : ℕ) → T.table_after m k ≡ table_after m k
  pub answers : (limit : ℕ) → C.analysis m limit ≡ analysis m limit
  pub verdicts : (t : List ℤ) → C.checker_questions m t ≡ checker_questions m t

pub record AsBefore (m : List ℤ) : Type 0 where
  -- every number but 13 is given as it was; and what passed passes
  pub numbers : (model_questions m ≡ 13 → ⊥) → Q.model_questions m ≡ model_questions m
  pub passed : model_questions m ≡ 0 → SameAnswers m
