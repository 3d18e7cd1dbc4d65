-- Words that follow a model's, or a table's, change nothing that the calls give: a list of words and the model alone that it begins with
-- hold one model, and have the same tables.
use mathlib.Core.Path.{◌≡◌, refl, sym, ap, ap₂, ◌∙◌, subst}
use mathlib.Core.Bool.{cond, not}
use mathlib.Core.List.{List, ◌++◌}
use Prim.Native.Nat.{ℕ, zero, suc, ◌<◌, ◌≤◌}
use lib.Dec.{leb}
use lib.IntN.{ℤ, pos}
use lib.ListN.{length, take, drop, take-append-drop, replicate}
use Rattle.integers.specs.Words.{equal, onto}
use Rattle.plant.specs.declared.Answer.TheVariants.{Safe, Unknown, Unfinished}
use Rattle.std.specs.Prelude.{Ok}
use Rattle.plant.specs.Ask.{ask, ◌then◌}
use Rattle.plant.specs.Box.{absent}
use Rattle.plant.specs.Model.{L#, cut_at, model_size, cut_from, cut_of}
use Rattle.plant.specs.Questions.{model_questions}
use Rattle.plant.specs.Pieces.{pieces}
use Rattle.plant.specs.Tables.{piece_of, start_part, pass, table_after, touching}
use Rattle.plant.specs.Calls.{ceiling_by, ceiling_call, table_room_question, unchanged, certificate_questions, table_questions, checker_questions, verdict_by, check_call, search, analysis, passes_of, answer_table, analysis_questions, answered, analyse_by, analyse_call}
use Rattle.plant.proofs.Asks.{then_same}
use Rattle.plant.proofs.Passed.{Passed, passed}
use Rattle.plant.proofs.Whole.{Whole}
use Rattle.plant.proofs.Passing.{whole}
use Rattle.plant.proofs.Records as records
use Rattle.plant.proofs.Beginning as same
use Rattle.plant.proofs.Beginning.{alone, alone_whole, questions_alone}
use Rattle.plant.proofs.Alike.{Alike, same_size, same_ceiling, same_table, piece_same, same_ok}
use Rattle.plant.proofs.SameModel.{SameModel, same_pass, same_touching}
use Rattle.plant.proofs.Front.{front, room_front, questions_front}
use Rattle.plant.proofs.AnalysisAsked.{model_asked}

-- ---- a model, and the list of words that begins with it

module _ (a r : List ℤ) (w : Whole a) where
  abbrev m : List ℤ
  m = a ++ r

  words : take (length a) m ≡ take (length a) a
  words = same.same a r w

  far : cut_at a 0 ≤ length a
  far = same.far a r w

  start_behind : (l : ℕ) → l < L# a → start_part a l ≡ start_part m l
  start_behind l u = sym (records.start_part_same m a (length a) words far l u)

  cut_behind : (l : ℕ) → l < L# a → cut_of a l ≡ cut_of m l
  unfolding cut_of
  cut_behind l u = sym (ap₂ cut_from (same.cut_variable_same a r w l u) (same.cut_value_same a r w l u))

  same_behind : SameModel a m
  same_behind = record {
    alike = record { same_n = sym (records.n_same m a (length a) words far); same_L = sym (records.L_same m a (length a) words far); same_invariant = λ l u. sym (records.invariant_same m a (length a) words far l u); same_cut = cut_behind };
    same_E = sym (records.E_same m a (length a) words far);
    same_B = sym (records.B_same m a (length a) words far);
    rates = λ l u. sym (records.rate_same m a (length a) words far l u);
    starts = start_behind;
    switches = λ e u. record {
      sources = sym (records.source_same m a (length a) words far e u);
      targets = sym (records.target_same m a (length a) words far e u);
      variables = sym (records.variable_same m a (length a) words far e u);
      source_sides = sym (records.source_side_same m a (length a) words far e u);
      target_sides = sym (records.target_side_same m a (length a) words far e u);
      masks = sym (records.mask_same m a (length a) words far e u);
      guards = sym (records.guard_same m a (length a) words far e u);
      resets = sym (records.reset_same m a (length a) words far e u);
    };
    locations = λ b u. sym (records.forbidden_location_same m a (length a) words far b u);
    boxes = λ b u. sym (records.forbidden_box_same m a (length a) words far b u);
  }

module _ (m : List ℤ) (asks : model_questions m ≡ 0) where
  is_same : SameModel (alone m) m
  is_same = subst (SameModel (alone m)) (take-append-drop (model_size m) m) (same_behind (alone m) (drop (model_size m) m) (alone_whole m (whole m asks)))

  pub passed_alone : Passed (alone m)
  passed_alone = passed (alone m) (questions_alone m ∙ asks)

  pub alike_alone : Alike (alone m) m
  alike_alone = is_same.alike

  -- ---- a table t

  module _ (t : List ℤ) where
    each_alone : (l q : ℕ) → l < L# (alone m) → q < pieces (alone m) l → piece_of (alone m) t l q ≡ piece_of m t l q
    each_alone l q u v = piece_same (alone m) m alike_alone t l q u

    pass_alone : pass (alone m) t ≡ pass m t
    pass_alone = same_pass (alone m) m is_same passed_alone t t each_alone

    touching_alone : touching (alone m) t ≡ touching m t
    touching_alone = same_touching (alone m) m is_same passed_alone t t each_alone

    table_questions_alone : table_questions (alone m) t ≡ table_questions m t
    unfolding table_questions certificate_questions unchanged
    table_questions_alone = λ i.
        ask (same_ok (alone m) m alike_alone t i) 32
        then (ask (equal (pass_alone i) (take (same_size (alone m) m alike_alone i) t)) 33
        then ask (not (touching_alone i)) 34)

  -- ---- table k, and the search for an answer

  after_alone : (k : ℕ) → table_after (alone m) k ≡ table_after m k
  unfolding table_after
  after_alone zero = same_table (alone m) m alike_alone (λ l q. absent) (λ l q. absent) (λ l q u v. refl)
  after_alone (suc k) = pass_alone (table_after (alone m) k) ∙ ap (pass m) (after_alone k)

  touches_alone : (k : ℕ) → touching (alone m) (table_after (alone m) k) ≡ touching m (table_after m k)
  touches_alone k = touching_alone (table_after (alone m) k) ∙ ap (touching m) (after_alone k)

  search_alone : (left k : ℕ) → search (alone m) left k ≡ search m left k
  unfolding search
  search_alone zero k = λ i. cond (touches_alone k i) (Unknown k) (cond (equal (after_alone (suc k) i) (after_alone k i)) (Safe k) (Unfinished k))
  search_alone (suc left) k = λ i. cond (touches_alone k i) (Unknown k) (cond (equal (after_alone (suc k) i) (after_alone k i)) (Safe k) (search_alone left (suc k) i))

  pub answered_alone : (limit : ℕ) (table work : List ℤ) → answered (alone m) (analysis (alone m) limit) table work ≡ answered m (analysis m limit) table work
  unfolding analysis answer_table
  answered_alone limit table work = λ i.
      record { answer = Ok (search_alone limit 0 i); table = onto (after_alone (passes_of (search_alone limit 0 i)) i) table; work = replicate (length work) (pos 0) }

-- ---- the calls, of every list of words

module _ (m : List ℤ) where
  -- what follows the model's questions is asked only of a model that passes
  pub after_questions : (p q : ℕ) → (model_questions m ≡ 0 → p ≡ q) → (model_questions (alone m) then p) ≡ (model_questions m then q)
  after_questions p q e = ap (λ (k : ℕ). k then p) (questions_alone m) ∙ then_same (model_questions m) p q e

  pub room_alone : model_questions m ≡ 0 → (k : ℕ) → table_room_question (alone m) k ≡ table_room_question m k
  room_alone asks k = ap (λ (size : ℕ). ask (leb size k) 20) (same_size (alone m) m (alike_alone m asks))

  ceiling_by_lem : (q : ℕ) → (q ≡ 0 → model_questions m ≡ 0) → ceiling_by (alone m) q ≡ ceiling_by m q
  ceiling_by_lem zero h = ap Ok (same_ceiling (alone m) m (alike_alone m (h refl)))
  ceiling_by_lem (suc q) h = refl

  pub ceiling_alone : ceiling_call (alone m) ≡ ceiling_call m
  unfolding ceiling_call
  ceiling_alone = ap (ceiling_by (alone m)) (questions_alone m) ∙ ceiling_by_lem (model_questions m) (λ e. e)

  -- of a list of words t, and of the table alone
  pub check_alone : (t : List ℤ) → check_call (alone m) (front m t) ≡ check_call m t
  unfolding check_call checker_questions
  check_alone t = ap verdict_by (after_questions _ _ (λ asks.
      ap₂ ◌then◌ (room_alone asks (length (front m t)) ∙ room_front m t) (table_questions_alone m asks (front m t) ∙ questions_front m (passed m asks) t)))

  pub analysis_questions_alone : (table work : List ℤ) → analysis_questions (alone m) table work ≡ analysis_questions m table work
  unfolding analysis_questions
  analysis_questions_alone table work = after_questions _ _ (λ asks.
      ap (λ (size : ℕ). ask (leb size (length table)) 20 then ask (leb size (length work)) 21) (same_size (alone m) m (alike_alone m asks)))

  analyse_by_lem : (limit : ℕ) (table work : List ℤ) (q : ℕ) → (q ≡ 0 → model_questions m ≡ 0) → analyse_by q (alone m) limit table work ≡ analyse_by q m limit table work
  analyse_by_lem limit table work zero h = answered_alone m (h refl) limit table work
  analyse_by_lem limit table work (suc q) h = refl

  pub analyse_alone : (limit : ℕ) (table work : List ℤ) → analyse_call (alone m) limit table work ≡ analyse_call m limit table work
  unfolding analyse_call
  analyse_alone limit table work =
      ap (λ (q : ℕ). analyse_by q (alone m) limit table work) (analysis_questions_alone table work)
      ∙ analyse_by_lem limit table work (analysis_questions m table work) (model_asked m table work)
