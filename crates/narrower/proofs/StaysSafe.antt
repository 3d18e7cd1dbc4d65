-- Document 02, T-13: what is accepted as a table for a model is accepted for every narrower one. 32 asks the same of both; a pass of
-- the narrower model adds no more than one of the wider, which adds nothing; and where the narrower touches, the wider does.
use mathlib.Core.Path.{◌≡◌, refl, sym, ap, ◌∙◌, subst}
use mathlib.Core.Bool.{not}
use mathlib.Core.List.{List}
use Prim.Native.Nat.{ℕ, zero, suc, ◌<◌}
use lib.Dec.{T, T_not, not_T, leb}
use lib.IntN.{ℤ}
use lib.ListN.{length, take}
use Rattle.integers.proofs.Counted.{equal_eq}
use Rattle.plant.specs.Box.{Face, FaceIn}
use Rattle.plant.specs.Model.{n#, L#}
use Rattle.plant.specs.Questions.{model_questions}
use Rattle.plant.specs.Pieces.{pieces}
use Rattle.plant.specs.Tables.{table_size, piece_of, table_ok, new_piece, pass, table_after, touching}
use Rattle.plant.specs.Calls.{unchanged, analyse_call}
use Rattle.plant.specs.Demands.{Accepts, answers}
use Rattle.plant.specs.Narrower.{Narrower}
use Rattle.narrower.specs.StaysSafe.{NarrowerStaysSafe}
use Rattle.plant.proofs.Boxes.{face_refl, face_trans}
use Rattle.plant.proofs.Passed.{Passed, passed}
use Rattle.plant.proofs.Tables.{Begins, Valid, ok_valid}
use Rattle.plant.proofs.Alike.{narrower_alike, same_size, same_longest, same_ceiling, same_table, same_ok}
use Rattle.plant.proofs.Growth.{TableIn, piece_in, new_mono}
use Rattle.plant.proofs.Keeps.{pieces_after, after_begins, after_valid}
use Rattle.plant.proofs.Forbidden.{touching_mono}
use Rattle.plant.proofs.Sound.{Closed}
use Rattle.plant.proofs.Accepted.{Accepted, begins_in, begins_closed, closed_unchanged, questions_yes, accepted, table_held}
use Rattle.plant.proofs.Demands.{ceiling_value, accepted_safe, third_demand}

module _ (second first : List ℤ) (asks : model_questions second ≡ 0) (into : Narrower second first) where
  ok : Passed second
  ok = passed second asks

  -- words that begin with a table of the first begin with one of the second
  begins_too : (t : List ℤ) (g : ℕ → ℕ → Face) → Begins first t g → Begins second t g
  begins_too t g b = ap (λ (k : ℕ). take k t) (same_size second first (narrower_alike into)) ∙ b ∙ sym (same_table second first (narrower_alike into) g g (λ l q u v. refl))

  -- ---- a table accepted for the first

  module _ (t : List ℤ) (a : Accepted first t) where
    is_table : T (table_ok second t)
    is_table = subst T (sym (same_ok second first (narrower_alike into) t)) a.is_table

    valid : Valid second t
    valid = ok_valid second t is_table

    itself : TableIn second t t
    itself = record { each = λ l q u v. face_refl (n# second) (piece_of second t l q) }

    -- it begins with the pieces after the first's pass, since that left it as it is
    begins : Begins second t (new_piece first t)
    unfolding unchanged pass
    begins = begins_too t (new_piece first t) (sym (equal_eq (pass first t) (take (table_size first) t) a.is_unchanged))

    -- those after the second's lie in them
    closed : Closed second t
    closed = begins_closed second t (new_piece first t) begins (λ l q u v. new_mono second first ok into t t valid itself l q u v)

    clear : T (not (touching second t))
    clear = not_T (touching second t) (λ h. T_not (touching first t) a.is_clear (touching_mono second first ok into t t valid itself h))

    accepts : Accepts second t
    accepts = ((third_demand second).by_questions t).1
        (questions_yes second t asks (subst (λ (k : ℕ). T (leb k (length t))) (sym (same_size second first (narrower_alike into))) a.is_long) is_table
        (closed_unchanged second t (new_piece first t) begins closed) clear)

  -- ---- the tables of the passes

  -- the second's table k lies in the first's, if what it is made of does
  table_inside : (k : ℕ) → ((l q : ℕ) → l < L# second → q < pieces second l → FaceIn (n# second) (pieces_after second k l q) (pieces_after first k l q)) → TableIn second (table_after second k) (table_after first k)
  table_inside k h = table_held second asks (table_after first k) k (λ l q u v.
      face_trans (n# second) (pieces_after second k l q) (pieces_after first k l q) (piece_of second (table_after first k) l q) (h l q u v)
      (begins_in second (table_after first k) (pieces_after first k) (begins_too (table_after first k) (pieces_after first k) (after_begins first k)) l q u v))

  pieces_inside : (k l q : ℕ) → l < L# second → q < pieces second l → FaceIn (n# second) (pieces_after second k l q) (pieces_after first k l q)
  pieces_inside zero l q u v = tt
  pieces_inside (suc k) l q u v = new_mono second first ok into (table_after second k) (table_after first k) (after_valid second ok k) (table_inside k (pieces_inside k)) l q u v

  tables_inside : (k l q : ℕ) → l < L# second → q < pieces second l → FaceIn (n# second) (piece_of second (table_after second k) l q) (piece_of first (table_after first k) l q)
  tables_inside k = piece_in second first into (table_after second k) (table_after first k) (table_inside k (pieces_inside k))

pub narrower_stays_safe : NarrowerStaysSafe
narrower_stays_safe first second asks₁ asks₂ into = record {
  stays_accepted = stays_accepted;
  no_run_meets = λ t h. (third_demand second).no_run_meets t (stays_accepted t h);
  stays_safe = λ limit table work h. accepted_safe second (analyse_call first limit table work).table (table_accepted limit table work h);
  never_unknown = λ limit table work h limit' table' work' e. (third_demand second).unknown_refused limit' table' work' e (analyse_call first limit table work).table (table_accepted limit table work h);
  table_accepted = table_accepted;
  tables_inside = tables_inside second first asks₂ into;
  same_ceiling = ceiling_value second asks₂ ∙ same_ceiling second first (narrower_alike into) ∙ sym (ceiling_value first asks₁);
  same_words = same_size second first (narrower_alike into);
  same_bytes = same_longest second first (narrower_alike into);
}
  where
    stays_accepted : (t : List ℤ) → Accepts first t → Accepts second t
    stays_accepted t h = accepts second first asks₂ into t (accepted first t h)

    table_accepted : (limit : ℕ) (table work : List ℤ) → answers first limit table work ≡ 100 → Accepts second (analyse_call first limit table work).table
    table_accepted limit table work h = stays_accepted (analyse_call first limit table work).table ((third_demand first).safe_accepted limit table work h)
