-- A cut never hurts: the first's table, divided, passes 32 for the second; a pass of the second adds no more than one of the first, which
-- adds nothing, and what it adds keeps to the second's sides; and where the divided table touches, the whole one does.
use mathlib.Core.Path.{◌≡◌, sym, subst}
use mathlib.Core.Bool.{not}
use mathlib.Core.List.{List}
use Prim.Native.Nat.{ℕ, zero, suc, ◌<◌}
use native.Mathlib.Omega.{arith}
use lib.Dec.{T, T_not, not_T, le→leb}
use lib.IntN.{ℤ}
use lib.ListN.{length}
use Rattle.plant.specs.Box.{Face, FaceIn}
use Rattle.plant.specs.Model.{n#, L#}
use Rattle.plant.specs.Questions.{model_questions}
use Rattle.plant.specs.Pieces.{pieces}
use Rattle.plant.specs.Tables.{table_size, piece_of, new_piece, table_after, touching}
use Rattle.plant.specs.Calls.{analyse_call}
use Rattle.plant.specs.Demands.{Accepts, answers}
use Rattle.plant.proofs.Boxes.{face_trans}
use Rattle.plant.proofs.Passed.{Passed, passed}
use Rattle.plant.proofs.Tables.{Valid, ends, ends_in, long_enough, piece_read, made_ok}
use Rattle.plant.proofs.Growth.{PiecesIn, new_grows}
use Rattle.plant.proofs.Keeps.{pieces_after, after_begins, after_valid, new_ok}
use Rattle.plant.proofs.Forbidden.{touching_grows}
use Rattle.plant.proofs.Sound.{Closed}
use Rattle.plant.proofs.Accepted.{Accepted, accepted, begins_in, begins_closed, closed_unchanged, questions_yes}
use Rattle.plant.proofs.Demands.{ceiling_value, accepted_safe, third_demand}
use Rattle.finer.specs.Finer.{Finer, undivided, divided}
use Rattle.finer.specs.CutStaysSafe.{FinerStaysSafe}
use Rattle.finer.proofs.Divided.{cut_greatest, same_n, in_first, is_piece, wider, cut_piece, divided_begins, divided_ok, divided_valid, divided_in}
use Rattle.finer.proofs.Larger.{ceiling_grows, words_grow, bytes_grow}

module _ (second first : List ℤ) (asks : model_questions second ≡ 0) (into : Finer second first) where
  ok : Passed second
  ok = passed second asks

  -- ---- a table accepted for the first

  module _ (t : List ℤ) (a : Accepted first t) where
    abbrev t' : List ℤ
    t' = divided second first t

    valid : Valid second t'
    valid = divided_valid second first into ok t a.is_valid

    inside : PiecesIn second first (wider second first into) t' t
    inside = divided_in second first into ok t a.is_valid

    -- what a pass of the second makes lies in the piece of the first
    pass_inside : (l q : ℕ) → l < L# second → q < pieces second l → FaceIn (n# second) (new_piece second t' l q) (piece_of first t l (undivided second first l q))
    pass_inside l q u v = face_trans (n# second) (new_piece second t' l q) (new_piece first t l (undivided second first l q)) (piece_of first t l (undivided second first l q))
        (new_grows second first ok (wider second first into) t' t valid inside l q u v)
        (subst (λ (n : ℕ). FaceIn n (new_piece first t l (undivided second first l q)) (piece_of first t l (undivided second first l q))) (sym (same_n second first into))
        (a.is_closed.closed l (undivided second first l q) (in_first second first into u) (is_piece second first into l q u v)))

    -- and keeps to its own side
    closed : Closed second t'
    closed = begins_closed second t' (cut_piece second first t) (divided_begins second first t)
        (λ l q u v. cut_greatest second l q (new_piece second t' l q) (piece_of first t l (undivided second first l q)) (new_ok second ok t' valid l q u v) (pass_inside l q u v))

    clear : T (not (touching second t'))
    clear = not_T (touching second t') (λ h. T_not (touching first t) a.is_clear (touching_grows second first ok (wider second first into) t' t valid inside h))

    accepts : Accepts second t'
    accepts = ((third_demand second).by_questions t').1
        (questions_yes second t' asks (le→leb (table_size second) (length t') (long_enough second t' (cut_piece second first t) (divided_begins second first t)))
        (made_ok second ok t' (cut_piece second first t) (divided_begins second first t) (divided_ok second first into ok t a.is_valid))
        (closed_unchanged second t' (cut_piece second first t) (divided_begins second first t) closed) clear)

  -- ---- the tables of the passes

  -- a table of the second lies in one of the first, if the pieces of which they are made do
  table_inside : (k : ℕ)
      → ((l q : ℕ) → l < L# second → q < pieces second l → FaceIn (n# second) (pieces_after second k l q) (pieces_after first k l (undivided second first l q)))
      → PiecesIn second first (wider second first into) (table_after second k) (table_after first k)
  table_inside k h = record {
    each = λ l q u v. subst (λ (g : Face). FaceIn (n# second) g (piece_of first (table_after first k) l (undivided second first l q)))
        (sym (piece_read second (table_after second k) (pieces_after second k) (after_begins second k) l q u v))
        (face_trans (n# second) (ends (n# second) (pieces_after second k l q)) (pieces_after second k l q) _ (ends_in (n# second) (pieces_after second k l q))
        (face_trans (n# second) (pieces_after second k l q) (pieces_after first k l (undivided second first l q)) (piece_of first (table_after first k) l (undivided second first l q)) (h l q u v)
        (subst (λ (n : ℕ). FaceIn n (pieces_after first k l (undivided second first l q)) (piece_of first (table_after first k) l (undivided second first l q))) (sym (same_n second first into))
        (begins_in first (table_after first k) (pieces_after first k) (after_begins first k) l (undivided second first l q) (in_first second first into u) (is_piece second first into l q u v)))));
  }

  pieces_inside : (k l q : ℕ) → l < L# second → q < pieces second l → FaceIn (n# second) (pieces_after second k l q) (pieces_after first k l (undivided second first l q))
  pieces_inside zero l q u v = tt
  pieces_inside (suc k) l q u v = new_grows second first ok (wider second first into) (table_after second k) (table_after first k) (after_valid second ok k) (table_inside k (pieces_inside k)) l q u v

  tables_inside : (k l q : ℕ) → l < L# second → q < pieces second l
      → FaceIn (n# second) (piece_of second (table_after second k) l q) (piece_of first (table_after first k) l (undivided second first l q))
  tables_inside k = (table_inside k (pieces_inside k)).each

pub finer_stays_safe : FinerStaysSafe
finer_stays_safe first second asks₁ asks₂ into = record {
  divided_accepted = λ t h. divided_accepted t h;
  no_run_meets = λ t h. (third_demand second).no_run_meets (divided second first t) (divided_accepted t h);
  stays_safe = λ limit table work h. accepted_safe second (divided second first (analyse_call first limit table work).table) (table_accepted limit table work h);
  never_unknown = λ limit table work h limit' table' work' e.
      (third_demand second).unknown_refused limit' table' work' e (divided second first (analyse_call first limit table work).table) (table_accepted limit table work h);
  table_accepted = table_accepted;
  tables_inside = tables_inside second first asks₂ into;
  ceiling_grows = omega (arith, ceiling_value first asks₁, ceiling_value second asks₂, ceiling_grows second first into);
  words_grow = words_grow second first into;
  bytes_grow = bytes_grow second first into;
}
  where
    divided_accepted : (t : List ℤ) → Accepts first t → Accepts second (divided second first t)
    divided_accepted t h = accepts second first asks₂ into t (accepted first t h)

    table_accepted : (limit : ℕ) (table work : List ℤ) → answers first limit table work ≡ 100 → Accepts second (divided second first (analyse_call first limit table work).table)
    table_accepted limit table work h = divided_accepted (analyse_call first limit table work).table ((third_demand first).safe_accepted limit table work h)
