-- The checker and the tables of the passes: an accepted list of words holds every table k, so it touches what they touch;
-- and a table that repeats and touches nothing is accepted, whatever words follow it.
use mathlib.Core.Path.{◌≡◌, refl, sym, ap, ◌∙◌, subst}
use mathlib.Core.Bool.{not}
use mathlib.Core.List.{List}
use Prim.Native.Nat.{ℕ, zero, suc, ◌<◌, ◌≤◌}
use native.Mathlib.Omega.{arith}
use lib.Dec.{T, T_not, not_T, leb, le→leb}
use lib.IntN.{ℤ}
use lib.ListN.{length, take}
use Rattle.integers.specs.Words.{onto}
use Rattle.integers.proofs.Counted.{equal_eq, equal_intro}
use Rattle.plant.specs.Ask.{ask}
use Rattle.plant.specs.Box.{Face, FaceIn}
use Rattle.plant.specs.Model.{n#, L#}
use Rattle.plant.specs.Questions.{model_questions}
use Rattle.plant.specs.Pieces.{pieces}
use Rattle.plant.specs.Tables.{table_size, table_ok, piece_of, new_piece, pass, table_after, touching}
use Rattle.plant.specs.Calls.{unchanged, certificate_questions, table_questions, checker_questions, check_by, check_call}
use Rattle.plant.specs.Demands.{Accepts, Touches, Repeats}
use Rattle.plant.proofs.Asks.{ask_yes, ask_intro, ask_le, asked, then_both, then_intro, then_le}
use Rattle.plant.proofs.Numbers.{model_le}
use Rattle.plant.proofs.Boxes.{face_refl, face_eq, face_trans, face_antisym}
use Rattle.plant.proofs.Passed.{Passed, passed}
use Rattle.plant.proofs.Tables.{Begins, ends, ends_in, in_ends, long_enough, piece_read, begins_again, table_ext, Valid, ok_valid, made_valid, made_ok}
use Rattle.plant.proofs.Growth.{TableIn, grows, narrower_refl, new_mono}
use Rattle.plant.proofs.Keeps.{pieces_after, pieces_ok, after_made, after_pass, after_begins, onto_begins, after_valid}
use Rattle.plant.proofs.Forbidden.{touching_mono}
use Rattle.plant.proofs.Sound.{Closed}

-- ---- the number of a refusal

-- no refusal of the checker is 100
pub certificate_le : (m t : List ℤ) → certificate_questions m t ≤ 46
unfolding certificate_questions
certificate_le m t = then_le (ask (unchanged m t) 33) _ 46 (omega (arith, ask_le (unchanged m t) 33)) (omega (arith, ask_le (not (touching m t)) 34))

checker_le : (m t : List ℤ) → checker_questions m t ≤ 46
unfolding checker_questions table_questions
checker_le m t =
    then_le (model_questions m) _ 46 (omega (arith, model_le m))
    (then_le (ask (leb (table_size m) (length t)) 20) _ 46 (omega (arith, ask_le (leb (table_size m) (length t)) 20))
    (then_le (ask (table_ok m t) 32) _ 46 (omega (arith, ask_le (table_ok m t) 32)) (certificate_le m t)))

pub accepted_code : (q : ℕ) → q < 100 → (check_by q).code ≡ 100 → q ≡ 0
accepted_code zero l e = refl
accepted_code (suc q) l e = absurd (omega arith)

pub accepts_yes : (m t : List ℤ) → Accepts m t → checker_questions m t ≡ 0
unfolding check_call
accepts_yes m t h = accepted_code (checker_questions m t) (omega (arith, checker_le m t)) h

-- ---- an accepted list of words

-- it passes 20 and 32 to 34: so its pieces are good, a pass adds nothing to it, and it touches nothing forbidden
pub record Accepted (m t : List ℤ) : Type 0 where
  pub is_long : T (leb (table_size m) (length t))
  pub is_table : T (table_ok m t)
  pub is_unchanged : T (unchanged m t)
  pub is_clear : T (not (touching m t))
  pub is_valid : Valid m t
  pub is_closed : Closed m t

-- the words t begin with the pieces g: they hold them; and if those after a pass lie in g, a pass adds nothing to t
module _ (m t : List ℤ) (g : ℕ → ℕ → Face) (begins : Begins m t g) where
  pub begins_in : (l q : ℕ) → l < L# m → q < pieces m l → FaceIn (n# m) (g l q) (piece_of m t l q)
  begins_in l q u v = face_trans (n# m) (g l q) (ends (n# m) (g l q)) (piece_of m t l q) (in_ends (n# m) (g l q)) (face_eq (n# m) (sym (piece_read m t g begins l q u v)))

  pub begins_closed : ((l q : ℕ) → l < L# m → q < pieces m l → FaceIn (n# m) (new_piece m t l q) (g l q)) → Closed m t
  begins_closed h = record { closed = λ l q u v. face_trans (n# m) (new_piece m t l q) (g l q) (piece_of m t l q) (h l q u v) (begins_in l q u v) }

  -- and a pass that adds nothing leaves them as they are
  pub closed_unchanged : Closed m t → T (unchanged m t)
  unfolding unchanged pass
  closed_unchanged shut = equal_intro
      (table_ext m (new_piece m t) (piece_of m t) (λ l q u v. face_antisym (n# m) (new_piece m t l q) (piece_of m t l q) (shut.closed l q u v) (grows m t l q))
      ∙ sym (begins_again m t g begins))

closed_of : (m t : List ℤ) → T (unchanged m t) → Closed m t
unfolding unchanged pass
closed_of m t h = begins_closed m t (new_piece m t) (sym (equal_eq (pass m t) (take (table_size m) t) h)) (λ l q u v. face_refl (n# m) (new_piece m t l q))

-- the answers that make an acceptance: 33 and 34, and all
pub certificate_yes : (m t : List ℤ) → T (unchanged m t) → T (not (touching m t)) → certificate_questions m t ≡ 0
unfolding certificate_questions
certificate_yes m t same clear = then_intro (ask_intro (unchanged m t) 33 same) (ask_intro (not (touching m t)) 34 clear)

pub questions_yes : (m t : List ℤ) → model_questions m ≡ 0 → T (leb (table_size m) (length t)) → T (table_ok m t) → T (unchanged m t) → T (not (touching m t)) → checker_questions m t ≡ 0
unfolding checker_questions table_questions
questions_yes m t model long good same clear =
    then_intro model (then_intro (ask_intro (leb (table_size m) (length t)) 20 long) (then_intro (ask_intro (table_ok m t) 32 good) (certificate_yes m t same clear)))

pub accepted : (m t : List ℤ) → Accepts m t → Accepted m t
unfolding checker_questions table_questions certificate_questions
accepted m t h =
    let a : _ × _ = then_both (model_questions m) _ (accepts_yes m t h) in
    let b : T (leb (table_size m) (length t)) × _ = asked (leb (table_size m) (length t)) 20 _ (omega arith) a.1 in
    let c : T (table_ok m t) × _ = asked (table_ok m t) 32 _ (omega arith) b.1 in
    let d : T (unchanged m t) × _ = asked (unchanged m t) 33 _ (omega arith) c.1 in
    record {
      is_long = b.0;
      is_table = c.0;
      is_unchanged = d.0;
      is_clear = ask_yes (not (touching m t)) 34 (omega arith) d.1;
      is_valid = ok_valid m t c.0;
      is_closed = closed_of m t d.0;
    }

module _ (m : List ℤ) (asks : model_questions m ≡ 0) where
  ok : Passed m
  ok = passed m asks

  -- t holds table k if it holds the pieces of which table k is made
  pub table_held : (t : List ℤ) (k : ℕ) → ((l q : ℕ) → l < L# m → q < pieces m l → FaceIn (n# m) (pieces_after m k l q) (piece_of m t l q)) → TableIn m (table_after m k) t
  table_held t k h = record {
    each = λ l q u v. subst (λ (x : Face). FaceIn (n# m) x (piece_of m t l q)) (sym (piece_read m (table_after m k) (pieces_after m k) (after_begins m k) l q u v))
        (face_trans (n# m) (ends (n# m) (pieces_after m k l q)) (pieces_after m k l q) (piece_of m t l q) (ends_in (n# m) (pieces_after m k l q)) (h l q u v));
  }

  -- it does: table 0 is all absent, and a pass of what it holds stays in it
  pieces_held : (t : List ℤ) → Accepted m t → (k l q : ℕ) → l < L# m → q < pieces m l → FaceIn (n# m) (pieces_after m k l q) (piece_of m t l q)
  pieces_held t a zero l q u v = tt
  pieces_held t a (suc k) l q u v =
      face_trans (n# m) (new_piece m (table_after m k) l q) (new_piece m t l q) (piece_of m t l q)
      (new_mono m m ok (narrower_refl m) (table_after m k) t (after_valid m ok k) (table_held t k (pieces_held t a k)) l q u v) (a.is_closed.closed l q u v)

  pub holds_table : (t : List ℤ) → Accepted m t → (k : ℕ) → TableIn m (table_after m k) t
  holds_table t a k = table_held t k (pieces_held t a k)

  -- so where table k touches, every list of words is refused
  pub touches-refused : (k : ℕ) → Touches m k → (t : List ℤ) → Accepts m t → ⊥
  touches-refused k h t a =
      let g : Accepted m t = accepted m t a in
      T_not (touching m t) g.is_clear (touching_mono m m ok (narrower_refl m) (table_after m k) t (after_valid m ok k) (holds_table t g k) h)

  -- ---- a table that repeats and touches nothing

  -- lists of words that begin with the same pieces
  pieces_alike : (t t' : List ℤ) (g : ℕ → ℕ → Face) → Begins m t g → Begins m t' g → TableIn m t t'
  pieces_alike t t' g b b' = record { each = λ l q u v. face_eq (n# m) (piece_read m t g b l q u v ∙ sym (piece_read m t' g b' l q u v)) }

  same_pass : (t t' : List ℤ) → Valid m t → Valid m t' → TableIn m t t' → TableIn m t' t → pass m t ≡ pass m t'
  unfolding pass
  same_pass t t' v v' p r = table_ext m (new_piece m t) (new_piece m t')
      (λ l q x y. face_antisym (n# m) (new_piece m t l q) (new_piece m t' l q) (new_mono m m ok (narrower_refl m) t t' v p l q x y) (new_mono m m ok (narrower_refl m) t' t v' r l q x y))

  -- with any words put behind it
  pub repeats_accepted : (k : ℕ) → (Touches m k → ⊥) → Repeats m k → (s : List ℤ) → Accepts m (onto (table_after m k) s)
  unfolding check_call unchanged
  repeats_accepted k clear repeats s = ap (λ (q : ℕ). (check_by q).code)
      (questions_yes m t asks (le→leb (table_size m) (length t) (long_enough m t (pieces_after m k) begins)) (made_ok m ok t (pieces_after m k) begins (pieces_ok m ok k))
      (equal_intro same_words) (not_T (touching m t) clears))
    where
      t : List ℤ
      t = onto (table_after m k) s

      begins : Begins m t (pieces_after m k)
      begins = onto_begins m k s

      valid_t : Valid m t
      valid_t = made_valid m ok t (pieces_after m k) begins (pieces_ok m ok k)

      into : TableIn m t (table_after m k)
      into = pieces_alike t (table_after m k) (pieces_after m k) begins (after_begins m k)

      from : TableIn m (table_after m k) t
      from = pieces_alike (table_after m k) t (pieces_after m k) (after_begins m k) begins

      same_words : pass m t ≡ take (table_size m) t
      same_words = same_pass t (table_after m k) valid_t (after_valid m ok k) into from ∙ after_pass m k ∙ repeats ∙ after_made m k ∙ sym begins

      clears : T (touching m t) → ⊥
      clears h = clear (touching_mono m m ok (narrower_refl m) t (table_after m k) valid_t into h)
