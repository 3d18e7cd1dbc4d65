-- The counted passes: what holds at each turn, and what the definition answers where the turn ends the search.
use mathlib.Core.Path.{◌≡◌, refl, sym, ap, ap₂, ◌∙◌}
use mathlib.Core.Bool.{true, false}
use mathlib.Core.List.{List, ◌++◌}
use Prim.Native.Nat.{ℕ, zero, suc, ◌+◌, ◌-◌, ◌<◌, ◌≤◌}
use native.Mathlib.Numerals.{add-one}
use native.Mathlib.Omega.{arith}
use lib.IntN.{ℤ, pos}
use lib.ListN.{length, replicate, replicate-append-replicate}
use Rattle.integers.specs.Words.{equal}
use Rattle.integers.specs.Counted.{cat, sum_below}
use Rattle.integers.proofs.Counted.{sum_same}
use Rattle.plant.specs.declared.Answer.{Answer}
use Rattle.plant.specs.declared.Answer.TheVariants.{Safe, Unknown, Unfinished}
use Rattle.plant.specs.Box.{absent, face_words}
use Rattle.plant.specs.Model.{n#, L#}
use Rattle.plant.specs.Pieces.{pieces}
use Rattle.plant.specs.Tables.{face_size, piece_count, table_size, table_by, table_ok, pass, table_after, touching}
use Rattle.plant.specs.Calls.{search, analysis, answer_table}
use Rattle.plant.proofs.Passed.{Passed}
use Rattle.plant.proofs.Tables.{location_words, words_before}
use Rattle.plant.proofs.Keeps.{after_length, after_pass, after_ok}

-- ---- table 0 is all zero words

cat_zeros : (k : ℕ) (w : ℕ → ℕ) (g : ℕ → List ℤ) → ((i : ℕ) → g i ≡ replicate (w i) (pos 0)) → cat k g ≡ replicate (sum_below k w) (pos 0)
unfolding cat sum_below
cat_zeros zero w g h = refl
cat_zeros (suc k) w g h = ap₂ (λ (a b : List ℤ). a ++ b) (cat_zeros k w g h) (h k) ∙ replicate-append-replicate (sum_below k w) (w k) (pos 0)

zeros_first : (m : List ℤ) → replicate (table_size m) (pos 0) ≡ table_after m 0
unfolding table_after table_by table_size piece_count face_words
zeros_first m =
    ap (λ (x : ℕ). replicate x (pos 0)) (sym (words_before m (L# m)))
    ∙ sym (cat_zeros (L# m) (location_words m) (λ l. cat (pieces m l) (λ q. face_words (n# m) absent))
    (λ l. cat_zeros (pieces m l) (λ q. face_size (n# m)) (λ q. face_words (n# m) absent) (λ q. refl) ∙ ap (λ (x : ℕ). replicate x (pos 0)) (sum_same (pieces m l) (face_size (n# m)))))

-- ---- the answer at table k

module _ (m : List ℤ) (k : ℕ) where
  at_unknown : (left : ℕ) → touching m (table_after m k) ≡ true → search m left k ≡ Unknown k
  unfolding search
  at_unknown zero h = rw h refl
  at_unknown (suc left) h = rw h refl

  module _ (clear : touching m (table_after m k) ≡ false) where
    at_safe : (left : ℕ) → equal (table_after m (suc k)) (table_after m k) ≡ true → search m left k ≡ Safe k
    unfolding search
    at_safe zero e = simp (clear, e)
    at_safe (suc left) e = simp (clear, e)

    module _ (changes : equal (table_after m (suc k)) (table_after m k) ≡ false) where
      at_limit : search m 0 k ≡ Unfinished k
      unfolding search
      at_limit = simp (clear, changes)

      at_more : (left : ℕ) → search m (suc left) k ≡ search m left (suc k)
      unfolding search
      at_more left = simp (clear, changes)

-- ---- a turn

-- before turn k: the table is table k, and the answer is what the search gives from here
pub record Going (m : List ℤ) (limit : ℕ) (table work : List ℤ) (k : ℕ) : Type 0 where
  pub k_within : k ≤ limit
  pub goes_on : analysis m limit ≡ search m (limit - k) k
  pub table_is : table ≡ table_after m k
  pub work_size : length work ≡ table_size m

pub going_first : (m : List ℤ) (limit : ℕ) (table work : List ℤ) → length table ≡ table_size m → length work ≡ table_size m → Going m limit (replicate (length table) (pos 0)) work 0
unfolding analysis
going_first m limit table work e f = record {
  k_within = omega arith;
  goes_on = ap (λ (left : ℕ). search m left 0) (omega arith);
  table_is = ap (λ (x : ℕ). replicate x (pos 0)) e ∙ zeros_first m;
  work_size = f;
}

-- an answer, and the table that is left
abbrev Answers : List ℤ → ℕ → List ℤ → Answer → Type 0
Answers m limit table a = (a ≡ analysis m limit) × (table ≡ answer_table m a)

module _ (m : List ℤ) (limit : ℕ) (table work : List ℤ) (k : ℕ) (g : Going m limit table work k) where
  pub going_length : length table ≡ table_size m
  going_length = ap length g.table_is ∙ after_length m k

  pub going_ok : Passed m → table_ok m table ≡ true
  going_ok ok = rw g.table_is (after_ok m ok k)

  pub going_unknown : touching m table ≡ true → Answers m limit table (Unknown k)
  unfolding answer_table
  going_unknown h = (sym (g.goes_on ∙ at_unknown m k (limit - k) (ap (touching m) (sym g.table_is) ∙ h)), g.table_is)

  module _ (clear : touching m table ≡ false) where
    clear_is : touching m (table_after m k) ≡ false
    clear_is = ap (touching m) (sym g.table_is) ∙ clear

    same_is : equal (table_after m (suc k)) (table_after m k) ≡ equal (pass m table) table
    same_is = ap (λ (t : List ℤ). equal t (table_after m k)) (sym (after_pass m k)) ∙ ap (λ (t : List ℤ). equal (pass m t) t) (sym g.table_is)

    pub going_safe : equal (pass m table) table ≡ true → Answers m limit table (Safe k)
    unfolding answer_table
    going_safe e = (sym (g.goes_on ∙ at_safe m k clear_is (limit - k) (same_is ∙ e)), g.table_is)

    module _ (changes : equal (pass m table) table ≡ false) where
      pub going_limit : k ≡ limit → Answers m limit table (Unfinished k)
      unfolding answer_table
      going_limit e =
          let z : limit - k ≡ 0 = omega arith in
          (sym (g.goes_on ∙ ap (λ (left : ℕ). search m left k) z ∙ at_limit m k clear_is (same_is ∙ changes)), g.table_is)

      pub going_more : k < limit → (after : List ℤ) → length after ≡ table_size m → Going m limit (pass m table) after (k + 1)
      going_more l after e =
          let s : limit - k ≡ suc (limit - (k + 1)) = omega arith in
          record {
            k_within = omega arith;
            goes_on = g.goes_on ∙ ap (λ (left : ℕ). search m left k) s ∙ at_more m k clear_is (same_is ∙ changes) (limit - (k + 1)) ∙ ap (search m (limit - (k + 1))) (sym (add-one k));
            table_is = ap (pass m) g.table_is ∙ after_pass m k ∙ ap (table_after m) (sym (add-one k));
            work_size = e;
          }
