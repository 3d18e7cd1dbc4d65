-- Lists that stand one after the other, of which some are replaced, or the next one is put after those before it.
use mathlib.Core.Path.{◌≡◌, refl, sym, ap, ap₂, ◌∙◌}
use mathlib.Core.List.{List, ◌++◌, append_assoc}
use Prim.Native.Nat.{ℕ, ◌+◌, ◌-◌, ◌<◌, ◌≤◌}
use native.Mathlib.Omega.{arith}
use lib.IntN.{ℤ}
use lib.ListN.{length, take, drop, length-append}
use lib.Seq.{take_at, drop_at, drop-drop}
use borrow.Rule.Slice.PartMut.{mid_of, put_mid}
use Rattle.integers.specs.Words.{onto}
use Rattle.integers.specs.Counted.{cat, sum_below}
use Rattle.integers.proofs.Buffers.{onto_none, onto_all, cat_none, cat_more, length_cat_sum, cat_ext}
use Rattle.integers.proofs.Rows.{cat_add}

-- a part in a list that is put together
pub put_between : (p x q z : List ℤ) (at k : ℕ) → length p ≡ at → length x ≡ k → put_mid at k (p ++ (x ++ q)) z ≡ p ++ (z ++ q)
put_between p x q z at k e f =
    ap₂ (λ (a b : List ℤ). a ++ (z ++ b)) (take_at p (x ++ q) at e) (ap (drop k) (drop_at p (x ++ q) at e) ∙ drop_at x q k f)

pub mid_between : (p x q : List ℤ) (at k : ℕ) → length p ≡ at → length x ≡ k → mid_of at k (p ++ (x ++ q)) ≡ x
mid_between p x q at k e f = ap (take k) (drop_at p (x ++ q) at e) ∙ take_at x q k f

-- ---- lists taken together

pub cat_one : (g : ℕ → List ℤ) → cat 1 g ≡ g 0
unfolding cat
cat_one g = refl

-- ---- lists that differ from list i on in p lists alone

pub record Differ (k : ℕ) (g h : ℕ → List ℤ) (i p : ℕ) : Type 0 where
  pub rest : List ℤ
  pub is_first : cat k g ≡ cat i g ++ (cat p (λ j. g (i + j)) ++ rest)
  pub is_second : cat k h ≡ cat i g ++ (cat p (λ j. h (i + j)) ++ rest)

pub differ : (k : ℕ) (g h : ℕ → List ℤ) (i p : ℕ) → i + p ≤ k → ((j : ℕ) → j < k → (i ≤ j → j < i + p → ⊥) → g j ≡ h j) → Differ k g h i p
differ k g h i p l e = record {
  rest = cat r (λ j. g (i + p + j));
  is_first = whole g;
  is_second = whole h ∙ ap₂ (λ (a b : List ℤ). a ++ (cat p (λ j. h (i + j)) ++ b))
      (sym (cat_ext i g h (λ j u. e j (omega arith) (λ v w. omega arith))))
      (sym (cat_ext r (λ j. g (i + p + j)) (λ j. h (i + p + j)) (λ j u. e (i + p + j) (omega arith) (λ v w. omega arith))));
}
  where
    r : ℕ
    r = k - (i + p)

    whole : (x : ℕ → List ℤ) → cat k x ≡ cat i x ++ (cat p (λ j. x (i + j)) ++ cat r (λ j. x (i + p + j)))
    whole x =
        let e : k ≡ i + p + r = omega arith in
        ap (λ (n : ℕ). cat n x) e ∙ cat_add (i + p) r x
        ∙ ap (λ (s : List ℤ). s ++ cat r (λ j. x (i + p + j))) (cat_add i p x)
        ∙ append_assoc (cat i x) (cat p (λ j. x (i + j))) (cat r (λ j. x (i + p + j)))

-- ---- the next list, put after those before it

pub put_next : (a d s : List ℤ) (at end : ℕ) → length a ≡ at → length s ≡ end - at → at ≤ end → end ≤ length d → put_mid at (end - at) (onto a d) s ≡ onto (a ++ s) d
unfolding onto
put_next a d s at end e f u v =
    ap₂ (λ (x y : List ℤ). x ++ (s ++ y)) (take_at a (drop (length a) d) at e)
    (ap (drop (end - at)) (drop_at a (drop (length a) d) at e) ∙ drop-drop (end - at) (length a) d ∙ ap (λ (k : ℕ). drop k d) here)
    ∙ sym (append_assoc a s (drop (length (a ++ s)) d))
  where
    here : length a + (end - at) ≡ length (a ++ s)
    here = omega (arith, length-append a s)

-- lists of w 0, w 1, .. words, of which those below i were put into the words d
module _ (w : ℕ → ℕ) (g : ℕ → List ℤ) (sized : (i : ℕ) → length (g i) ≡ w i) (d : List ℤ) where
  filled_length : (i : ℕ) → length (cat i g) ≡ sum_below i w
  filled_length i = length_cat_sum i w g (λ j _. sized j)

  pub none_put : d ≡ onto (cat 0 g) d
  none_put = onto_none d ∙ ap (λ (s : List ℤ). onto s d) (sym (cat_none g))

  module _ (i : ℕ) {at end : ℕ} {ws : List ℤ} (filled : ws ≡ onto (cat i g) d) (at_is : at ≡ sum_below i w) (end_is : end ≡ at + w i) (inside : end ≤ length d) where
    -- the next one's place has still the words of d
    pub place_rest : mid_of at (end - at) ws ≡ mid_of at (end - at) d
    unfolding onto
    place_rest = rw (filled, at_is) (ap (take (end - sum_below i w)) (drop_at (cat i g) (drop (length (cat i g)) d) (sum_below i w) (filled_length i) ∙ ap (λ (k : ℕ). drop k d) (filled_length i)))

    pub one_put : {s : List ℤ} → s ≡ g i → put_mid at (end - at) ws s ≡ onto (cat (i + 1) g) d
    one_put e = rw (e, filled) (put_next (cat i g) d (g i) at end (omega (arith, filled_length i)) (omega (arith, sized i)) (omega arith) inside ∙ ap (λ (s : List ℤ). onto s d) (sym (cat_more i g)))

  pub all_put : (k : ℕ) {ws : List ℤ} → ws ≡ onto (cat k g) d → length d ≡ sum_below k w → ws ≡ cat k g
  all_put k e h = e ∙ onto_all (cat k g) d (omega (arith, filled_length k))
