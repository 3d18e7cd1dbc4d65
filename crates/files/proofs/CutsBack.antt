-- The fields of the cuts that are read are those that would be written for the words that they give, and those that are
-- written are read back. Both go through the locations and the fields side by side.
use mathlib.Core.Path.{◌≡◌, refl, sym, ap, ap₂, ◌∙◌}
use mathlib.Core.Logic.{⊎_elim}
use mathlib.Core.Bool.{Bool, true, false, not}
use mathlib.Core.List.{List, [], ◌∷◌, ◌++◌, append_assoc, append-nil}
use Prim.Native.Nat.{ℕ, zero, suc, ◌+◌, ◌-◌, ◌*◌, ◌≤◌, ◌<◌}
use native.Mathlib.Nat.{suc-mul}
use native.Mathlib.Decide.{dec_lt}
use native.Mathlib.Omega.{arith}
use borrow.Author.Tests.{le-leb, lt-leb}
use lib.Dec.{T, eqb, le→leb}
use lib.IntN.{ℤ, pos, negsuc}
use lib.Signed.{le_z}
use lib.ListN.{length, get_or, take, drop, length-append, length-drop}
use lib.Seq.{take-add, take_all, drop-drop}
use Rattle.integers.specs.Words.{word, num, eq_z, within, AreWords, AreBytes}
use Rattle.integers.specs.Counted.{cat}
use Rattle.integers.proofs.Tests.{and_intro, is_true, is_false, true_is, false_is}
use Rattle.integers.proofs.Counted.{split, eq_z_eq, eq_z_intro}
use Rattle.integers.proofs.Buffers.{cat_at}
use Rattle.files.specs.Bytes.{words_at, words_bytes, part}
use Rattle.files.specs.Fields.{field_at, field, is_field}
use Rattle.files.specs.declared.Field.TheVariants.{Whole}
use Rattle.files.proofs.Words.{length_words, length_bytes, all_bytes_back}
use Rattle.files.proofs.Fields.{Lies, field_lies, field-part, field_back, field_words_back, whole_is, length-field}
use Rattle.plant.proofs.Asks.{ask_intro, then_intro, first_intro}
use Rattle.files.specs.ModelFile.{cut_field, cut_place, cut_field_words, least_location, cut_words_ok, cut_field_questions, end_questions, cuts_questions, names_location, file_cut}
use Rattle.files.proofs.Cuts.{CutYes, named, not_named, location_of, cut_none, Reached, reached_none, reached_more, reached_same, next_yes, is_next, words_named, words_not_named, ended}

-- ---- the field of a cut

field_none : (l : ℕ) (v x : ℤ) → v ≡ negsuc 0 → cut_field l v x ≡ []
field_none l v x e = let t : eq_z v (negsuc 0) ≡ true = is_true (eq_z_intro e) in rw t refl

field_some : (l : ℕ) (v x : ℤ) → T (not (eq_z v (negsuc 0))) → cut_field l v x ≡ field 8 (words_bytes (pos l ∷ v ∷ x ∷ []))
field_some l v x h = let t : eq_z v (negsuc 0) ≡ false = is_false h in rw t refl

-- ---- fields that are read

-- a list of three words
three : (w : List ℤ) → length w ≡ 3 → w ≡ word w 0 ∷ word w 1 ∷ word w 2 ∷ []
three [] e = absurd (omega arith)
three (a ∷ []) e = absurd (omega arith)
three (a ∷ b ∷ []) e = absurd (omega arith)
three (a ∷ b ∷ c ∷ []) e = refl
three (a ∷ b ∷ c ∷ d ∷ w) e = absurd (omega arith)

module _ (s : List ℕ) (b : AreBytes s) (from L : ℕ) (some : 0 < L) (passes : cuts_questions s from L ≡ 0) where
  -- what would be written for location l
  abbrev written : ℕ → List ℕ
  written l = cut_field l (word (file_cut s from L l) 0) (word (file_cut s from L l) 1)

  -- the bytes of a field
  field_stands : (at least l : ℕ) → CutYes s at least L → num (cut_field_words s at) 0 ≡ l
      → cut_field l (word (cut_field_words s at) 1) (word (cut_field_words s at) 2) ≡ part s at 15
  field_stands at least l y e =
      let w : List ℤ = cut_field_words s at in
      let f : word w 0 ≡ pos l = y.natural ∙ ap pos e in
      field_some l (word w 1) (word w 2) y.cut
      ∙ ap (λ (z : ℤ). field 8 (words_bytes (z ∷ word w 1 ∷ word w 2 ∷ []))) (sym f)
      ∙ ap (λ (zs : List ℤ). field 8 (words_bytes zs)) (sym (three w (length_words s (at + 3) 3)))
      ∙ ap (field 8) (all_bytes_back s (at + 3) 3 b y.whole.there)
      ∙ sym (field-part s at 8 (at + 3) 12 (at + 3 + 12) b y.whole.field_is)

  -- at location l, i fields have been passed, and these are what would be written
  record Stands (l : ℕ) : Type 0 where
    i : ℕ
    reached : Reached s from l i
    stands : cat l written ≡ part s from (i * 15)

  stands_from : (l : ℕ) → l ≤ L → Stands l
  unfolding cat
  stands_from zero u = record { i = 0; reached = reached_none s from; stands = refl }
  stands_from (suc l) u = by (stands_from l (omega arith)) (names_location s (cut_place from (stands_from l (omega arith)).i) l) refl
    where
      by : (p : Stands l) (t : Bool) → names_location s (cut_place from p.i) l ≡ t → Stands (suc l)
      by p true n = record {
        i = suc p.i;
        reached = reached_more s from L some passes l p.i (omega arith) p.reached n;
        stands =
            ap₂ (λ (x y : List ℕ). x ++ y) p.stands
            (ap (λ (w : List ℤ). cut_field l (word w 0) (word w 1)) (words_named s from L some passes l p.i (omega arith) p.reached n)
            ∙ field_stands (cut_place from p.i) (least_location s from p.i) l (next_yes s from L some passes l p.i (omega arith) p.reached n) (is_next s from L some passes l p.i (omega arith) p.reached n).1
            ∙ ap (take 15) (sym (drop-drop (p.i * 15) from s)))
            ∙ sym (take-add (p.i * 15) 15 (drop from s)) ∙ ap (λ (k : ℕ). take k (drop from s)) (sym (suc-mul p.i 15));
      }
      by p false n = record {
        i = p.i;
        reached = reached_same s from L some passes l p.i (omega arith) p.reached n;
        stands =
            ap₂ (λ (x y : List ℕ). x ++ y) p.stands
            (ap (λ (w : List ℤ). cut_field l (word w 0) (word w 1)) (words_not_named s from L some passes l p.i (omega arith) p.reached n)
            ∙ field_none l (negsuc 0) (pos 0) refl)
            ∙ append-nil (part s from (p.i * 15));
      }

  -- after all of them the file has ended
  pub cuts_stand : cat L written ≡ drop from s
  cuts_stand =
      let p : Stands L = stands_from L (omega arith) in
      p.stands ∙ take_all (p.i * 15) (drop from s) (omega (arith, length-drop from s, ended s from L some passes p.i p.reached))

-- ---- fields that are written

-- where the file has ended there is no question, and no field names a location
pub end_yes : (s : List ℕ) (from L i : ℕ) → length s ≤ cut_place from i → end_questions s from L i ≡ 0
unfolding end_questions
end_yes s from L i h = rw (le-leb (length s) (cut_place from i) h) refl

cut_ended : (s : List ℕ) (from i k l : ℕ) → i ≤ k → length s ≤ cut_place from i → file_cut s from k l ≡ file_cut s from i l
unfolding file_cut
cut_ended s from i zero l u h = let e : 0 ≡ i = omega arith in ap (λ (x : ℕ). file_cut s from x l) e
cut_ended s from i (suc k) l u h =
    ⊎_elim (λ v. rw (le-leb (length s) (cut_place from k) (omega arith)) (cut_ended s from i k l (omega arith) h)) (λ e. ap (λ (x : ℕ). file_cut s from x l) (sym e)) (split i (suc k) (omega arith))

least_le : (s : List ℕ) (from l i : ℕ) → ((j : ℕ) → j < i → location_of s from j < l) → least_location s from i ≤ l
least_le s from l zero h = omega arith
least_le s from l (suc i) h = omega (arith, h i (omega arith))

range_yes : (a k x : ℕ) → a ≤ x → x ≤ k → T (within (pos a) (pos k) (pos x))
range_yes a k x h u = and_intro (le_z (pos a) (pos x)) (le_z (pos x) (pos k)) (le→leb a x h) (le→leb x k u)

-- the fields of variable v l and value x l of each location l, after p
module _ (p : List ℕ) (v x : ℕ → ℤ) (from L : ℕ) (before : length p ≡ from) (fit : (l : ℕ) → l < L → AreWords (pos l ∷ v l ∷ x l ∷ []))
    (no_value : (l : ℕ) → l < L → v l ≡ negsuc 0 → x l ≡ pos 0) where
  abbrev one : ℕ → List ℕ
  one l = cut_field l (v l) (x l)

  abbrev s : List ℕ
  s = p ++ cat L one

  -- at location l, i fields have been passed: their questions are yes, and they give the words of the locations before
  record Back (l : ℕ) : Type 0 where
    i : ℕ
    few : i ≤ l
    long : length (p ++ cat l one) ≡ cut_place from i
    asks : (j : ℕ) → j < i → end_questions s from L j ≡ 0
    behind : (j : ℕ) → j < i → location_of s from j < l
    gives : (k : ℕ) → k < l → file_cut s from i k ≡ v k ∷ x k ∷ []

  module _ (l : ℕ) (u : l < L) (q : Back l) where
    abbrev at : ℕ
    at = cut_place from q.i

    more : p ++ cat (suc l) one ≡ (p ++ cat l one) ++ one l
    unfolding cat
    more = sym (append_assoc p (cat l one) (one l))

    -- no field
    without : v l ≡ negsuc 0 → Back (suc l)
    without e = record {
      i = q.i;
      few = omega (arith, q.few);
      long = ap length (more ∙ ap (λ (y : List ℕ). (p ++ cat l one) ++ y) (field_none l (v l) (x l) e) ∙ append-nil (p ++ cat l one)) ∙ q.long;
      asks = q.asks;
      behind = λ j h. omega (arith, q.behind j h);
      gives = λ k h. ⊎_elim (λ w. q.gives k w) (λ (w : k ≡ l). rw w here) (split k l h);
    }
      where
        here : file_cut s from q.i l ≡ v l ∷ x l ∷ []
        here =
            cut_none s from q.i l (λ j h. not_named s (cut_place from j) l (λ _ w. omega (arith, q.behind j h, w)))
            ∙ ap₂ (λ (a b : ℤ). a ∷ b ∷ []) (sym e) (sym (no_value l u e))

    -- a field
    module _ (c : T (not (eq_z (v l) (negsuc 0)))) where
      abbrev entry : List ℤ
      entry = pos l ∷ v l ∷ x l ∷ []

      length_payload : length (words_bytes entry) ≡ 12
      length_payload = length_bytes entry

      stands : (r : List ℕ) × (s ≡ (p ++ cat l one) ++ (field 8 (words_bytes entry) ++ r))
      stands =
          let c' = cat_at one L l u in (
            c'.0,
            ap (λ (y : List ℕ). p ++ y) c'.1
                ∙ sym (append_assoc p (cat l one) (one l ++ c'.0))
                ∙ ap (λ (y : List ℕ). (p ++ cat l one) ++ (y ++ c'.0)) (field_some l (v l) (x l) c),
          )

      whole : field_at s at ≡ Whole 8 (at + 3) 12 (at + 3 + 12)
      whole = ap (λ (y : List ℕ). field_at y at) stands.1 ∙ field_back (p ++ cat l one) 8 (words_bytes entry) stands.0 at 12 q.long length_payload (omega arith)

      lies : Lies s at 8 (at + 3) 12 (at + 3 + 12)
      lies = field_lies s at 8 (at + 3) 12 (at + 3 + 12) whole

      words : cut_field_words s at ≡ entry
      words = ap (λ (y : List ℕ). words_at y (at + 3) 3) stands.1 ∙ field_words_back (p ++ cat l one) 8 entry stands.0 at 3 q.long refl (fit l u)

      names_it : num (cut_field_words s at) 0 ≡ l
      names_it = ap (λ (w : List ℤ). num w 0) words

      yes_here : end_questions s from L q.i ≡ 0
      unfolding end_questions cut_field_questions cut_words_ok
      yes_here =
          rw (lt-leb (length s) at (omega (arith, lies.there)))
          (then_intro (ask_intro (eqb (get_or s at 0) 8) 8 (rw (← lies.tag_is) tt))
          (then_intro (ask_intro (is_field (field_at s at) 8 12) 46 (whole_is (field_at s at) 8 (at + 3) 12 (at + 3 + 12) whole))
          (ask_intro (cut_words_ok (cut_field_words s at) (least_location s from q.i) L) 46
          (rw words (and_intro (within (pos (least_location s from q.i)) (pos (L - 1)) (pos l)) (not (eq_z (v l) (negsuc 0))) (range_yes (least_location s from q.i) (L - 1) l (least_le s from l q.i q.behind) (omega arith)) c)))))

      with_field : Back (suc l)
      unfolding file_cut
      with_field = record {
        i = suc q.i;
        few = omega (arith, q.few);
        long = ap length (more ∙ ap (λ (y : List ℕ). (p ++ cat l one) ++ y) (field_some l (v l) (x l) c))
            ∙ omega (arith, length-append (p ++ cat l one) (field 8 (words_bytes entry)), q.long, length-field 8 (words_bytes entry), length_payload);
        asks = λ j h. ⊎_elim (λ w. q.asks j w) (λ (w : j ≡ q.i). rw w yes_here) (split j q.i h);
        behind = λ j h. ⊎_elim (λ w. omega (arith, q.behind j w)) (λ (w : j ≡ q.i). omega (arith, ap (location_of s from) w, names_it)) (split j q.i h);
        gives = λ k h. ⊎_elim (λ w. old k w) (λ (w : k ≡ l). rw w new) (split k l h);
      }
        where
          old : (k : ℕ) → k < l → file_cut s from (suc q.i) k ≡ v k ∷ x k ∷ []
          old k w = rw (not_named s at k (λ _ e. omega (arith, names_it, e))) (q.gives k w)

          new : file_cut s from (suc q.i) l ≡ v l ∷ x l ∷ []
          new = rw (named s at l (omega (arith, lies.there)) names_it) (ap (λ (w : List ℤ). word w 1 ∷ word w 2 ∷ []) words)

  back : (l : ℕ) → l ≤ L → Back l
  unfolding cat
  back zero u = record {
    i = 0;
    few = omega arith;
    long = ap length (append-nil p) ∙ before ∙ omega arith;
    asks = λ j h. absurd (omega arith);
    behind = λ j h. absurd (omega arith);
    gives = λ k h. absurd (omega arith);
  }
  back (suc l) u = by (back l (omega arith)) (eq_z (v l) (negsuc 0)) refl
    where
      by : Back l → (t : Bool) → eq_z (v l) (negsuc 0) ≡ t → Back (suc l)
      by q true e = without l (omega arith) q (eq_z_eq (v l) (negsuc 0) (true_is e))
      by q false e = with_field l (omega arith) q (false_is e)

  all : Back L
  all = back L (omega arith)

  pub cuts_asked : cuts_questions s from L ≡ 0
  unfolding cuts_questions
  cuts_asked = first_intro (suc L) (end_questions s from L) (λ j h. by j (dec_lt j all.i))
    where
      by : (j : ℕ) → Dec (j < all.i) → end_questions s from L j ≡ 0
      by j (yes w) = all.asks j w
      by j (no w) = end_yes s from L j (omega (arith, all.long))

  pub cuts_read : (l : ℕ) → l < L → file_cut s from L l ≡ v l ∷ x l ∷ []
  cuts_read l h = cut_ended s from all.i L l all.few (omega (arith, all.long)) ∙ all.gives l h
