-- What depends on n, L, invariants and cuts alone is the same of two models that have these in common: what 35 to 38 and 32 ask of a
-- table file, the table that it holds, and the file of a table.
use mathlib.Core.Path.{◌≡◌, refl, sym, ap, ◌∙◌, subst}
use mathlib.Core.Bool.{Bool, cond, ◌&&◌}
use mathlib.Core.List.{List, [], ◌∷◌, ◌++◌}
use Prim.Native.Nat.{ℕ, zero, suc, ◌+◌, ◌*◌, ◌-◌, ◌%◌, ◌<◌}
use native.Mathlib.Omega.{arith}
use lib.Dec.{leb, eqb, eqb→eq}
use lib.IntN.{ℤ, pos, nat_abs}
use lib.ListN.{length}
use Rattle.integers.specs.Words.{word, num, within}
use Rattle.integers.specs.Counted.{sum_below}
use Rattle.integers.proofs.Tests.{and_same}
use Rattle.integers.proofs.Counted.{within_abs, sum_ext}
use Rattle.files.specs.Bytes.{words_at, word_bytes, words_bytes}
use Rattle.files.specs.Fields.{header_size, payload_length, field_place, field_at, is_field, field}
use Rattle.plant.specs.Ask.{ask, ◌then◌, first}
use Rattle.plant.specs.Box.{low, high, box_by, box_at, Face, absent, present}
use Rattle.plant.specs.Model.{n#, L#}
use Rattle.plant.specs.Pieces.{per_face, pieces, piece_number, piece_index}
use Rattle.plant.specs.Tables.{piece_of, table_ok}
use Rattle.plant.proofs.Asks.{first_each, first_same}
use Rattle.plant.proofs.Passed.{Passed}
use Rattle.plant.proofs.Alike.{Alike, same_per_face, same_pieces, same_number, same_face, same_before, same_count, same_any_cut, same_order, same_table, same_ok}
use Rattle.files.specs.TableFile.{place_size, piece_field_size, place_words, piece_field, presence, present_pieces, location_fields, piece_fields, table_file, pieces_from, piece_field_at, count_word, count_question, piece_field_words, piece_word, piece_named, piece_key, least_key, place_ok, piece_question, piece_questions, file_face, count#, file_table, fields_questions, table_file_questions}
use Rattle.files.proofs.TableAsked.{place_yes, field_yes}

-- what 37 asks of a field's words after the location
abbrev after_location : (m w : List ℤ) (least : ℕ) → Bool
after_location m w least =
    within (pos 0) (pos (2 * n# m - 1)) (word w 1)
    && (within (pos 0) (pos (per_face m (num w 0) - 1)) (piece_word m w)
    && leb least (piece_key m w))

module _ (m m' : List ℤ) (like : Alike m m') where
  -- ---- the sizes of fields, and their words

  same_place : place_size m ≡ place_size m'
  unfolding place_size
  same_place = λ i. cond (same_any_cut m m' like i) 3 2

  same_field : piece_field_size m ≡ piece_field_size m'
  same_field = λ i. same_place i + 2 * like.same_n i

  same_piece_word : (w : List ℤ) → piece_word m w ≡ piece_word m' w
  unfolding piece_word
  same_piece_word w = λ i. cond (same_any_cut m m' like i) (word w 2) (pos 0)

  -- ---- what they name, if it is a piece of a location

  same_named : (w : List ℤ) → num w 0 < L# m → piece_named m w ≡ piece_named m' w
  unfolding piece_named
  same_named w u = same_number m m' like (num w 0) u (num w 1) (nat_abs (piece_word m w)) ∙ λ i. piece_number m' (num w 0) (num w 1) (nat_abs (same_piece_word w i))

  same_key : (w : List ℤ) → num w 0 < L# m → piece_key m w ≡ piece_key m' w
  same_key w u = λ i. same_before m m' like (num w 0) u i + same_named w u i

  module _ (s : List ℕ) where
    same_field_at : (i : ℕ) → piece_field_at m i ≡ piece_field_at m' i
    same_field_at i = λ j. field_place pieces_from (same_field j) i

    same_words : (i : ℕ) → piece_field_words m s i ≡ piece_field_words m' s i
    unfolding piece_field_words
    same_words i = λ j. words_at s (same_field_at i j + header_size) (same_field j)

    -- ---- the table

    same_file_face : (k l q : ℕ) → l < L# m → file_face m s k l q ≡ file_face m' s k l q
    unfolding file_face
    same_file_face zero l q u = refl
    same_file_face (suc k) l q u =
        (λ i. cond (eqb (num (same_words k i) 0) l && eqb (piece_named m (same_words k i)) q) (present (box_at (n# m) (same_words k i) (place_size m))) (file_face m s k l q))
        ∙ λ i. cond (named i) (present (box_at (like.same_n i) (piece_field_words m' s k) (same_place i))) (same_file_face k l q u i)
      where
        named : (eqb (num (piece_field_words m' s k) 0) l && eqb (piece_named m (piece_field_words m' s k)) q) ≡ (eqb (num (piece_field_words m' s k) 0) l && eqb (piece_named m' (piece_field_words m' s k)) q)
        named = and_same (eqb (num (piece_field_words m' s k) 0) l) _ _
            (λ h. ap (λ (x : ℕ). eqb x q) (same_named (piece_field_words m' s k) (subst (λ (x : ℕ). x < L# m) (sym (eqb→eq (num (piece_field_words m' s k) 0) l h)) u)))

    pub same_file_table : file_table m s ≡ file_table m' s
    unfolding file_table
    same_file_table = same_table m m' like (file_face m s (count# s)) (file_face m' s (count# s)) (λ l q u v. same_file_face (count# s) l q u)

    -- ---- the questions

    -- 37 looks at what the words name only where the location exists
    same_place_ok : 0 < L# m → (w : List ℤ) (least : ℕ) → place_ok m w least ≡ place_ok m' w least
    unfolding place_ok
    same_place_ok hl w least =
        and_same (within (pos 0) (pos (L# m - 1)) (word w 0)) (after_location m w least) (after_location m' w least)
        (λ h. let u : num w 0 < L# m = omega (arith, within_abs (word w 0) (L# m - 1) h) in λ i.
        within (pos 0) (pos (2 * like.same_n i - 1)) (word w 1)
        && (within (pos 0) (pos (same_per_face m m' like (num w 0) u i - 1)) (same_piece_word w i)
        && leb least (same_key w u i)))
        ∙ ap (λ (k : ℕ). within (pos 0) (pos (k - 1)) (word w 0) && after_location m' w least) like.same_L

    module _ (ok : Passed m) where
      -- where every field before names one
      same_least : (i : ℕ) → first i (piece_questions m s) ≡ 0 → least_key m s i ≡ least_key m' s i
      same_least zero z = refl
      same_least (suc i) z =
          let asked : piece_questions m s i ≡ 0 = first_each (suc i) (piece_questions m s) z i (omega arith) in
          let u : num (piece_field_words m s i) 0 < L# m = (place_yes m (piece_field_words m s i) (least_key m s i) ok.n_positive ok.L_positive (field_yes m s i asked).1).location_below in
          (λ j. same_key (piece_field_words m s i) u j + 1) ∙ λ j. piece_key m' (same_words i j) + 1

      same_question : (i : ℕ) → first i (piece_questions m s) ≡ 0 → piece_questions m s i ≡ piece_questions m' s i
      unfolding piece_question piece_field_words
      same_question i z =
          (λ j. ask (is_field (field_at s (same_field_at i j)) 5 (payload_length (same_field j))) 36 then ask (place_ok m (same_words i j) (same_least i z j)) 37)
          ∙ λ j. ask (is_field (field_at s (piece_field_at m' i)) 5 (payload_length (piece_field_size m'))) 36 then ask (same_place_ok ok.L_positive (piece_field_words m' s i) (least_key m' s i) j) 37

      same_fields : fields_questions m s ≡ fields_questions m' s
      unfolding fields_questions count_question
      same_fields = λ j.
          (ask (is_field (field_at s 0) 6 (payload_length 1)) 35 then ask (within (pos 0) (pos (same_count m m' like j)) (count_word s)) 35)
          then (first_same (count# s) (piece_questions m s) (piece_questions m' s) (λ i _. same_question i) j
          then ask (eqb (length s) (same_field_at (count# s) j)) 38)

      pub same_file_questions : table_file_questions m s ≡ table_file_questions m' s
      unfolding table_file_questions
      same_file_questions = rw (same_fields, tables) refl
        where
          tables : table_ok m (file_table m s) ≡ table_ok m' (file_table m' s)
          tables = ap (table_ok m) same_file_table ∙ same_ok m m' like (file_table m' s)

  -- ---- the file of a table with the same pieces

  module _ (t t' : List ℤ) (same : (l q : ℕ) → l < L# m → q < pieces m l → piece_of m t l q ≡ piece_of m' t' l q) where
    same_piece_field : (l q : ℕ) → l < L# m → (g : Face) → piece_field m l q g ≡ piece_field m' l q g
    unfolding place_words piece_index
    same_piece_field l q u absent = refl
    same_piece_field l q u (present b) = λ i.
        let place : List ℤ = pos l ∷ pos (same_face m m' like l u q i) ∷ cond (same_any_cut m m' like i) (pos (q % same_per_face m m' like l u i) ∷ []) [] in
        field 5 (words_bytes (place ++ box_by (like.same_n i) (low b) (high b)))

    same_present : present_pieces m t ≡ present_pieces m' t'
    unfolding present_pieces
    same_present =
        sum_ext (L# m) (λ l. sum_below (pieces m l) (λ q. presence (piece_of m t l q))) (λ l. sum_below (pieces m' l) (λ q. presence (piece_of m' t' l q)))
        (λ l u. sum_ext (pieces m l) (λ q. presence (piece_of m t l q)) (λ q. presence (piece_of m' t' l q)) (λ q v. ap presence (same l q u v))
        ∙ ap (λ (k : ℕ). sum_below k (λ q. presence (piece_of m' t' l q))) (same_pieces m m' like l u))
        ∙ ap (λ (k : ℕ). sum_below k (λ l. sum_below (pieces m' l) (λ q. presence (piece_of m' t' l q)))) like.same_L

    same_piece_fields : piece_fields m t ≡ piece_fields m' t'
    unfolding piece_fields location_fields
    same_piece_fields =
        same_order m m' like (λ l q. piece_field m l q (piece_of m t l q)) (λ l q. piece_field m' l q (piece_of m' t' l q))
        (λ l q u v. same_piece_field l q u (piece_of m t l q) ∙ ap (piece_field m' l q) (same l q u v))

    pub same_file : table_file m t ≡ table_file m' t'
    unfolding table_file
    same_file = λ i. field 6 (word_bytes (pos (same_present i))) ++ same_piece_fields i
