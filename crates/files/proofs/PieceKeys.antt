-- The pieces of a table by key, which is how many pieces stand before: the location and the piece of a key, and the words of a
-- table one piece after the other.
use mathlib.Core.Path.{◌≡◌, sym, ap, ap₂, ◌∙◌}
use mathlib.Core.List.{List}
use Prim.Native.Nat.{ℕ, ◌+◌, ◌*◌, ◌-◌, ◌<◌}
use native.Mathlib.Omega.{arith}
use lib.IntN.{ℤ}
use lib.ListN.{take, drop}
use Rattle.integers.specs.Counted.{cat}
use Rattle.integers.proofs.Buffers.{cat_ext, cat_parts}
use Rattle.integers.proofs.Rows.{row_of, row_is, InRow, in_row, cat_rows}
use Rattle.plant.specs.Box.{Face, face_words}
use Rattle.plant.specs.Model.{n#, L#}
use Rattle.plant.specs.Pieces.{pieces}
use Rattle.plant.specs.Tables.{face_size, pieces_before, piece_count, table_size, piece_at, table_by, piece_of}
use Rattle.plant.proofs.Tables.{words_of}

module _ (m : List ℤ) where
  -- the location of a key, and which piece of the location it is
  unfoldable pub location_of : ℕ → ℕ
  location_of q = row_of (pieces m) (L# m) q

  unfoldable pub piece_in : ℕ → ℕ
  piece_in q = q - pieces_before m (location_of q)

  module _ (l q : ℕ) (u : l < L# m) (v : q < pieces m l) where
    pub key_location : location_of (pieces_before m l + q) ≡ l
    unfolding location_of pieces_before
    key_location = row_is (pieces m) (L# m) l q u v

    pub key_piece : piece_in (pieces_before m l + q) ≡ q
    unfolding piece_in
    key_piece = rw key_location (omega arith)

  module _ (q : ℕ) (below : q < piece_count m) where
    its_row : InRow (pieces m) (L# m) q (location_of q)
    unfolding location_of piece_count pieces_before
    its_row = in_row (pieces m) (L# m) q below

    pub key_again : pieces_before m (location_of q) + piece_in q ≡ q
    unfolding piece_in pieces_before
    key_again = omega (arith, its_row.begins)

    pub key_below : (location_of q < L# m) × (piece_in q < pieces m (location_of q))
    unfolding piece_in pieces_before
    key_below = (its_row.row, omega (arith, its_row.begins, its_row.ends))

    pub key_at : piece_at m (location_of q) (piece_in q) ≡ q * face_size (n# m)
    unfolding piece_at
    key_at = ap (λ (k : ℕ). k * face_size (n# m)) key_again

  -- the piece of a key
  abbrev pub at_key : {A : Type 0} → (ℕ → ℕ → A) → ℕ → A
  at_key g q = g (location_of q) (piece_in q)

  pub at_key_lem : {A : Type 0} (g : ℕ → ℕ → A) (l q : ℕ) → l < L# m → q < pieces m l → at_key g (pieces_before m l + q) ≡ g l q
  at_key_lem g l q u v = ap₂ g (key_location l q u v) (key_piece l q u v)

  pub table_keys : (g : ℕ → ℕ → Face) → table_by m g ≡ cat (piece_count m) (λ k. face_words (n# m) (at_key g k))
  unfolding table_by piece_count pieces_before
  table_keys g = cat_rows (L# m) (pieces m) (λ l q. face_words (n# m) (g l q)) _ (λ l q u v. ap (face_words (n# m)) (sym (at_key_lem g l q u v)))

  -- a table whose words are those of its pieces is the table of them
  pub table_again : (t : List ℤ) → ((l q : ℕ) → l < L# m → q < pieces m l → words_of m t l q ≡ face_words (n# m) (piece_of m t l q)) → take (table_size m) t ≡ table_by m (piece_of m t)
  unfolding table_size
  table_again t words =
      sym (cat_parts t 0 (face_size (n# m)) (piece_count m))
      ∙ cat_ext (piece_count m) _ _ each
      ∙ sym (table_keys (piece_of m t))
    where
      each : (k : ℕ) → k < piece_count m → take (face_size (n# m)) (drop (0 + k * face_size (n# m)) t) ≡ face_words (n# m) (at_key (piece_of m t) k)
      each k u =
          let b : (location_of k < L# m) × (piece_in k < pieces m (location_of k)) = key_below k u in
          let z : 0 + k * face_size (n# m) ≡ piece_at m (location_of k) (piece_in k) = omega (arith, key_at k u) in
          ap (λ (j : ℕ). take (face_size (n# m)) (drop j t)) z ∙ words (location_of k) (piece_in k) b.0 b.1
