-- A cut adds pieces: the ceiling, the words of a table and the number in 39 are at least those of the model without it.
use Rattle.std.specs.Prelude.{Option, None}
use Rattle.std.specs.declared.option.Option.TheVariants as option
use mathlib.Core.Path.{◌≡◌, sym, ap, subst}
use mathlib.Core.Logic.{◌⊎◌, inl, inr, ⊎_elim}
use mathlib.Core.List.{List}
use Prim.Native.Nat.{ℕ, ◌+◌, ◌*◌, ◌<◌, ◌≤◌}
use native.Mathlib.Nat.{mul-le-mul, mul-le-mul_left, mul-le-mul_right}
use native.Mathlib.Omega.{arith}
use borrow.Author.Tests.{eq-eqb}
use lib.Dec.{T, T_not, eqb, eqb→eq}
use lib.IntN.{ℤ}
use Rattle.integers.specs.Counted.{sum_below}
use Rattle.integers.proofs.Tests.{by_test, true_is}
use Rattle.integers.proofs.Counted.{Some, any_some, any_intro, sum_le}
use Rattle.plant.specs.declared.Cut.{Cut}
use Rattle.plant.specs.Model.{n#, L#, invariant, uncut, cut_by, cut_of}
use Rattle.plant.specs.Pieces.{pieces_per_face, per_face, any_cut, pieces}
use Rattle.plant.specs.Tables.{face_size, pieces_before, piece_count, table_size, piece_field_length, longest_table_file, location_ceiling, ceiling_of}
use Rattle.plant.proofs.Pieces.{per_face_most, per_face_least}
use Rattle.finer.specs.Finer.{Finer}
use Rattle.finer.proofs.Divided.{same_n, same_L, same_invariant}

-- what a cut adds to a location's ceiling
ceiling_more : (n : ℕ) (inv : List ℤ) (c : Option Cut) → location_ceiling n inv uncut ≤ location_ceiling n inv c
unfolding location_ceiling
ceiling_more n inv None = omega arith
ceiling_more n inv (option.Some cut) = omega arith

ceiling_kept : (n : ℕ) (inv : List ℤ) (c c' : Option Cut) → (c' ≡ uncut) ⊎ (c ≡ c') → location_ceiling n inv c' ≤ location_ceiling n inv c
ceiling_kept n inv c c' (inl e) = subst (λ (x : Option Cut). location_ceiling n inv x ≤ location_ceiling n inv c) (sym e) (ceiling_more n inv c)
ceiling_kept n inv c c' (inr e) = subst (λ (x : Option Cut). location_ceiling n inv c' ≤ location_ceiling n inv x) (sym e) (omega arith)

module _ (second first : List ℤ) (into : Finer second first) where
  -- a sum over the locations
  sums : (f g : ℕ → ℕ) → ((l : ℕ) → l < L# first → f l ≤ g l) → sum_below (L# first) f ≤ sum_below (L# second) g
  sums f g h = subst (λ (k : ℕ). sum_below (L# first) f ≤ sum_below k g) (sym (same_L second first into)) (sum_le (L# first) f g h)

  more_per_face : (l : ℕ) → l < L# first → per_face first l ≤ per_face second l
  unfolding per_face pieces_per_face
  more_per_face l u = ⊎_elim (λ e. omega (arith, ap pieces_per_face e, per_face_least second l)) (λ e. omega (arith, ap pieces_per_face e)) (into.cuts l u)

  more_pieces : (l : ℕ) → l < L# first → pieces first l ≤ pieces second l
  unfolding pieces
  more_pieces l u = subst (λ (n : ℕ). 2 * n# first * per_face first l ≤ 2 * n * per_face second l) (sym (same_n second first into)) (mul-le-mul_left (2 * n# first) (more_per_face l u))

  more_count : piece_count first ≤ piece_count second
  unfolding piece_count pieces_before
  more_count = sums (pieces first) (pieces second) more_pieces

  pub words_grow : table_size first ≤ table_size second
  unfolding table_size
  words_grow = subst (λ (n : ℕ). table_size first ≤ piece_count second * face_size n) (sym (same_n second first into)) (mul-le-mul_right (face_size (n# first)) more_count)

  pub ceiling_grows : ceiling_of first ≤ ceiling_of second
  unfolding ceiling_of
  ceiling_grows = sums (λ l. location_ceiling (n# first) (invariant first l) (cut_of first l)) (λ l. location_ceiling (n# second) (invariant second l) (cut_of second l))
      (λ l u. rw (same_n second first into, same_invariant second first into l u) (ceiling_kept (n# first) (invariant first l) (cut_of second l) (cut_of first l) (into.cuts l u)))

  -- a location that the first cuts is cut in the second, so its fields are no shorter
  still_two : (l : ℕ) → l < L# first → T (eqb (per_face first l) 2) → T (eqb (per_face second l) 2)
  still_two l u h = true_is (eq-eqb (per_face second l) 2 (omega (arith, eqb→eq (per_face first l) 2 h, more_per_face l u, per_face_most second l)))

  still_cut : T (any_cut first) → T (any_cut second)
  unfolding any_cut
  still_cut h =
      let x : Some _ _ = any_some (L# first) (λ l. eqb (per_face first l) 2) h in
      any_intro (L# second) (λ l. eqb (per_face second l) 2) x.index (subst (λ (k : ℕ). x.index < k) (sym (same_L second first into)) x.is_below) (still_two x.index x.is_below x.holds)

  longer : piece_field_length first ≤ piece_field_length second
  longer = by_test (λ (k : ℕ). k ≤ piece_field_length second) (any_cut first)
      (λ h. by_test (λ (k : ℕ). 15 + 8 * n# first ≤ k) (any_cut second) (λ _. omega (arith, same_n second first into)) (λ u. absurd (T_not (any_cut second) u (still_cut h))))
      (λ _. by_test (λ (k : ℕ). 11 + 8 * n# first ≤ k) (any_cut second) (λ _. omega (arith, same_n second first into)) (λ _. omega (arith, same_n second first into)))

  pub bytes_grow : longest_table_file first ≤ longest_table_file second
  unfolding longest_table_file
  bytes_grow = omega (arith, mul-le-mul more_count longer)
