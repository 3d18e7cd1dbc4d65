-- A model without cuts has no field of tag 8: its file ends with the forbidden boxes.
use Rattle.std.specs.Prelude.{Option, Some, None}
use mathlib.Core.Path.{◌≡◌, refl, sym, ap, ◌∙◌}
use mathlib.Core.Bool.{Bool, true, false, cond}
use mathlib.Core.List.{List, [], ◌++◌, append-nil}
use Prim.Native.Nat.{ℕ, zero, suc, ◌<◌}
use native.Mathlib.Omega.{arith}
use lib.IntN.{ℤ, negsuc, nat_abs}
use Rattle.integers.specs.Words.{eq_z}
use Rattle.integers.specs.Counted.{cat}
use Rattle.plant.specs.declared.Cut.{Cut}
use Rattle.plant.specs.Model.{n#, L#, E#, B#, edition, location_size, switch_size, forbidden_size, location_at, switch_at, forbidden_at, uncut, cut_by, cut_variable, cut_value, cut_from, cut_of}
use Rattle.files.specs.ModelFile.{first_tag, head_field_size, record_field, cut_field, model_file}
use Rattle.files.specs.UncutModelFile.{UncutModelFile}

-- a cut that is none has variable -1
abbrev is_cut : Option Cut → Bool
is_cut None = false
is_cut (Some cut) = true

by_test_none : (t : Bool) (v : ℕ) (x : ℤ) → cond t uncut (cut_by v x) ≡ uncut → t ≡ true
by_test_none true v x e = refl
by_test_none false v x e = sym (ap is_cut e)

no_variable : (v x : ℤ) → cut_from v x ≡ uncut → eq_z v (negsuc 0) ≡ true
unfolding cut_from
no_variable v x e = by_test_none (eq_z v (negsuc 0)) (nat_abs v) x e

-- so it has no field
no_field : (m : List ℤ) (l : ℕ) → cut_of m l ≡ uncut → cut_field l (cut_variable m l) (cut_value m l) ≡ []
unfolding cut_of
no_field m l e = rw (no_variable (cut_variable m l) (cut_value m l) e) refl

no_fields : {A : Type 0} (k : ℕ) (g : ℕ → List A) → ((i : ℕ) → i < k → g i ≡ []) → cat k g ≡ []
unfolding cat
no_fields zero g h = refl
no_fields (suc k) g h = rw (no_fields k g (λ i l. h i (omega arith)), h k (omega arith)) refl

pub uncut_model_file : UncutModelFile
unfolding model_file
uncut_model_file = record {
  uncut = λ m none.
      ap (λ (cuts : List ℕ).
      record_field (first_tag (edition m)) m 0 head_field_size
      ++ (cat (L# m) (λ l. record_field 2 m (location_at m l) (location_size (n# m)))
      ++ (cat (E# m) (λ e. record_field 3 m (switch_at m e) (switch_size (n# m)))
      ++ (cat (B# m) (λ b. record_field 4 m (forbidden_at m b) (forbidden_size (n# m))) ++ cuts))))
      (no_fields (L# m) (λ l. cut_field l (cut_variable m l) (cut_value m l)) (λ l u. no_field m l (none l u)))
      ∙ rw append-nil refl;
}
