-- How long a model's file is: its records, then the fields of its cuts.
use mathlib.Core.Path.{◌≡◌, refl, sym, ap, ◌∙◌}
use mathlib.Core.Bool.{Bool, true, false, cond}
use mathlib.Core.List.{List, [], ◌∷◌, ◌++◌, append_assoc}
use Prim.Native.Nat.{ℕ, zero, suc, ◌+◌, ◌*◌, ◌≤◌}
use native.Mathlib.Omega.{arith}
use lib.IntN.{ℤ, pos, negsuc}
use lib.ListN.{length, length-append}
use Rattle.integers.specs.Words.{eq_z}
use Rattle.integers.specs.Counted.{cat}
use Rattle.plant.specs.Model.{L#, cut_variable, cut_value}
use Rattle.plant.proofs.Whole.{Whole}
use Rattle.files.specs.Bytes.{words_bytes}
use Rattle.files.specs.Fields.{field_length, field}
use Rattle.files.specs.ModelFile.{cut_field_size, cut_field, model_file, cuts_from}
use Rattle.files.specs.UncutModelFile.{records_file}
use Rattle.files.proofs.Words.{length_bytes}
use Rattle.files.proofs.Fields.{length-field}
use Rattle.files.proofs.ModelRoundTrip.{head_field, locations, switches, forbiddens, cuts, before_cuts, around_cuts}

-- the field of location l's cut, if it is cut; the fields of all cuts
abbrev pub cut_field_of : (m : List ℤ) (l : ℕ) → List ℕ
cut_field_of m l = cut_field l (cut_variable m l) (cut_value m l)

unfoldable pub cut_fields : List ℤ → List ℕ
cut_fields m = cat (L# m) (cut_field_of m)

length_by : (cut : Bool) (l : ℕ) (v x : ℤ) → length (cond cut [] (field 8 (words_bytes (pos l ∷ v ∷ x ∷ [])))) ≡ cond cut 0 (field_length cut_field_size)
length_by true l v x = refl
length_by false l v x = omega (arith, length-field 8 (words_bytes (pos l ∷ v ∷ x ∷ [])), length_bytes (pos l ∷ v ∷ x ∷ []))

pub cut_le : (cut : Bool) → cond cut 0 (field_length cut_field_size) ≤ field_length cut_field_size
cut_le true = omega arith
cut_le false = omega arith

module _ (m : List ℤ) where
  pub length-cut-field : (l : ℕ) → length (cut_field_of m l) ≡ cond (eq_z (cut_variable m l) (negsuc 0)) 0 (field_length cut_field_size)
  length-cut-field l = length_by (eq_z (cut_variable m l) (negsuc 0)) l (cut_variable m l) (cut_value m l)

  pub cuts_le : (l : ℕ) → length (cat l (cut_field_of m)) ≤ l * field_length cut_field_size
  unfolding cat
  cuts_le zero = omega arith
  cuts_le (suc l) = omega (arith, length-append (cat l (cut_field_of m)) (cut_field_of m l), cuts_le l, length-cut-field l, cut_le (eq_z (cut_variable m l) (negsuc 0)))

-- ---- the whole file

module _ (m : List ℤ) (w : Whole m) where
  -- the fields of the records, in turn, and then those of the cuts
  pub records_in_turn : ((head_field m ++ locations m) ++ switches m) ++ forbiddens m ≡ records_file m
  records_in_turn = append_assoc (head_field m ++ locations m) (switches m) (forbiddens m) ∙ append_assoc (head_field m) (locations m) (switches m ++ forbiddens m)

  pub records_length : length (records_file m) ≡ cuts_from m
  records_length = ap length (sym records_in_turn) ∙ before_cuts m w

  pub file_is : model_file m ≡ records_file m ++ cut_fields m
  unfolding model_file cut_fields
  file_is = around_cuts m w ∙ ap (λ (s : List ℕ). s ++ cuts m) records_in_turn

  pub length_of_file : length (model_file m) ≡ cuts_from m + length (cut_fields m)
  length_of_file = ap length file_is ∙ length-append (records_file m) (cut_fields m) ∙ ap (λ (k : ℕ). k + length (cut_fields m)) records_length

  pub cuts_most : length (cut_fields m) ≤ 960
  unfolding cut_fields
  cuts_most = omega (arith, cuts_le m (L# m), w.head.L_small)
