-- What code asks of a model's words before it reads a record: that the head's numbers are allowed, that all records are
-- there, and that the numbers of a switch are not negative. A model that passes its questions has all three.
use mathlib.Core.List.{List}
use Prim.Native.Nat.{ℕ, ◌+◌, ◌<◌, ◌≤◌}
use lib.Dec.{T}
use lib.IntN.{ℤ}
use lib.Signed.{non_neg}
use lib.ListN.{length}
use Rattle.integers.specs.Words.{word}
use Rattle.plant.specs.Model.{n#, L#, E#, B#, head_size, switch_at, source, target, wall_variable, source_side, target_side, model_size}

-- the head is there, and n, L, E and B are allowed (of the edition nothing is asked)
pub record Head (m : List ℤ) : Type 0 where
  pub there : head_size ≤ length m
  pub not_negative : (j : ℕ) → j < 4 → T (non_neg (word m j))
  pub n_positive : 1 ≤ n# m
  pub n_small : n# m ≤ 6
  pub L_positive : 1 ≤ L# m
  pub L_small : L# m ≤ 64
  pub E_small : E# m ≤ 128
  pub B_small : B# m ≤ 64

-- and so are all records
pub record Whole (m : List ℤ) : Type 0 where
  pub head : Head m
  pub long : model_size m ≤ length m

-- and the six numbers of switch e are not negative
pub record Numbered (m : List ℤ) (e : ℕ) : Type 0 where
  pub whole : Whole m
  pub below : e < E# m
  pub not_negative : (j : ℕ) → j < 6 → T (non_neg (word m (switch_at m e + j)))

-- and name a location at either end, a variable and sides
pub record Placed (m : List ℤ) (e : ℕ) : Type 0 where
  pub numbered : Numbered m e
  pub source_is : source m e < L# m
  pub target_is : target m e < L# m
  pub variable_is : wall_variable m e < n# m
  pub source_side_is : source_side m e ≤ 1
  pub target_side_is : target_side m e ≤ 1
