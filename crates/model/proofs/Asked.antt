-- What code may read once a question was answered yes.
use mathlib.Core.Path.{◌≡◌, sym}
use mathlib.Core.Bool.{Bool, true}
use mathlib.Core.List.{List}
use Prim.Native.Nat.{ℕ, ◌-◌, ◌<◌}
use native.Mathlib.Omega.{arith}
use lib.Dec.{leb, leb→le}
use lib.IntN.{ℤ, nat_abs}
use lib.ListN.{length}
use Rattle.integers.specs.Words.{word}
use Rattle.integers.proofs.Counted.{within_abs}
use Rattle.plant.specs.Ask.{ask}
use Rattle.plant.specs.Model.{n#, E#, head_size, model_size, cut_at, cut_variable}
use Rattle.plant.specs.Questions.{below_ok, places_ok, ranges_questions}
use Rattle.plant.proofs.Asks.{ask_yes}
use Rattle.plant.proofs.Whole.{Head, Whole, Placed}
use Rattle.plant.proofs.Passing.{head_passed, placed}

-- 5, 2 to 4: the head
pub head_asked : (m : List ℤ) → 0 ≡ ask (leb head_size (length m)) 5 → 0 ≡ ranges_questions m → Head m
head_asked m h q = head_passed m (leb→le head_size (length m) (ask_yes (leb head_size (length m)) 5 (omega arith) (sym h))) (sym q)

-- 5 again: the records
pub whole_asked : (m : List ℤ) → Head m → 0 ≡ ask (leb (model_size m) (length m)) 5 → Whole m
whole_asked m h l = record { head = h; long = leb→le (model_size m) (length m) (ask_yes (leb (model_size m) (length m)) 5 (omega arith) (sym l)) }

-- 14: the numbers of a switch
pub placed_asked : (m : List ℤ) (e : ℕ) {t : Bool} → Whole m → e < E# m → t ≡ places_ok m e → 0 ≡ ask t 14 → Placed m e
placed_asked m e {t} w l p h = placed m e w l (rw (← p) (ask_yes t 14 (omega arith) (sym h)))

-- 46: the variable of a cut
pub variable_asked : (m : List ℤ) (l : ℕ) → Head m → true ≡ below_ok m (cut_at m l) (n# m) → nat_abs (cut_variable m l) < n# m
unfolding cut_variable
variable_asked m l h t = omega (arith, h.n_positive, within_abs (word m (cut_at m l)) (n# m - 1) (rw (← t) tt))
