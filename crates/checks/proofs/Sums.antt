-- A chain that adds up what a closure gives of every number below k.
use mathlib.Core.Path.{◌≡◌, refl, sym, ap, ◌∙◌}
use mathlib.Core.List.{List, map}
use Prim.Native.Nat.{ℕ, zero, suc, ◌+◌, ◌<◌}
use native.Mathlib.Numerals.{add-one}
use native.Mathlib.Omega.{arith}
use denote.Param.Members.{Mut}
use Rattle.std.specs.Fn.{Called}
use Rattle.std.specs.Iterator.{Drains}
use Rattle.std.specs.Iterator.Adapters.{map_source, map_callee}
use Rattle.std.specs.Iterator.Runs.{EachRunFrom}
use Rattle.std.specs.List.{fold, range_with_len, sum}
use Rattle.std.specs.declared.iter.Map.{Map}
use Rattle.std.specs.declared.ops.Range.{Range}
use Rattle.std.proofs.iter.Yields.{nat_range_steps}
use Rattle.std.proofs.lemmas.Grind.{common_steps}
use Rattle.std.proofs.lemmas.Iterator.{YieldsList, maps, YieldsList-from_map, YieldsList-from_range}
use Rattle.std.proofs.lemmas.Iterator.Consumers.{sum_from_yields_List, fits_from_yields_list}
use Rattle.std.proofs.lemmas.List.FromFn.{map-range_with_len_more}
use Rattle.integers.specs.Counted.{sum_below}

sum_is : (f : ℕ → ℕ) (k : ℕ) → sum (map f (range_with_len 0 k)) ≡ sum_below k f
unfolding sum_below
sum_is f zero = refl
sum_is f (suc k) =
    ap (λ n. sum (map f (range_with_len 0 n))) (sym (add-one k))
    ∙ ap sum (map-range_with_len_more f 0 k k (omega arith))
    ∙ grind (arith, common_steps, sum_is f k)

module _ {F : Type 0} (g : Mut F (ℕ × Unit {0}) ℕ) {s : Map (Range ℕ) F} {h : F} (f : ℕ → ℕ) (k : ℕ) (source : map_source s ≡ record { start = 0; end = k }) (closure : map_callee s ≡ h) (gives : (x r : ℕ) (q : F) → Called g h (x, tt) r q → (q ≡ h) × (r ≡ f x)) where
  chain : YieldsList (maps nat_range_steps g) (λ r. r) s (map f (range_with_len 0 k))
  chain = YieldsList-from_map g f (YieldsList-from_range 0 k k source (omega arith)) closure gives

  pub sum_fits : (top : ℕ) → sum_below k f < top → EachRunFrom (maps nat_range_steps g) s (λ p. fold (λ a x. a + x) 0 p.items < top)
  sum_fits top u = fits_from_yields_list s top chain (omega (arith, sum_is f k))

  pub sum_gives : (r : ℕ) → ((xs : List ℕ) × (Unit {0} → Drains (maps nat_range_steps g) s xs) × (r ≡ fold (λ a x. a + x) 0 xs)) → r ≡ sum_below k f
  sum_gives r ran = sum_from_yields_List s r ran chain ∙ sum_is f k
