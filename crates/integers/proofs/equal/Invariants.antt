-- The lists are the same exactly if the words so far agree, which the flag says, and what is left of them is the same.
use mathlib.Core.Path.{◌≡◌}
use mathlib.Core.Bool.{◌&&◌}
use lib.ListN.{length}
use Rattle.std.specs.Iterator.Adapters.{zip_first, zip_second}
use Rattle.std.specs.Slice.Iter.{iter_rest}
use Rattle.integers.specs.Words.{equal}
use Rattle.integers.proofs.equal.Given as goal

abbrev pub invariant-loop-x : goal.invariant-loop-x
invariant-loop-x l =
    let a = iter_rest (zip_first l.x-iterator) in
    let b = iter_rest (zip_second l.x-iterator) in
    (length a ≡ length b) × (equal l.a l.b ≡ l.ok && equal a b)
