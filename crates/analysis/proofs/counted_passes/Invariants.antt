-- Before each turn the table is table k, and the answer is the one that the search gives from there on (`Going`).
use Prim.Native.Nat.{◌-◌}
use Rattle.analysis.proofs.Counting.{Going}
use Rattle.analysis.proofs.counted_passes.Given as goal

abbrev pub invariant-loop-links : goal.invariant-loop-links
invariant-loop-links l = Going l.model l.limit l.table l.work l.k

abbrev pub decreases-loop-links : goal.decreases-loop-links
decreases-loop-links l = l.limit - l.k
