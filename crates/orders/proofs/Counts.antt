-- The counters are sums, of what each call moves them by.
use mathlib.Core.Path.{◌≡◌}
use mathlib.Core.List.{List, [], ◌∷◌}
use Prim.Native.Nat.{◌+◌}
use native.Mathlib.Omega.{arith}
use Rattle.orders.specs.declared.Desk.{Desk}
use Rattle.orders.specs.Desks.{fresh_desk, DeskAnswers, Call, serve, desk_after, replies, answers_of, passes_of, DeskCounts}
use Rattle.orders.proofs.Answers.{desk_answers, still_holds}

-- from any desk
counts_from : (d : Desk) (cs : List Call) → ((desk_after d cs).passes ≡ d.passes + passes_of (replies d cs)) × ((desk_after d cs).jobs ≡ d.jobs + answers_of (replies d cs))
unfolding desk_after replies answers_of passes_of
counts_from d [] = (omega arith, omega arith)
counts_from d (c ∷ cs) =
    let a : DeskAnswers d c.model c.limit c.table c.work = desk_answers d c.model c.limit c.table c.work in
    let b = counts_from (serve d c).desk cs in
    (omega (arith, a.passes_moved, b.0), omega (arith, a.jobs_moved, b.1))

-- for every list of desk calls from a fresh desk
pub desk_counts : (cs : List Call) → DeskCounts cs
desk_counts cs = let a = counts_from fresh_desk cs in record { passes_sum = omega (arith, a.0); jobs_number = omega (arith, a.1); holds = still_holds fresh_desk cs (record { jobs_most = omega arith; passes_most = omega arith }) }
