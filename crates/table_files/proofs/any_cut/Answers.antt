-- The locations in turn, the first one first.
use mathlib.Core.Path.{refl, ◌∙◌}
use native.Mathlib.Omega.{arith}
use lib.Dec.{eqb}
use Rattle.std.proofs.Common.{rules, tests}
use Rattle.std.proofs.lemmas.Iterator.{YieldsList-from_range}
use Rattle.std.proofs.lemmas.Iterator.Search.{any_from_yields_List}
use Rattle.plant.specs.Model.{L#}
use Rattle.plant.specs.Pieces.{any_cut, per_face}
use Rattle.table_files.proofs.Cuts.{any_listed}
use Rattle.table_files.proofs.any_cut.Goals as goal

pub returns : goal.returns
unfolding any_cut
returns c =
    let m = c.args.model.now in
    any_from_yields_List (λ l. eqb (per_face m l) 2) _ _ c.any.result c.any.ensures.ran (YieldsList-from_range 0 c.locations.result (L# m) refl (omega (arith, c.locations.ensures))) (λ l b q k. search (rules, tests)) ∙ any_listed _ _
