-- A model with 2n pieces for each location has no cut.
use Rattle.std.proofs.Common.{ℕ, ◌*◌, ◌≤◌, sym, ◌∙◌, arith}
use mathlib.Core.Path.{ap₂}
use native.Mathlib.Nat.{mul-le-mul}
use Rattle.passes.proofs.Reading.{no_cut, before_is}
use Rattle.passes.proofs.given.Given.switches.Goals as goal

pub overflow_mul-variables-2 : goal.overflow_mul-variables-2
overflow_mul-variables-2 c =
    let h = c.args.self.now.whole.head in
    let few : 2 * c.variables.result ≤ 12 = omega (arith, h.n_small) in
    let most : c.locations-locations.result ≤ 64 = omega (arith, h.L_small) in
    omega (arith, mul-le-mul few most)

pub switches_uncut-requires : goal.switches_uncut-requires
switches_uncut-requires c =
    let g = c.args.self.now in
    let all_are = sym (before_is g c.locations-locations.ensures (omega arith)) ∙ c.if-self-locations.true ∙ ap₂ (λ (n l : ℕ). 2 * n * l) c.variables.ensures c.locations-locations.ensures in
    (c.requires, no_cut g.model.now g.whole.head.n_positive all_are)
