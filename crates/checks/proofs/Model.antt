-- What is known of a model that passes its questions, for the functions that read it.
use mathlib.Core.Path.{◌≡◌, subst}
use mathlib.Core.List.{List}
use Prim.Native.Nat.{ℕ, ◌≤◌, ◌<◌}
use native.Mathlib.Omega.{arith}
use lib.IntN.{ℤ}
use lib.Dec.{T}
use lib.Signed.{non_neg}
use Rattle.std.specs.Prelude.{Some}
use Rattle.integers.specs.Words.{word}
use Rattle.delays.specs.Ranges.{LevelAt}
use Rattle.plant.specs.declared.Cut.{Cut}
use Rattle.plant.specs.Model.{n#, L#, B#, invariant, forbidden_at, forbidden_location, cut_of}
use Rattle.plant.specs.Pieces.{pieces}
use Rattle.plant.specs.Questions.{model_questions}
use Rattle.plant.specs.Tables.{pieces_before, all_widths}
use Rattle.plant.proofs.Passed.{CutInside, passed}
use Rattle.plant.proofs.Passing.{whole, head_ready}
use Rattle.plant.proofs.Tables.{pieces-most}
use Rattle.tables.proofs.Sizes.{before_most}
use Rattle.passes.proofs.PartWords.{invariant_in}
use Rattle.checks.proofs.Widths.{widths_small}

module _ (m : List ℤ) (ok : model_questions m ≡ 0) where
  pub n_most : n# m ≤ 6
  n_most = (passed m ok).n_small

  pub n_least : 1 ≤ n# m
  n_least = (passed m ok).n_positive

  pub L_most : L# m ≤ 64
  L_most = (passed m ok).L_small

  pub B_most : B# m ≤ 64
  B_most = (passed m ok).B_small

  pub pieces_few : (l : ℕ) → pieces m l ≤ 24
  pieces_few l = pieces-most m l n_most

  pub before_few : (l : ℕ) → l ≤ L# m → pieces_before m l ≤ 1536
  before_few l u = before_most m (head_ready m ok) l u

  module _ (b : ℕ) (u : b < B# m) where
    pub location_there : forbidden_location m b < L# m
    location_there = ((passed m ok).of_forbidden b u).location_is

    pub not_negative : T (non_neg (word m (forbidden_at m b)))
    not_negative = ((passed m ok).of_forbidden b u).not_negative

  module _ (l : ℕ) (u : l < L# m) where
    pub level_at : (i : ℕ) → i < n# m → LevelAt (invariant m l) i
    level_at i v = invariant_in m (passed m ok) l u i v

    pub widths_most : all_widths (n# m) (invariant m l) ≤ 12000000
    widths_most = omega (arith, widths_small (invariant m l) (n# m) level_at, n_most)

    pub cut_below : (cut : Cut) → cut_of m l ≡ Some cut → cut.variable < n# m
    cut_below cut e = (subst (CutInside (n# m) (invariant m l)) e ((passed m ok).of_cut l u).inside).0

pub ruleset of_model = (whole, head_ready, n_most, n_least, L_most, B_most, pieces_few, before_few, location_there, not_negative, level_at, widths_most)
