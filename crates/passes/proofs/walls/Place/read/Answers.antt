-- What is known of a location of a model that passed its questions.
use Rattle.plant.specs.Model.{n#, invariant, cut_of}
use Rattle.plant.proofs.Passed.{Passed, passed}
use Rattle.passes.proofs.PartWords.{invariant_in, rate_in}
use Rattle.passes.proofs.Reading.{below_of}
use Rattle.plant.proofs.Passing.{whole}
use Rattle.passes.proofs.walls.Place.read.Goals as goal

pub variables-n-requires : goal.variables-n-requires
variables-n-requires c = (whole c.args.model.now c.requires.0).head

pub invariant-invariant-requires : goal.invariant-invariant-requires
invariant-invariant-requires c = (whole c.args.model.now c.requires.0, c.requires.1)

pub rate-rate-requires : goal.rate-rate-requires
rate-rate-requires c = (whole c.args.model.now c.requires.0, c.requires.1)

pub invariant_of-result : goal.invariant_of-result
invariant_of-result c =
    let m = c.args.model.now in
    let ok : Passed m = passed m c.requires.0 in
    rw (c.variables-n.ensures, c.invariant-invariant.ensures, c.rate-rate.ensures, c.cut-cut.ensures) (record {
      n_small = ok.n_small;
      levels = invariant_in m ok c.args.l c.requires.1;
      rates = rate_in m ok c.args.l c.requires.1;
      rate_ordered = (ok.of_location c.args.l c.requires.1).rate_ordered;
      cut_below = below_of (n# m) (invariant m c.args.l) (cut_of m c.args.l) (ok.of_cut c.args.l c.requires.1).inside;
    })
