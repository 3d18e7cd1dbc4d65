-- After a yes to 14 the numbers of the switch may be read.
use Rattle.model.proofs.Asked.{placed_asked}
use Rattle.model.proofs.switch_questions.Goals as goal

pub single_ok-requires : goal.single_ok-requires
single_ok-requires c = placed_asked c.args.model.now c.args.e c.requires.0 c.requires.1 c.places_ok.ensures c.in_ok-ask.ensures

pub guard_ok-requires : goal.guard_ok-requires
guard_ok-requires c = placed_asked c.args.model.now c.args.e c.requires.0 c.requires.1 c.places_ok.ensures c.in_ok-ask.ensures

pub lands_ok-requires : goal.lands_ok-requires
lands_ok-requires c = placed_asked c.args.model.now c.args.e c.requires.0 c.requires.1 c.places_ok.ensures c.in_ok-ask.ensures
