use Rattle.status_fitting.proofs.WireWords.{driven_if, unnamed_found}
use Rattle.status_fitting.proofs.wires.WireTable.driven_named.Goals as goal

pub returns-in-Some : goal.returns-in-Some
returns-in-Some c = driven_if c.args.self.now c.args.word.now c.in-Some.net c.is_driven.result c.then_some.result c.is_well_named.ensures c.is_driven.ensures c.in-Some.ensures c.then_some.ensures

pub returns-in-None : goal.returns-in-None
returns-in-None c = unnamed_found c.args.self.now c.args.word.now c.in-None.ensures
