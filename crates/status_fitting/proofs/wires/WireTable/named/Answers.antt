use Rattle.status_fitting.proofs.WireWords.{scalar_names, vector_names}
use Rattle.status_fitting.proofs.wires.WireTable.named.Goals as goal

pub returns-in-Some : goal.returns-in-Some
returns-in-Some c = scalar_names c.args.self.now c.args.word.now c.in-Some.net c.in-Some.ensures

pub returns-in-None : goal.returns-in-None
returns-in-None c = vector_names c.args.self.now c.args.word.now c.vector_bit.result c.in-None.ensures c.vector_bit.ensures
