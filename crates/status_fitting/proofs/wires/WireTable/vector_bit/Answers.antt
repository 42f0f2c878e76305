use Rattle.status_fitting.proofs.WireWords.{vector_found, no_vector}
use Rattle.status_fitting.proofs.wires.WireTable.vector_bit.Goals as goal

pub returns-in-Some : goal.returns-in-Some
returns-in-Some c =
    vector_found c.args.self.now c.args.word.now c.in-Some.indexed.name.now c.in-Some.indexed.index c.wire_bit.result c.in-Some.ensures c.wire_bit.ensures

pub returns-in-None : goal.returns-in-None
returns-in-None c = no_vector c.args.self.now c.args.word.now c.in-None.ensures
