use Rattle.status_fitting.proofs.WireWords.{bit_found, name_unknown}
use Rattle.status_fitting.proofs.wires.WireTable.wire_bit.Goals as goal

pub returns-in-Some : goal.returns-in-Some
returns-in-Some c = bit_found c.args.self.now c.args.name.now c.args.index c.in-Some.called c.net_under.result c.in-Some.ensures c.net_under.ensures

pub returns-in-None : goal.returns-in-None
returns-in-None c = name_unknown c.args.self.now c.args.name.now c.args.index c.in-None.ensures
