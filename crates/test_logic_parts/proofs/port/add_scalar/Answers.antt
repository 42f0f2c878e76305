use Rattle.test_logic_parts.proofs.PortsAdded.{pin_stays}
use Rattle.test_logic_parts.proofs.port.add_scalar.Goals as goal

pub returns-clause-others : goal.returns-clause-others
returns-clause-others c = λ side other differ can.
    pin_stays c.args.name c.args.dir c.args.net c.args.netlist.now.lists c.add_port_bit-port.new.self.lists c.add_port_bit-port.ensures.lists side other differ can
