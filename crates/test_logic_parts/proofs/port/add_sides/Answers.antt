use Rattle.test_logic_parts.proofs.PortsAdded.{room_same, sides_none, sides_more, room_less}
use Rattle.test_logic_parts.proofs.port.add_sides.Goals as goal

pub loop-init : goal.loop-init
loop-init c = record { lists = sides_none c.args.netlist.now.lists; spare = room_same c.args.netlist.now.spare }

pub loop-preserved : goal.loop-preserved
loop-preserved c =
    let number = c.net_count.ensures in
    let lists = rw number at c.add_net-net.ensures.lists in
    record {
      lists = sides_more c.args.netlist.now.lists c.loop.netlist.lists c.add_net-net.new.self.lists c.loop.counter c.loop.invariant.lists lists;
      spare = room_less c.args.netlist.now.spare c.loop.netlist.spare c.add_net-net.new.self.spare c.loop.counter c.loop.invariant.spare c.add_net-net.ensures.spare;
    }
