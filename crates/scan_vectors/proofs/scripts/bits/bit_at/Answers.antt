use Rattle.scan_vectors.proofs.Named.{bit_alone, bit_direction}
use Rattle.scan_vectors.proofs.scripts.bits.bit_at.Goals as goal

pub returns-clause-same : goal.returns-clause-same
returns-clause-same c = λ word named only.
    let N = c.args.linked.now.arena.lists in
    let net_is = rw c.netlist-netlist.ensures.netlist at c.pin_net-net.ensures.value in
    let side_is = rw c.netlist-netlist.ensures.netlist at c.port_dir.ensures in
    let formed = c.netlist-netlist.ensures.linked.formed in
    record {
      named = named;
      only = only;
      alone = λ other there. bit_alone N c.args.pin other c.pin_net-net.result formed net_is there;
      net_is = net_is;
      below = rw c.netlist-netlist.ensures.netlist at c.pin_net-net.ensures.below;
      side_is = side_is;
      direction_is = bit_direction N c.args.pin c.pin_net-net.result c.port_dir.result c.direction_of_a_bit.ensures formed net_is side_is;
      control = c.is_control.ensures;
    }
