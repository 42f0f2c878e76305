use Rattle.std.proofs.Common.{arith, refl}
use Rattle.netlist_arena.proofs.NetDrivers.{empty_drivers, empty_threaded}
use Rattle.netlist_arena.proofs.Netlist.new.Goals as goal

pub invariant_of-result : goal.invariant_of-result
invariant_of-result c =
    let ports = c.new.ensures.items in
    let nets = c.new-2.ensures.items in
    let cells = c.new-3.ensures.items in
    record {
      port_room = (omega arith, omega arith);
      pin_room = omega arith;
      pins_are = rw ports refl;
      ports_below = rw ports (λ k d low. absurd (omega arith));
      counts = rw cells (λ k d low. absurd (omega arith));
      cells_below = rw (cells, nets) (λ k d low. absurd (omega arith));
      nets_there = rw nets (λ k low. absurd (omega arith));
      threaded = rw (cells, nets) empty_threaded;
      net_room = omega arith;
      cell_room = omega arith;
      drivers = rw (nets, cells) empty_drivers;
    }
