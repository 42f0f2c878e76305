use Rattle.std.proofs.Common.{refl}
use Rattle.demo_chips.proofs.netlist.demo_module.Goals as goal

pub returns : goal.returns
returns c = rw (c.in_ok-from_bytes.ensures, c.in_ok-ports.ensures, c.in_ok-wires.ensures, c.in_ok-items.ensures) refl
