-- The nets and the ports of the test access port, as they are added to a netlist.
-- IEEE Std 1149.1-2001: test access port; that the ports are added last is own.
use Rattle.std.specs.Prelude.{ℕ, ◌<◌, List, ◌++◌}
use Rattle.netlist_model.specs.declared.Dir.TheVariants.{Input, Output}
use Rattle.netlist_model.specs.Lists.{PortView, NetlistView}
use Rattle.netlist_arena.specs.Adds.{CanBePin}
use Rattle.core_sides.specs.stitched_netlist.declared.model.TapPort.{TapPort}

-- own: the lists with these ports behind the others
abbrev pub with_ports : List PortView → NetlistView → NetlistView
with_ports ports N = record N { ports = N.ports ++ ports }

-- own: each net of the port can have a pin, and their numbers rise
pub record CanBePort (N : NetlistView) (port : TapPort) : Type 0 where
  pub tck : CanBePin N Input port.tck
  pub tms : CanBePin N Input port.tms
  pub tdi : CanBePin N Input port.tdi
  pub tdo : CanBePin N Output port.tdo
  pub trst : CanBePin N Input port.trst
  pub tms_next : port.tck.0 < port.tms.0
  pub tdi_next : port.tms.0 < port.tdi.0
  pub tdo_next : port.tdi.0 < port.tdo.0
  pub trst_next : port.tdo.0 < port.trst.0
