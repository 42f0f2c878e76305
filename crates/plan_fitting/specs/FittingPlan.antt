-- A plan that some text spells and that fits a netlist.
-- IEEE Std 1149.1-2001: the annex on BSDL (logical port description). The limit on port bits is own.
use Rattle.std.specs.Prelude.{◌≡◌, ℕ, ◌+◌, ◌≤◌, List, length, slice_get, Some, None}
use Rattle.netlist_model.specs.Lists.{PortView, NetlistView}
use Rattle.netlist_model.specs.Formed.{width_of, IsWellFormed}
use Rattle.netlist_arena.specs.Arena.{bit_count}
use Rattle.netlist_unlink.specs.netlist_link.Linked.{LinkedView, own_ports}
use Rattle.netlist_unlink.specs.netlist_link.Hidden.{AreStraight, EndsHidden}
use Rattle.netlist_unlink.specs.netlist_link.WellNamed.{IsWellNamed}
use Rattle.plan_texts.specs.declared.plan.Plan.{Plan}
use Rattle.plan_texts.specs.Canonical.{IsPlan}
use Rattle.plan_fitting.specs.Pins.{PinSeen, AreSeen}
use Rattle.plan_fitting.specs.Fits.{fault_with}

-- each port has a net for each bit
abbrev pub HasWidths : NetlistView → Type 0
HasWidths N = (number : ℕ) (port : PortView) → slice_get N.ports number ≡ Some port → length port.nets ≡ width_of port.range

-- the netlist is well formed and well named, its hidden ports are the last ones and each of their bits is straight;
-- some text spells the plan, its pin lines are of these bits, and no fault stands
pub record IsFitting (L : LinkedView) (p : Plan) (seen : List PinSeen) : Type 0 where
  pub formed : IsWellFormed L.arena.lists
  pub wide : HasWidths L.arena.lists
  pub named : IsWellNamed L.names L.arena.lists
  pub spelled : IsPlan p
  pub are_seen : AreSeen L p.pins seen
  pub faultless : fault_with L p seen ≡ None
  pub straight : AreStraight L
  pub ends : EndsHidden L

-- the bits of the netlist's own ports, the five of the test access port and those of linkage: a device has 4,096 at most
abbrev pub HasRoom : LinkedView → Plan → Type 0
HasRoom L p = bit_count (own_ports L) + (5 + length p.linkage) ≤ 4096
