-- Hidden ports, by which a netlist is joined to cells of which nothing is known but their ports.
-- own.
use Rattle.std.specs.Prelude.{◌≡◌, ℕ, ◌+◌, true, false, length, slice_get, Some}
use Rattle.cell_library.specs.Gates.{is_three_state}
use Rattle.netlist_model.specs.declared.Dir.TheVariants.{Inout}
use Rattle.netlist_model.specs.declared.NetId.{NetId}
use Rattle.netlist_model.specs.Lists.{CellView, NetlistView, PortView}
use Rattle.netlist_model.specs.Settled.{driver_of}
use Rattle.netlist_link.specs.Linked.{LinkedView, is_straight}

-- a hidden port is an input, or an output whose bits no three-state gate drives
pub record IsHiddenBit (N : NetlistView) (port : PortView) (net : NetId) : Type 0 where
  pub side : port.dir ≡ Inout → ⊥
  pub plain : (cell : CellView) → driver_of N.cells net.0 ≡ Some cell → is_three_state cell.kind ≡ false

-- each bit of each hidden port is one. Other ports may stand behind the hidden ones, as the test access port does
abbrev pub AreStraight : LinkedView → Type 0
AreStraight L = (number bit : ℕ) (port : PortView) (net : NetId) → is_straight L number ≡ true → slice_get L.arena.lists.ports number ≡ Some port → slice_get port.nets bit ≡ Some net
    → IsHiddenBit L.arena.lists port net

-- no port stands behind the hidden ones
abbrev pub EndsHidden : LinkedView → Type 0
EndsHidden L = L.straight.first + L.straight.count ≡ length L.arena.lists.ports
