-- The net that stands in the stitched netlist for a net of the core.
-- Own.
use Rattle.std.specs.Prelude.{ℕ, suc, ◌+◌, ◌||◌, Bool, List, [], ◌∷◌, Option, Some, None, is_some, if◌then◌else◌}
use Rattle.netlist_model.specs.declared.NetId.{NetId}
use Rattle.netlist_model.specs.Lists.{PortView, CellView, NetlistView, direction}
use Rattle.netlist_model.specs.Settled.{follows_pin, driver_of}
use Rattle.stitched_netlist.specs.Sites.{Boundary}
use Rattle.stitched_netlist.specs.Sides.{core_side}

-- a number above that of a net
abbrev pub past_output : Option NetId → ℕ
past_output None = 0
past_output (Some net) = suc net.0

-- above those of all nets that these cells drive
abbrev pub past_cells : List (Option CellView) → ℕ
past_cells [] = 0
past_cells (None ∷ places) = past_cells places
past_cells (Some cell ∷ places) = past_output cell.output + past_cells places

-- above those of all nets of these ports
abbrev pub past_bits : List NetId → ℕ
past_bits [] = 0
past_bits (net ∷ nets) = suc net.0 + past_bits nets

abbrev pub past_ports : List PortView → ℕ
past_ports [] = 0
past_ports (port ∷ ports) = past_bits port.nets + past_ports ports

abbrev pub past_nets : NetlistView → ℕ
past_nets M = past_cells M.cells + past_ports M.ports

-- a pin gives the net its value, or a cell does
abbrev pub is_given : NetlistView → ℕ → Bool
is_given N net = follows_pin (direction N.ports net) || is_some (driver_of N.cells net)

-- a net to which something gives a value is on the core's side of its cell; another, which no cell reads,
-- is past all nets
abbrev pub inner_net : NetlistView → NetlistView → Boundary → ℕ → ℕ
inner_net N M B net = if is_given N net then core_side B net else past_nets M + net
