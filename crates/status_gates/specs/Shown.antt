-- Which bit goes to TDO in the place of the bypass bit.
-- IEEE Std 1149.1-2001: design-specific test data registers; the gates are own.
use Rattle.std.specs.Prelude.{◌≡◌, ℕ, List, [], ◌∷◌}
use Rattle.signal_values.specs.Values.{sig_mux}
use Rattle.netlist_model.specs.declared.NetId.{NetId}
use Rattle.netlist_model.specs.declared.Feed.{Feed}
use Rattle.netlist_model.specs.declared.Feed.TheVariants.{Net}
use Rattle.netlist_model.specs.Lists.{NetlistView}
use Rattle.netlist_model.specs.Settled.{IsSettled}
use Rattle.netlist_model.specs.Formed.{IsWellFormed}
use Rattle.netlist_model.specs.Contained.{HasCells}
use Rattle.netlist_model.specs.Runs.{Moment}
use Rattle.gate_parts.specs.Parts.{part_cells}
use Rattle.status_gates.specs.declared.TheConstants.{SHOWN}

-- own: a multiplexer: of what stands behind, the register's bit nearest TDO, and whether it is on
abbrev pub shown_given : NetId → NetId → NetId → List Feed
shown_given behind near on = Net behind ∷ Net near ∷ Net on ∷ []

abbrev pub ShownTells : Type 0
ShownTells = (first number : ℕ) (behind near on : NetId) (N : NetlistView) (m : Moment) → IsWellFormed N → HasCells N (part_cells SHOWN (shown_given behind near on) first number)
    → IsSettled N m.pins m.state m.value → m.value first ≡ sig_mux (m.value on.0) (m.value behind.0) (m.value near.0)
