-- The netlist with the test logic and data registers of a design's own built in.
-- IEEE Std 1149.1-2001: test logic architecture, design-specific test data registers; the order is own.
use Rattle.std.specs.Prelude.{ℕ, ◌+◌, List, ◌∷◌, ◌++◌, map, Some}
use Rattle.netlist_model.specs.declared.NetId.{NetId}
use Rattle.netlist_model.specs.declared.Feed.TheVariants.{Net}
use Rattle.netlist_model.specs.Lists.{CellView, NetlistView}
use Rattle.gate_parts.specs.Parts.{added_nets}
use Rattle.plan_fitting.specs.declared.fitted.Fitted.{Fitted}
use Rattle.stitched_netlist.specs.declared.model.TapNames.{TapNames}
use Rattle.stitched_netlist.specs.Stitched.{stitched_cells_by, stitched}
use Rattle.open_stitch.specs.declared.Parts.{Parts}
use Rattle.open_stitch.specs.Open.{through_number, through_net, through_cell, stitched_open, parts_at}
use Rattle.status_fitting.specs.declared.fitted.FittedRegister.{FittedRegister}
use Rattle.status_gates.specs.Opcodes.{inverses_cells}
use Rattle.status_gates.specs.declared.parts.SharedNets.{SharedNets}
use Rattle.status_gates.specs.Registers.{registers_size, shown_of, registers_cells}

-- own: the first net and the number of the first cell of the registers: behind the buffer's
abbrev pub status_first : NetlistView → Fitted → ℕ
status_first N f = (through_net N f).0 + 1

abbrev pub status_number : NetlistView → Fitted → ℕ
status_number N f = through_number N f + 1

-- own: how many nets and cells they take: an inverse for each bit of an opcode, and the registers
abbrev pub status_size : Fitted → List FittedRegister → ℕ
status_size f rs = f.codes.length + registers_size rs

-- own: what all registers stand on, where the inverses' nets begin at `first`
abbrev pub shared_by : Parts → ℕ → SharedNets
shared_by parts first = record { tap = parts.tap; tdi = parts.tdi; opcode = parts.instr.opcode; inverses = record { 0 = first } }

abbrev pub shared_at : NetlistView → Fitted → SharedNets
shared_at N f = shared_by (parts_at N f) (status_first N f)

-- own: their cells
abbrev pub status_cells : NetlistView → Fitted → List FittedRegister → List CellView
status_cells N f rs = inverses_cells (status_first N f) (status_number N f) (shared_at N f).opcode.0 f.codes.length
    ++ registers_cells (status_first N f + f.codes.length) (status_number N f + f.codes.length) (shared_at N f) (parts_at N f).bypass rs

-- own: the net of the bit that goes to TDO in the place of the bypass bit
abbrev pub status_shown : NetlistView → Fitted → List FittedRegister → NetId
status_shown N f rs = shown_of (status_first N f + f.codes.length) (parts_at N f).bypass rs

-- the cells with the test logic, the buffer, which has that bit, and the registers' gates
abbrev pub all_cells : NetlistView → Fitted → List FittedRegister → List CellView
all_cells N f rs = stitched_cells_by (through_net N f) N f ++ through_cell N f (Net (status_shown N f rs)) ∷ status_cells N f rs

-- of a netlist without gaps, what fits it, and the names of the test access port
abbrev pub stitched_status : NetlistView → TapNames → Fitted → List FittedRegister → NetlistView
stitched_status N names f rs = record {
  library = N.library;
  ports = (stitched N names f).ports;
  nets = (stitched_open N names f).nets ++ added_nets (status_first N f) (status_size f rs);
  cells = map Some (all_cells N f rs);
}
