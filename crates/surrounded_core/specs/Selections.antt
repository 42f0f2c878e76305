-- A row that the instruction register's nets steer.
-- IEEE Std 1149.1-2001: instruction register, boundary-scan register.
use Rattle.std.specs.Prelude.{◌≡◌, ℕ}
use Rattle.signal_values.specs.Values.{bit}
use Rattle.netlist_model.specs.declared.NetId.{NetId}
use Rattle.netlist_model.specs.Runs.{Moment}
use Rattle.test_logic.specs.declared.Levels.{Levels}
use Rattle.test_logic.specs.declared.InstrNets.{InstrNets}
use Rattle.test_logic.specs.Registers.{shifted}
use Rattle.test_logic.specs.Machine.{TestLogic, Machine, in_effect}
use Rattle.register_gates.specs.BitsLaws.{Carries}
use Rattle.boundary_cells.specs.MachineRows.{bit_at}
use Rattle.instruction_gates.specs.Selections.{Selected}
use Rattle.surrounded_core.specs.Rows.{IsSteered}

-- own: where these nets tell what the instruction in effect selects, and the bit that is shifted in is on the next net,
-- they steer the row
abbrev pub SelectedSteers : Type 0
SelectedSteers = (nets : InstrNets) (next : NetId) (L : TestLogic) (levels : Levels) (machine : Machine) (place : ℕ) (m : Moment)
    → Carries nets.scan.tck nets.scan.trst levels m → Selected nets (in_effect L machine) machine.state m
    → m.value next.0 ≡ bit_at (shifted (bit levels.tdi) machine.boundary) place → IsSteered nets.scan next L levels machine place m
