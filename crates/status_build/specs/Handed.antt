-- The gates of data registers of a design's own as parts that are appended one behind another, and what they are
-- handed.
-- Own.
use Rattle.std.specs.Prelude.{ℕ, zero, suc, ◌+◌, List, [], ◌∷◌, ◌++◌}
use Rattle.netlist_model.specs.declared.NetId.{NetId}
use Rattle.netlist_model.specs.declared.Feed.{Feed}
use Rattle.netlist_model.specs.declared.Feed.TheVariants.{Net}
use Rattle.test_logic.specs.declared.TapNets.{TapNets}
use Rattle.register_gates.specs.declared.bits.Steering.{Steering}
use Rattle.register_gates.specs.declared.bits.TheConstants.{SHIFT_BIT}
use Rattle.register_gates.specs.Bits.{shift_bit_given}
use Rattle.register_gates.specs.Chains.{chain_last}
use Rattle.register_gates.specs.declared.TheConstants.{SELECTED}
use Rattle.register_gates.specs.Registers.{selected_given, selected_steering}
use Rattle.instruction_gates.specs.Rows.{is_one}
use Rattle.netlist_link.specs.Parts.{Part}
use Rattle.status_fitting.specs.declared.fitted.FittedRegister.{FittedRegister}
use Rattle.register_gates.specs.declared.ident.TheConstants.{INVERSE}
use Rattle.status_gates.specs.declared.TheConstants.{BOTH, SHOWN}
use Rattle.status_gates.specs.Opcodes.{literal, told_feed}
use Rattle.status_gates.specs.Shown.{shown_given}
use Rattle.status_gates.specs.Wires.{net_feeds}
use Rattle.status_gates.specs.declared.parts.SharedNets.{SharedNets}
use Rattle.status_gates.specs.Registers.{wanted_feeds, on_at, near_at, registers_size, shown_of}

abbrev pub inverse_parts : ℕ → ℕ → List Part
inverse_parts opcode zero = []
inverse_parts opcode (suc behind) = record { gates = INVERSE; levels = 1 ∷ []; given = Net (record { 0 = opcode }) ∷ [] } ∷ inverse_parts (suc opcode) behind

abbrev pub both_part : ℕ → ℕ → ℕ → Feed → List Feed → Part
both_part first opcode inverses wanted rest = record { gates = BOTH; levels = 1 ∷ []; given = literal (is_one wanted) opcode inverses ∷ told_feed first rest ∷ [] }

abbrev pub opcode_parts : ℕ → ℕ → ℕ → List Feed → List Part
opcode_parts first opcode inverses [] = []
opcode_parts first opcode inverses (wanted ∷ rest) = opcode_parts first (suc opcode) (suc inverses) rest ++ both_part first opcode inverses wanted rest ∷ []

abbrev pub bit_part : ℕ → Steering → NetId → Feed → List Feed → Part
bit_part first by tdi captured rest = record { gates = SHIFT_BIT; levels = 0 ∷ 2 ∷ 1 ∷ []; given = shift_bit_given by captured (chain_last first tdi rest) }

abbrev pub chain_parts : ℕ → Steering → NetId → List Feed → List Part
chain_parts first by tdi [] = []
chain_parts first by tdi (captured ∷ rest) = chain_parts first by tdi rest ++ bit_part first by tdi captured rest ∷ []

abbrev pub selected_part : TapNets → NetId → Part
selected_part tap on = record { gates = SELECTED; levels = 1 ∷ 1 ∷ []; given = selected_given tap on }

abbrev pub data_parts : ℕ → TapNets → NetId → NetId → List Feed → List Part
data_parts first tap on tdi captured = selected_part tap on ∷ chain_parts (first + 2) (selected_steering first tap) tdi captured

abbrev pub shown_part : NetId → NetId → NetId → Part
shown_part behind near on = record { gates = SHOWN; levels = 1 ∷ []; given = shown_given behind near on }

abbrev pub register_parts : ℕ → SharedNets → FittedRegister → NetId → List Part
register_parts first shared r behind =
    (opcode_parts first shared.opcode.0 shared.inverses.0 (wanted_feeds r.register.bits)
    ++ data_parts (first + r.register.bits.len) shared.tap (on_at first r) shared.tdi (net_feeds r.nets))
    ++ shown_part behind (near_at first shared r) (on_at first r) ∷ []

abbrev pub registers_parts : ℕ → SharedNets → NetId → List FittedRegister → List Part
registers_parts first shared bypass [] = []
registers_parts first shared bypass (r ∷ rs) = registers_parts first shared bypass rs
    ++ register_parts (first + registers_size rs) shared r (shown_of first bypass rs)
