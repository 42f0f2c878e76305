-- The parts of the test logic hold them.
use Rattle.std.proofs.Common.{◌≡◌, ℕ, suc, ◌+◌, ◌*◌, ◌<◌, List, ◌++◌, length, Some, refl, ap, ◌∙◌, subst, arith}
use Rattle.std.specs.Option.{option_map}
use Rattle.netlist_model.specs.declared.NetId.{NetId}
use Rattle.netlist_model.specs.declared.Feed.{Feed}
use Rattle.netlist_model.specs.Lists.{CellView, NetlistView}
use Rattle.netlist_model.specs.Contained.{HasCells}
use Rattle.netlist_model.specs.LawsContained.{ContainedParts}
use Rattle.netlist_model.specs.Nested.{renamed_net}
use Rattle.test_logic.specs.declared.TapNets.{TapNets}
use Rattle.test_logic.specs.declared.Codes.{Codes}
use Rattle.register_gates.specs.Constants.{ConstantsAreBits}
use Rattle.instruction_gates.specs.Copies.{copies_cells}
use Rattle.instruction_gates.specs.Latches.{latches_cells}
use Rattle.instruction_gates.specs.Selections.{selections_cells}
use Rattle.instruction_gates.specs.Stages.{ir_latching, shift_stage_cells, stages_cells}
use Rattle.instruction_gates.specs.Register.{pattern_bits, latches_from, opcodes_cells, opcodes_told, matched_instructions, opcodes_from, selections_from, copies_from, instruction_cells}
use Rattle.stitched_netlist.specs.Sides.{core_side, core_cell}
use Rattle.stitched_netlist.specs.ModelLogic.{instruction_from, bypass_from, tap_at}
use Rattle.stitched_netlist.specs.Stitched.{boundary_at, first_net}
use Rattle.stitched_netlist.specs.PlacesLaws.{port_of, instruction_number}
use Rattle.status_build.specs.OrderLaws.{IsHeld, IsCopy}
use Rattle.status_build.specs.PlacesLaws.{SharedNetsStand, WiresStand}
use Rattle.status_build.proofs.Held.{held_of, latches_there, copies_there}

-- The instruction register.

opcode_there : ContainedParts → ConstantsAreBits → (M : NetlistView) (first number : ℕ) (tap : TapNets) (tdi : NetId) (codes : Codes) → HasCells M (instruction_cells first number tap tdi codes)
    → (k : ℕ) → k < codes.length → IsCopy M (copies_from first codes + k)
opcode_there parts constants M first number tap tdi codes has =
    let captured : List Feed = pattern_bits codes codes.capture in
    let presets : List Feed = pattern_bits codes codes.reset in
    let count : length captured ≡ codes.length = (constants codes.length codes.capture.value).counted in
    let long : length presets ≡ codes.length = (constants codes.length codes.reset.value).counted in
    let stages : List CellView = stages_cells first number tap tdi captured presets in
    let opcodes : List CellView = opcodes_cells (opcodes_from first codes) (opcodes_from number codes) (latches_from first codes) codes matched_instructions in
    let selections : List CellView = selections_cells (selections_from first codes) (selections_from number codes) tap (opcodes_told (opcodes_from first codes) codes) in
    let copies : List CellView = copies_cells (copies_from first codes) (copies_from number codes) (latches_from first codes) codes.length in
    let one = (parts M stages (opcodes ++ (selections ++ copies))).parts has in
    let two = (parts M opcodes (selections ++ copies)).parts one.1 in
    let three = (parts M selections copies).parts two.1 in
    let at : ℕ = first + (1 + 3 * length captured) in
    let latches : List CellView = latches_cells at (number + (1 + 3 * length captured)) (ir_latching first tap) (first + 1) presets in
    let apart = (parts M (shift_stage_cells first number tap tdi captured) latches).parts one.0 in
    let held : (j : ℕ) → j < codes.length → IsHeld M (latches_from first codes + 3 * j + 1) = λ j low.
    (let e : at + 3 * j + 1 ≡ latches_from first codes + 3 * j + 1 = omega (arith, count) in
    subst (IsHeld M) e (latches_there parts M at (number + (1 + 3 * length captured)) (ir_latching first tap) (first + 1) presets apart.1 j (omega (arith, low, long)))) in
    copies_there M (copies_from first codes) (copies_from number codes) (latches_from first codes) codes.length three.1 held

-- All of it.

pub shared_stand : ContainedParts → ConstantsAreBits → SharedNetsStand
shared_stand parts constants M N f shown holds =
    let first : ℕ = first_net N f in
    let capture_is : suc (suc (suc first)) ≡ first + 3 = omega arith in
    let shift_is : suc (suc (suc (suc first))) ≡ first + 4 = omega arith in
    record {
      capture = subst (IsHeld M) capture_is (held_of M _ (suc (suc (suc first))) holds.controller.1.1.1.0 refl refl);
      shift = subst (IsHeld M) shift_is (held_of M _ (suc (suc (suc (suc first)))) holds.controller.1.1.1.1.0 refl refl);
      bypass = held_of M _ (first + bypass_from f + 2) holds.bypass.1.1.0 refl refl;
      opcode = opcode_there parts constants M (first + instruction_from) (instruction_number N f) (tap_at first (port_of N)) (port_of N).tdi f.codes holds.instruction;
    }

pub wires_there : WiresStand
wires_there M N names f shown built net stays d = record {
  number = d.number;
  cell = core_cell (boundary_at N f) d.cell;
  drives = record {
    live = built.core.stands d.number d.cell d.drives.live;
    output = ap (option_map (renamed_net (core_side (boundary_at N f)))) d.drives.output ∙ ap (λ (n : ℕ). Some (let id : NetId = record { 0 = n } in id)) stays;
  };
}
