-- How many cells the controller and the registers beside the boundary register have.
use Rattle.std.proofs.Common.{◌≡◌, ℕ, ◌+◌, ◌*◌, ◌≤◌, List, [], ◌++◌, length, length-append, Option, refl, ◌∙◌, arith}
use Rattle.netlist_model.specs.declared.NetId.{NetId}
use Rattle.netlist_model.specs.declared.Feed.{Feed}
use Rattle.netlist_model.specs.Lists.{CellView}
use Rattle.test_logic.specs.declared.Codes.{Codes}
use Rattle.test_logic.specs.declared.TapNets.{TapNets}
use Rattle.register_gates.specs.Chains.{chain_cells}
use Rattle.register_gates.proofs.Lengths.{chain_length}
use Rattle.register_gates.specs.Constants.{ConstantsAreBits}
use Rattle.register_gates.specs.Registers.{selected_cells, selected_steering, user_size, inverse_cells, captured_feeds, ident_size, ident_cells}
use Rattle.instruction_gates.specs.Copies.{copies_cells}
use Rattle.instruction_gates.specs.Selections.{selections_cells}
use Rattle.instruction_gates.specs.Stages.{stages_cells}
use Rattle.instruction_gates.specs.Register.{pattern_bits, latches_from, opcodes_from, selections_from, copies_from, opcodes_cells, opcodes_told, matched_instructions, instruction_size, instruction_cells}
use Rattle.instruction_gates.proofs.Copied.{copies_length}
use Rattle.instruction_gates.proofs.Sizes.{opcodes_length}
use Rattle.instruction_gates.proofs.Added.{stages_counted}
use Rattle.core_sides.proofs.stitched_netlist.Few.{inverse_counted, captured_counted}

-- the instruction register has as many cells as nets
pub instruction_length : ConstantsAreBits → (first number : ℕ) (tap : TapNets) (tdi : NetId) (codes : Codes) → length (instruction_cells first number tap tdi codes) ≡ instruction_size codes
instruction_length constants first number tap tdi codes =
    let xs : List CellView = stages_cells first number tap tdi (pattern_bits codes codes.capture) (pattern_bits codes codes.reset) in
    let ys : List CellView = opcodes_cells (opcodes_from first codes) (opcodes_from number codes) (latches_from first codes) codes matched_instructions in
    let zs : List CellView = selections_cells (selections_from first codes) (selections_from number codes) tap (opcodes_told (opcodes_from first codes) codes) in
    let ws : List CellView = copies_cells (copies_from first codes) (copies_from number codes) (latches_from first codes) codes.length in
    let a = length-append xs (ys ++ (zs ++ ws)) in
    let b = length-append ys (zs ++ ws) in
    let b' = length-append zs ws in
    let c = stages_counted constants first number tap tdi codes in
    let d = opcodes_length constants (opcodes_from first codes) (opcodes_from number codes) (latches_from first codes) codes matched_instructions in
    let e : length zs ≡ 10 = refl in
    let f = copies_length (copies_from first codes) (copies_from number codes) (latches_from first codes) codes.length in
    a ∙ omega arith

-- and so has the identification register
pub ident_length : (first number : ℕ) (tap : TapNets) (on user_on tdi : NetId) (user : Option ℕ) (code : ℕ) → length (ident_cells first number tap on user_on tdi user code) ≡ ident_size user
ident_length first number tap on user_on tdi user code =
    let start : ℕ = first + user_size user in
    let captured : List Feed = captured_feeds first user_on user code in
    let inverse : List CellView = inverse_cells first number user_on user in
    let xs : List CellView = selected_cells start (number + user_size user) tap on in
    let ys : List CellView = chain_cells (start + 2) (number + user_size user + 2) (selected_steering start tap) tdi captured in
    let a = length-append inverse (xs ++ ys) in
    let b = length-append xs ys in
    let c = inverse_counted first number user_on user in
    let d : length xs ≡ 2 = refl in
    let e = chain_length (start + 2) (number + user_size user + 2) (selected_steering start tap) tdi captured in
    let f = captured_counted first user_on user code in
    omega arith
