-- The test logic has no more cells and nets than preparing makes room for.
use Rattle.std.proofs.Common.{◌≡◌, ℕ, ◌+◌, ◌*◌, ◌≤◌, List, length, refl, arith}
use Rattle.cell_library.specs.declared.codes.Instr.{Instr}
use Rattle.cell_library.specs.declared.codes.Instr.TheVariants.{Extest, Sample, Preload, Idcode, Highz, Clamp, Usercode}
use Rattle.netlist_model.specs.Lists.{PortView, NetlistView}
use Rattle.test_logic.specs.declared.Codes.{Codes}
use Rattle.test_logic.specs.Instructions.{opcode_of}
use Rattle.core_sides.specs.instruction_gates.Register.{opcode_size, opcodes_size, matched_instructions, instruction_size}
use Rattle.core_sides.specs.plan_fitting.declared.fitted.FitRow.{FitRow}
use Rattle.core_sides.specs.plan_fitting.declared.fitted.Fitted.{Fitted}
use Rattle.core_sides.specs.stitched_netlist.declared.model.Site.{Site}
use Rattle.core_sides.specs.stitched_netlist.declared.model.Site.TheVariants as site
use Rattle.core_sides.specs.stitched_netlist.Sites.{site_of, row_sides, sides_of}
use Rattle.core_sides.specs.stitched_netlist.ModelRows.{row_nets, nets_of_rows}
use Rattle.core_sides.specs.stitched_netlist.ModelLogic.{code_size, logic_size}
use Rattle.core_sides.proofs.stitched_netlist.ModelMoves.{count_few}
use Rattle.core_sides.proofs.stitched_netlist.Few.{size_few, code_few, nets_by_few}
use Rattle.core_sides.specs.stitched_netlist.Sizes.{choice_count, driver_count, row_size, cells_of_rows, added_cells, added_net_count}
use Rattle.written_netlists.specs.Prepared.{room_of}
use Rattle.written_netlists.proofs.ModulesLists.{sum_few}

-- A row.

few_more : (at : Site) → choice_count at + driver_count at ≤ 2
few_more site.Observed = omega arith
few_more site.Input = omega arith
few_more site.Output = omega arith
few_more site.AddedDriver = omega arith
few_more site.Driver = omega arith
few_more site.Inout = omega arith
few_more site.Control = omega arith

row_few : (ports : List PortView) (row : FitRow) → row_size ports row ≤ 24
row_few ports row = let a = nets_by_few (site_of ports row) row.cell in let b = few_more (site_of ports row) in omega arith

-- The registers.

opcode_few : (codes : Codes) (i : Instr) → opcode_size codes i ≤ 2 * codes.length
opcode_few codes i = size_few codes (opcode_of codes.opcodes i)

opcodes_few : (codes : Codes) → opcodes_size codes matched_instructions ≤ 14 * codes.length
opcodes_few codes =
    seven (2 * codes.length) (opcode_size codes Extest) (opcode_size codes Sample) (opcode_size codes Preload) (opcode_size codes Idcode) (opcode_size codes Highz) (opcode_size codes Clamp)
    (opcode_size codes Usercode) (opcode_few codes Extest) (opcode_few codes Sample) (opcode_few codes Preload) (opcode_few codes Idcode) (opcode_few codes Highz) (opcode_few codes Clamp)
    (opcode_few codes Usercode) (14 * codes.length) (omega arith)
  where
    seven : (most a b c d e f g : ℕ) → a ≤ most → b ≤ most → c ≤ most → d ≤ most → e ≤ most → f ≤ most → g ≤ most → (all : ℕ) → 7 * most ≤ all
        → a + (b + (c + (d + (e + (f + (g + 0)))))) ≤ all
    seven most a b c d e f g p q r s t u v all h = omega arith

logic_few : (f : Fitted) → logic_size f ≤ 165 + 21 * f.codes.length
logic_few f =
    let a = opcodes_few f.codes in
    let b = code_few f.usercode f.idcode in
    let size : instruction_size f.codes ≡ 1 + 6 * f.codes.length + (opcodes_size f.codes matched_instructions + (10 + f.codes.length)) = refl in
    let whole : logic_size f ≡ 49 + instruction_size f.codes + 5 + code_size f.usercode f.idcode = refl in
    omega arith

-- All of it.

pub cells_few : (N : NetlistView) (f : Fitted) → added_cells N f ≤ room_of f
cells_few N f =
    let a = logic_few f in
    let b : cells_of_rows N.ports f.rows ≤ 24 * length f.rows = sum_few (row_size N.ports) 24 (row_few N.ports) f.rows in
    let whole : added_cells N f ≡ logic_size f + cells_of_rows N.ports f.rows + 7 = refl in
    let room : room_of f ≡ 410 + 64 * f.codes.length + 24 * length f.rows = refl in
    omega arith

pub nets_few : (N : NetlistView) (f : Fitted) → added_net_count N f ≤ room_of f
nets_few N f =
    let a = logic_few f in
    let b : sides_of N.ports f.rows ≤ 2 * length f.rows = sum_few (row_sides N.ports) 2 (λ row. count_few (site_of N.ports row)) f.rows in
    let c : nets_of_rows N.ports f.rows ≤ 7 * length f.rows = sum_few (row_nets N.ports) 7 (λ row. nets_by_few (site_of N.ports row) row.cell) f.rows in
    let whole : added_net_count N f ≡ 5 + sides_of N.ports f.rows + logic_size f + nets_of_rows N.ports f.rows + 6 = refl in
    let room : room_of f ≡ 410 + 64 * f.codes.length + 24 * length f.rows = refl in
    omega arith
