-- What is added fits into the room that is taken for it.
use Rattle.std.proofs.Common.{◌+◌, ◌*◌, ◌≤◌, List, [], ◌∷◌, length, arith}
use Rattle.std.proofs.lemmas.List.Sums.{sum_by-cons}
use Rattle.cell_library.specs.declared.codes.Instr.TheVariants.{Extest, Sample, Preload, Idcode, Highz, Clamp, Usercode}
use Rattle.netlist_model.specs.Lists.{PortView}
use Rattle.test_logic.specs.Instructions.{opcode_of}
use Rattle.core_sides.specs.plan_fitting.declared.fitted.FitRow.{FitRow}
use Rattle.core_sides.specs.plan_fitting.declared.fitted.Fitted.{Fitted}
use Rattle.core_sides.specs.stitched_netlist.declared.model.Site.{Site}
use Rattle.core_sides.specs.stitched_netlist.declared.model.Site.TheVariants as site
use Rattle.core_sides.specs.stitched_netlist.Sites.{site_of, side_count, row_sides, sides_of}
use Rattle.core_sides.specs.stitched_netlist.ModelRows.{row_nets, nets_of_rows}
use Rattle.core_sides.specs.stitched_netlist.ModelLogic.{logic_size}
use Rattle.core_sides.proofs.stitched_netlist.Few.{size_few, code_few, nets_by_few}
use Rattle.core_sides.specs.stitched_netlist.Sizes.{choice_count, driver_count, row_size, cells_of_rows}
use Rattle.core_sides.proofs.stitched_netlist.Counts.{counts}
use Rattle.written_netlists.specs.Taken.{StitchedFitsRoom}

logic_few : (f : Fitted) → logic_size f ≤ 164 + 21 * f.codes.length
logic_few f =
    let codes = f.codes in
    let a = size_few codes (opcode_of codes.opcodes Extest) in
    let b = size_few codes (opcode_of codes.opcodes Sample) in
    let c = size_few codes (opcode_of codes.opcodes Preload) in
    let d = size_few codes (opcode_of codes.opcodes Idcode) in
    let e = size_few codes (opcode_of codes.opcodes Highz) in
    let g = size_few codes (opcode_of codes.opcodes Clamp) in
    let h = size_few codes (opcode_of codes.opcodes Usercode) in
    let i = code_few f.usercode f.idcode in
    omega arith

record FewAt (at : Site) : Type 0 where
  choices : choice_count at ≤ 1
  drivers : driver_count at ≤ 1
  sides : side_count at ≤ 2

few_at : (at : Site) → FewAt at
few_at site.Observed = record { choices = omega arith; drivers = omega arith; sides = omega arith }
few_at site.Input = record { choices = omega arith; drivers = omega arith; sides = omega arith }
few_at site.Output = record { choices = omega arith; drivers = omega arith; sides = omega arith }
few_at site.AddedDriver = record { choices = omega arith; drivers = omega arith; sides = omega arith }
few_at site.Driver = record { choices = omega arith; drivers = omega arith; sides = omega arith }
few_at site.Inout = record { choices = omega arith; drivers = omega arith; sides = omega arith }
few_at site.Control = record { choices = omega arith; drivers = omega arith; sides = omega arith }

record FewRows (ports : List PortView) (rows : List FitRow) : Type 0 where
  cells : cells_of_rows ports rows ≤ 9 * length rows
  nets : nets_of_rows ports rows ≤ 7 * length rows
  sides : sides_of ports rows ≤ 2 * length rows

few_rows : (ports : List PortView) (rows : List FitRow) → FewRows ports rows
few_rows ports [] = record { cells = omega arith; nets = omega arith; sides = omega arith }
few_rows ports (row ∷ rows) =
    let at = few_at (site_of ports row) in
    let a = at.choices in
    let b = at.drivers in
    let c = at.sides in
    let stage = nets_by_few (site_of ports row) row.cell in
    let one = sum_by-cons (row_size ports) row rows in
    let two = sum_by-cons (row_nets ports) row rows in
    let three = sum_by-cons (row_sides ports) row rows in
    let rest = few_rows ports rows in
    let x = rest.cells in
    let y = rest.nets in
    let z = rest.sides in
    record { cells = omega arith; nets = omega arith; sides = omega arith }

pub fits_room : StitchedFitsRoom
fits_room N names f =
    let rows = few_rows N.ports f.rows in
    let x = rows.cells in
    let y = rows.nets in
    let z = rows.sides in
    let logic = logic_few f in
    let cells = (counts N names f).cells in
    let nets = (counts N names f).nets in
    record { cells = omega arith; nets = omega arith }
