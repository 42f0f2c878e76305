-- What the kinds of items are, and which faults a module without faults of its text has not.
use Rattle.std.proofs.Common.{◌≡◌, ℕ, List, refl, Option, Some, None}
use Rattle.std.specs.Prelude.{slice_get, IsSome}
use Rattle.list_laws.proofs.Options.{or_else-parts, first_in-at}
use Rattle.cell_library.specs.declared.listed.ListedCell.{ListedCell}
use Rattle.cell_library.specs.declared.Kind.{Kind}
use Rattle.cell_library.specs.declared.Kind.TheVariants as kind
use Rattle.cell_library.specs.Library.{cell_name, kind_named}
use Rattle.cell_library.proofs.NameLaws.{found_has_name}
use Rattle.verilog_tree.specs.declared.tree.GateKind.{GateKind}
use Rattle.verilog_tree.specs.declared.tree.GateKind.TheVariants as gate
use Rattle.verilog_tree.specs.declared.tree.Item.{Item}
use Rattle.verilog_tree.specs.declared.tree.Module.{Module}
use Rattle.link_names.specs.link_model.declared.fault.LinkFault.{LinkFault}
use Rattle.link_names.specs.link_model.Lists.{or_else, first_in}
use Rattle.link_names.specs.link_model.Cells.{kind_of_gate}
use Rattle.link_names.specs.link_model.Faults.{text_fault, too_many_in, name_twice, bit_faults, instance_faults, cell_unknown, at_instance, port_unknown, port_missing, port_twice, item_width}
use Rattle.link_names.specs.link_model.Nets.{declared_names}

-- a primitive gate is no library cell and no `assign`
pub gate_unnamed : (library : List ListedCell) (g : GateKind) → cell_name library (kind_of_gate g) ≡ None
gate_unnamed library gate.And = refl
gate_unnamed library gate.Or = refl
gate_unnamed library gate.Nand = refl
gate_unnamed library gate.Nor = refl
gate_unnamed library gate.Xor = refl
gate_unnamed library gate.Xnor = refl
gate_unnamed library gate.Buf = refl
gate_unnamed library gate.Not = refl
gate_unnamed library gate.Bufif0 = refl
gate_unnamed library gate.Bufif1 = refl

pub gate_no_assign : (g : GateKind) → kind_of_gate g ≡ kind.Assign → ⊥
gate_no_assign gate.And e = cc
gate_no_assign gate.Or e = cc
gate_no_assign gate.Nand e = cc
gate_no_assign gate.Nor e = cc
gate_no_assign gate.Xor e = cc
gate_no_assign gate.Xnor e = cc
gate_no_assign gate.Buf e = cc
gate_no_assign gate.Not e = cc
gate_no_assign gate.Bufif0 e = cc
gate_no_assign gate.Bufif1 e = cc

-- a library cell has a name
pub library_kind : (library : List ListedCell) (name : List ℕ) (k : Kind) → kind_named library name ≡ Some k → IsSome (cell_name library k)
library_kind library name k e = found_has_name library name k e

-- No fault.

-- where no fault of the text stands, each instance is of a library cell
pub known_cells : (library : List ListedCell) (m : Module) → text_fault library m ≡ None → (i : ℕ) (x : Item) → slice_get m.items i ≡ Some x → cell_unknown library x ≡ None
known_cells library m e i x at =
    let widths : Option LinkFault = first_in (item_width library (declared_names m)) m.items in
    let one = or_else-parts (too_many_in m) (or_else (name_twice m) (or_else (bit_faults m) (or_else (instance_faults library m) widths))) e in
    let two = or_else-parts (name_twice m) (or_else (bit_faults m) (or_else (instance_faults library m) widths)) one.1 in
    let three = or_else-parts (bit_faults m) (or_else (instance_faults library m) widths) two.1 in
    let four = or_else-parts (instance_faults library m) widths three.1 in
    let five = or_else-parts (first_in (cell_unknown library) m.items) (or_else (first_in (at_instance library (port_unknown library)) m.items) (or_else (first_in (at_instance library (port_missing library)) m.items) (first_in (at_instance library port_twice) m.items))) four.0 in
    first_in-at (cell_unknown library) m.items i x five.0 at
