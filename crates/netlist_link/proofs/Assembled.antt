-- What is known of a module in which no fault stands.
use Rattle.std.proofs.Common.{◌≡◌, subst, ℕ, List, length, refl, ap, sym, ◌∙◌, None}
use Rattle.cell_library.specs.declared.listed.ListedCell.{ListedCell}
use Rattle.verilog_tree.specs.declared.tree.Module.{Module}
use Rattle.netlist_model.specs.Lists.{NetlistView}
use Rattle.netlist_model.specs.Formed.{IsWellFormed}
use Rattle.link_names.specs.link_model.Nets.{NamedNet, declared_nets, nets_in}
use Rattle.link_names.specs.link_model.Cells.{NamedCell}
use Rattle.link_names.specs.link_model.Fits.{FitCells}
use Rattle.link_names.specs.link_model.Faults.{driver_fault, cells_in}
use Rattle.link_names.specs.link_model.Late.{HasNoDerived, IsLinkable}
use Rattle.list_laws.proofs.Lists.{AreAll-length}
use Rattle.link_names.specs.link_model.Denoted.{IsNamed, IsNet, denoted}
use Rattle.link_arena.specs.link_rules.DriversLaws.{HasItsDrivers, HaveTheirDrivers}
use Rattle.link_arena.proofs.Parts.{are_below}
use Rattle.netlist_model.specs.declared.CellId.{CellId}
use Rattle.netlist_model.specs.Orders.{IsCellOrder}
use Rattle.netlist_link.specs.Steps.{AreNetsAndCells, IsBuilt, IsSound}
use Rattle.netlist_link.proofs.Formed.{HasNoDerivedOperand, well_formed}
use Rattle.netlist_link.proofs.Orders.{no_loop_in_order}

-- it is well formed
pub is_formed : (table : List (List ℕ)) (N : NetlistView) (m : Module) (order : List CellId) → IsSound N.library m → IsNamed table N (denoted N.library m) → HasItsDrivers (nets_in (declared_nets m)) (cells_in N.library m)
    → IsCellOrder N order → HasNoDerivedOperand (nets_in (declared_nets m)) (cells_in N.library m) → IsWellFormed N
is_formed table N m order sound is drivers ordered derived = well_formed table N m order is sound.fits drivers ordered derived

-- a module in which no fault stands can be linked
pub linkable : (library : List ListedCell) (m : Module) → IsSound library m → IsLinkable library m
linkable library m sound = record { early = rw (sound.clear, sound.drivers) refl; loops = sound.no_loop; derived = sound.derived }

-- what is known of the nets and cells is known of the tree's
pub tree_fits : (library : List ListedCell) (m : Module) (nets : List NamedNet) (cells : List NamedCell) → AreNetsAndCells library m nets cells → FitCells library (length (nets_in (declared_nets m))) (cells_in library m)
tree_fits library m nets cells these =
    let Fit : List NamedNet → List NamedCell → Type 0 = λ ns cs. FitCells library (length ns) cs in
    let Nets : List NamedNet → Type 0 = λ ns. Fit ns cells in
    let Cells : List NamedCell → Type 0 = Fit (nets_in (declared_nets m)) in
    subst Cells these.cells_are (subst Nets these.nets_are these.fits)

pub tree_clear : (library : List ListedCell) (m : Module) (nets : List NamedNet) (cells : List NamedCell) → AreNetsAndCells library m nets cells → driver_fault nets cells ≡ None → driver_fault (nets_in (declared_nets m)) (cells_in library m) ≡ None
tree_clear library m nets cells these drivers = ap (λ ns. driver_fault ns (cells_in library m)) (sym these.nets_are) ∙ ap (driver_fault nets) (sym these.cells_are) ∙ drivers

pub tree_drivers_of : HaveTheirDrivers → (library : List ListedCell) (m : Module) (nets : List NamedNet) (cells : List NamedCell) → AreNetsAndCells library m nets cells → driver_fault nets cells ≡ None
    → HasItsDrivers (nets_in (declared_nets m)) (cells_in library m)
tree_drivers_of their library m nets cells these drivers =
    their (nets_in (declared_nets m)) (cells_in library m) (are_below library (length (nets_in (declared_nets m))) (cells_in library m) (tree_fits library m nets cells these)) (tree_clear library m nets cells these drivers)

-- the nets are as many as the netlist has
pub nets_count : (table : List (List ℕ)) (N : NetlistView) (m : Module) (nets : List NamedNet) (cells : List NamedCell) → AreNetsAndCells N.library m nets cells → IsBuilt m N table → length nets ≡ length N.nets
nets_count table N m nets cells these built = ap length these.nets_are ∙ sym (AreAll-length (IsNet table) N.nets (nets_in (declared_nets m)) built.named.nets)

-- what is known with the cells is known with those of the tree
pub of_tree : (library : List ListedCell) (m : Module) (nets : List NamedNet) (cells : List NamedCell) → AreNetsAndCells library m nets cells → AreNetsAndCells library m nets (cells_in library m)
of_tree library m nets cells these = subst (λ (cs : List NamedCell). AreNetsAndCells library m nets cs) these.cells_are these

pub tree_driven : (library : List ListedCell) (m : Module) (nets : List NamedNet) (cells : List NamedCell) → AreNetsAndCells library m nets cells → driver_fault nets cells ≡ None → driver_fault nets (cells_in library m) ≡ None
tree_driven library m nets cells these drivers = sym (ap (driver_fault nets) these.cells_are) ∙ drivers

-- no fault stands in the module of these nets and cells
pub sound : (table : List (List ℕ)) (N : NetlistView) (m : Module) (nets : List NamedNet) (cells : List NamedCell) (order : List CellId) → AreNetsAndCells N.library m nets cells → driver_fault nets cells ≡ None
    → IsBuilt m N table → HasItsDrivers (nets_in (declared_nets m)) (cells_in N.library m) → IsCellOrder N order → HasNoDerived N.library m → IsSound N.library m
sound table N m nets cells order these drivers built has ordered derived = record {
  tree = these.tree;
  listed = these.listed;
  clear = these.clear;
  fits = tree_fits N.library m nets cells these;
  drivers = tree_clear N.library m nets cells these drivers;
  no_loop = no_loop_in_order table N m order built.named has ordered;
  derived = derived;
}

-- the same names of a netlist that has the library
pub named_built : (library : List ListedCell) (m : Module) (N : NetlistView) (table : List (List ℕ)) → N.library ≡ library → IsNamed table N (denoted library m) → IsNamed table N (denoted N.library m)
named_built library m N table is named = subst (λ (l : List ListedCell). IsNamed table N (denoted l m)) (sym is) named
