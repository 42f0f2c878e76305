-- What is known of a module on the way to its link.
use Rattle.std.specs.Prelude.{◌≡◌, ℕ, List, length, None}
use Rattle.cell_library.specs.declared.listed.ListedCell.{ListedCell}
use Rattle.cell_library.specs.Sound.{IsLibrary}
use Rattle.verilog_tree.specs.declared.tree.Module.{Module}
use Rattle.verilog_tree.specs.IsTree.{IsTree}
use Rattle.netlist_model.specs.Lists.{NetlistView}
use Rattle.netlist_model.specs.Contained.{IsDense}
use Rattle.link_arena.specs.cell_order.declared.fault.OrderFault.{OrderFault}
use Rattle.link_arena.specs.cell_order.declared.fault.OrderFault.TheVariants as order
use Rattle.link_names.specs.link_model.declared.fault.LinkFault.{LinkFault}
use Rattle.link_names.specs.link_model.declared.fault.LinkFault.TheVariants as fault
use Rattle.link_names.specs.link_model.Nets.{NamedNet, declared_nets, nets_in}
use Rattle.link_names.specs.link_model.Cells.{NamedCell}
use Rattle.link_names.specs.link_model.Fits.{FitCells}
use Rattle.link_names.specs.link_model.Faults.{text_fault, driver_fault, cells_in, names_of}
use Rattle.link_names.specs.link_model.Late.{IsLoop, HasNoDerived}
use Rattle.link_names.specs.link_model.Denoted.{IsNamed, denoted}

-- own: these are the nets and cells of a tree in whose text no fault stands
pub record AreNetsAndCells (library : List ListedCell) (m : Module) (nets : List NamedNet) (cells : List NamedCell) : Type 0 where
  pub tree : IsTree m
  pub listed : IsLibrary library
  pub clear : text_fault library m ≡ None
  pub nets_are : nets ≡ nets_in (declared_nets m)
  pub cells_are : cells ≡ cells_in library m
  pub fits : FitCells library (length nets) cells

-- own: a fault of ordering as one of linking
abbrev pub link_fault : OrderFault → LinkFault
link_fault (order.Loop numbers) = fault.Loop numbers
link_fault order.OutOfMemory = fault.OutOfMemory

-- own: a tree in which no fault stands
pub record IsSound (library : List ListedCell) (m : Module) : Type 0 where
  pub tree : IsTree m
  pub listed : IsLibrary library
  pub clear : text_fault library m ≡ None
  pub fits : FitCells library (length (nets_in (declared_nets m))) (cells_in library m)
  pub drivers : driver_fault (nets_in (declared_nets m)) (cells_in library m) ≡ None
  pub no_loop : (numbers : List ℕ) → IsLoop (cells_in library m) numbers → ⊥
  pub derived : HasNoDerived library m

-- own: the module's netlist with its names
pub record IsBuilt (m : Module) (N : NetlistView) (names : List (List ℕ)) : Type 0 where
  pub named : IsNamed names N (denoted N.library m)
  pub dense : IsDense N
  pub names_are : names ≡ names_of m
