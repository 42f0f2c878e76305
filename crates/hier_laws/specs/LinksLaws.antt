-- The valuations that are settled in the netlist of a flat module, and those that solve the hierarchy.
-- IEEE Std 1364-2001: hierarchical structures, ports and port connections; values are those of one flat netlist.
use Rattle.std.specs.Prelude.{◌≡◌, ◌↔◌, ◌≤◌, ℕ, List, length, Some, None}
use Rattle.std.specs.List.{AllByRecursion}
use Rattle.signal_values.specs.declared.Sig.{Sig}
use Rattle.signal_values.specs.declared.Sig.TheVariants.{Unknown}
use Rattle.signal_values.specs.declared.PinSig.{PinSig}
use Rattle.cell_library.specs.declared.listed.ListedCell.{ListedCell}
use Rattle.cell_library.specs.Sound.{IsLibrary}
use Rattle.verilog_tree.specs.declared.tree.Module.{Module}
use Rattle.verilog_tree.specs.IsTree.{IsTree}
use Rattle.netlist_model.specs.Settled.{IsSettled}
use Rattle.netlist_link.specs.Linked.{LinkedView}
use Rattle.netlist_link.specs.Links.{IsLinkOf}
use Rattle.hier_model.specs.Visits.{module_named}
use Rattle.hier_model.specs.Faults.{hier_fault}
use Rattle.hier_model.specs.Flat.{flat}
use Rattle.hier_laws.specs.Solves.{Valuation, IsReading, Solves}

-- these modules, with this library, are made flat from the one of the name, and the flat module links with it
pub record IsLinkedFlat (library : List ListedCell) (modules : List Module) (name : List ℕ) (top : Module) (linked : LinkedView) : Type 0 where
  pub trees : AllByRecursion IsTree modules
  pub listed : IsLibrary library
  pub clear : hier_fault library modules name ≡ None
  pub found : module_named modules name ≡ Some top
  pub library_is : linked.arena.lists.library ≡ library
  pub links : IsLinkOf (flat modules top) linked

-- A valuation of the netlist's nets is settled exactly where it solves the hierarchy, read at (occurrence, net, bit).
abbrev pub SettledWhereSolved : List ListedCell → List Module → Module → LinkedView → Type 0
SettledWhereSolved library modules top linked = (pins : ℕ → PinSig) (state flat_value : ℕ → Sig) (value : Valuation)
    → IsReading modules top flat_value value → ((net : ℕ) → length linked.arena.lists.nets ≤ net → flat_value net ≡ Unknown)
    → IsSettled linked.arena.lists pins state flat_value ↔ Solves library modules top pins state value

-- And each valuation of the nets can be read so.
abbrev pub SettledWhereLinked : Type 0
SettledWhereLinked = (library : List ListedCell) (modules : List Module) (name : List ℕ) (top : Module) (linked : LinkedView) → IsLinkedFlat library modules name top linked
    → SettledWhereSolved library modules top linked × ((flat_value : ℕ → Sig) → (value : Valuation) × IsReading modules top flat_value value)
