-- A module that denotes what another does has its names, and its link views.
-- IEEE Std 1364-2001: modules and ports, data types; the statements are own.
use Rattle.std.specs.Prelude.{◌≡◌, List}
use Rattle.cell_library.specs.declared.listed.ListedCell.{ListedCell}
use Rattle.verilog_tree.specs.declared.tree.Module.{Module}
use Rattle.link_model.specs.Late.{IsLinkable}
use Rattle.link_model.specs.Faults.{names_of}
use Rattle.netlist_link.specs.Linked.{LinkedView}
use Rattle.netlist_link.specs.Links.{IsLinkOf}
use Rattle.netlist_unlink.specs.Renumbered.{DenotesSame}

-- own: the names of ports, wires and items stand in what a module denotes, where no name stands twice
abbrev pub SameNames : Type 0
SameNames = (library : List ListedCell) (m tree : Module) → IsLinkable library m → DenotesSame library m tree → names_of tree ≡ names_of m

-- own: the netlist of the one is a link view of the other
abbrev pub SameIsLinked : Type 0
SameIsLinked = (m tree : Module) (L : LinkedView) → IsLinkOf m L → DenotesSame L.arena.lists.library m tree → tree.name ≡ m.name → IsLinkOf tree L
