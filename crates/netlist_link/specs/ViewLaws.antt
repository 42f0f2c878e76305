-- Link views of a tree: where it can be linked there is one, and all are the same but for spare room, walks, order, and
-- what is marked in them.
-- IEEE Std 1364-2001: hierarchical structures, data types; that a tree has one netlist is own.
use Rattle.std.specs.Prelude.{◌≡◌, ℕ, List}
use Rattle.cell_library.specs.declared.listed.ListedCell.{ListedCell}
use Rattle.cell_library.specs.Sound.{IsLibrary}
use Rattle.verilog_tree.specs.declared.tree.Module.{Module}
use Rattle.verilog_tree.specs.IsTree.{IsTree}
use Rattle.netlist_model.specs.Lists.{cell_at}
use Rattle.netlist_model.specs.Formed.{IsWellFormed}
use Rattle.link_names.specs.link_model.Late.{IsLinkable}
use Rattle.netlist_link.specs.Linked.{LinkedView}
use Rattle.netlist_link.specs.Links.{IsLinkOf}
use Rattle.netlist_link.specs.WellNamed.{IsWellNamed}

-- own: the same names, ports and nets, and the same live cell under each number
pub record IsSameView (one other : LinkedView) : Type 0 where
  pub title : one.module_name ≡ other.module_name
  pub names : one.names ≡ other.names
  pub library : one.arena.lists.library ≡ other.arena.lists.library
  pub ports : one.arena.lists.ports ≡ other.arena.lists.ports
  pub nets : one.arena.lists.nets ≡ other.arena.lists.nets
  pub cells : (number : ℕ) → cell_at one.arena.lists number ≡ cell_at other.arena.lists number

-- own: two link views of one tree are the same
abbrev pub LinkViewsAgree : Type 0
LinkViewsAgree = (m : Module) (one other : LinkedView) → one.arena.lists.library ≡ other.arena.lists.library → IsLinkOf m one → IsLinkOf m other → IsSameView one other

-- own: a tree that can be linked has a link view
abbrev pub LinkViewExists : Type 0
LinkViewExists = (library : List ListedCell) (m : Module) → IsLinkable library m → (linked : LinkedView) × (linked.arena.lists.library ≡ library) × IsLinkOf m linked

-- own: a link view is well named
abbrev pub LinkViewIsNamed : Type 0
LinkViewIsNamed = (m : Module) (linked : LinkedView) → IsTree m → IsLibrary linked.arena.lists.library → IsLinkOf m linked → IsWellNamed linked.names linked.arena.lists

-- own: and well formed
abbrev pub LinkViewIsFormed : Type 0
LinkViewIsFormed = (m : Module) (linked : LinkedView) → IsTree m → IsLibrary linked.arena.lists.library → IsLinkOf m linked → IsWellFormed linked.arena.lists
