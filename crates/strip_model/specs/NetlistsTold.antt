-- That the module that a netlist with test logic is written as tells the netlist: the prefix, the nets between, and the
-- module of the core.
-- IEEE Std 1149.1-2001: boundary-scan register, test access port; IEEE Std 1364-2001: modules and ports; the
-- statement is own.
use Rattle.std.specs.Prelude.{◌≡◌, ℕ, ◌<◌, ◌^◌, false, List, map, length, slice_get, Some}
use Rattle.verilog_tree.specs.declared.tree.Module.{Module}
use Rattle.netlist_model.specs.declared.Name.{Name}
use Rattle.netlist_model.specs.declared.Name.TheVariants.{Original, Added}
use Rattle.netlist_model.specs.Lists.{PortView, NetView, CellView, NetlistView, cell_at}
use Rattle.netlist_model.specs.Formed.{IsLaidOut}
use Rattle.netlist_link.specs.Linked.{LinkedView}
use Rattle.plan_fitting.specs.declared.fitted.Fitted.{Fitted}
use Rattle.plan_fitting.specs.Devices.{cell_row}
use Rattle.netlist_unlink.specs.Trees.{original, naming_of, tree_of}
use Rattle.stitched_netlist.specs.declared.model.TapNames.{TapNames}
use Rattle.stitched_netlist.specs.Stitched.{boundary_at, stitched}
use Rattle.strip_model.specs.declared.Side.{Side}
use Rattle.strip_model.specs.Sides.{sides}
use Rattle.strip_model.specs.Core.{begins, core_module}
use Rattle.strip_model.specs.Prefix.{prefix_of}
use Rattle.strip_model.specs.Pairs.{CanBeUndone, pairs_of}
use Rattle.strip_model.specs.Chain.{written_side}

-- What is needed.

-- own: a name of the table that doesn't begin with the prefix
abbrev pub IsOwn : List (List ℕ) → List ℕ → Name → Type 0
IsOwn table prefix (Original number) = (number < length table) × (begins prefix (original table number) ≡ false)
IsOwn table prefix (Added number) = ⊥

-- own: such a name, which no net of the netlist has
pub record IsNewTap (N : NetlistView) (table : List (List ℕ)) (prefix : List ℕ) (name : Name) : Type 0 where
  pub own : IsOwn table prefix name
  pub new : (net : ℕ) (view : NetView) → slice_get N.nets net ≡ Some view → view.name ≡ name → ⊥

-- own: the names of the netlist are original ones and none begins with the prefix; those of the test access port are
-- new ones; each cell can be undone
pub record CanBeTold (L : LinkedView) (table : List (List ℕ)) (names : TapNames) (f : Fitted) (prefix : List ℕ) : Type 0 where
  pub kept : (number : ℕ) (bytes : List ℕ) → slice_get L.names number ≡ Some bytes → slice_get table number ≡ Some bytes
  pub ports : (p : ℕ) (port : PortView) → slice_get L.arena.lists.ports p ≡ Some port → IsOwn L.names prefix port.name
  pub nets : (net : ℕ) (view : NetView) → slice_get L.arena.lists.nets net ≡ Some view → IsOwn L.names prefix view.name
  pub cells : (i : ℕ) (cell : CellView) (name : Name) → cell_at L.arena.lists i ≡ Some cell → cell.name ≡ Some name → IsOwn L.names prefix name
  pub tck : IsNewTap L.arena.lists table prefix names.tck
  pub tms : IsNewTap L.arena.lists table prefix names.tms
  pub tdi : IsNewTap L.arena.lists table prefix names.tdi
  pub tdo : IsNewTap L.arena.lists table prefix names.tdo
  pub trst : IsNewTap L.arena.lists table prefix names.trst
  pub undone : (i : ℕ) (cell : CellView) → cell_at L.arena.lists i ≡ Some cell → CanBeUndone (boundary_at L.arena.lists f) cell
  pub laid : IsLaidOut L.arena.lists
  pub few : length (stitched L.arena.lists names f).nets < 2 ^ 32
  pub filled : 0 < length prefix

-- What is told.

-- own: the netlist with the test logic built in, by this table of names
abbrev pub with_logic : LinkedView → List (List ℕ) → TapNames → Fitted → LinkedView
with_logic L table names f = record L { arena = record L.arena { lists = stitched L.arena.lists names f }; names = table }

abbrev pub inserted_tree : LinkedView → List (List ℕ) → TapNames → Fitted → List ℕ → Module
inserted_tree L table names f prefix = tree_of (with_logic L table names f) prefix

-- own: the nets between, as they are written
abbrev pub told_sides : LinkedView → List (List ℕ) → TapNames → Fitted → List ℕ → List Side
told_sides L table names f prefix = map (written_side (naming_of (with_logic L table names f) prefix)) (pairs_of (boundary_at L.arena.lists f))

-- own: the module tells the prefix, the nets between and the netlist
pub record IsTold (L : LinkedView) (table : List (List ℕ)) (names : TapNames) (f : Fitted) (prefix : List ℕ) : Type 0 where
  pub prefix_is : prefix_of (inserted_tree L table names f prefix).items ≡ Some prefix
  pub sides_are : sides (map (cell_row f) f.rows) (inserted_tree L table names f prefix).items ≡ Some (told_sides L table names f prefix)
  pub core_is : core_module prefix (told_sides L table names f prefix) (inserted_tree L table names f prefix) ≡ tree_of L prefix

abbrev pub CoreIsTold : Type 0
CoreIsTold = (L : LinkedView) (table : List (List ℕ)) (names : TapNames) (f : Fitted) (prefix : List ℕ) → CanBeTold L table names f prefix → IsTold L table names f prefix
