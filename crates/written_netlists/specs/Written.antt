-- The netlist with the test logic built in, written as a module.
-- IEEE Std 1364-2001: modules and ports, hierarchical names; the records are own.
use Rattle.std.specs.Prelude.{◌≡◌, ℕ, ◌+◌, List, [], None, unwrap_or, IsSome}
use Rattle.verilog_tree.specs.declared.tree.Module.{Module}
use Rattle.verilog_tree.specs.Canonical.{canonical}
use Rattle.verilog_tree.specs.Texts.{SpellsText}
use Rattle.netlist_model.specs.declared.Name.{Name}
use Rattle.netlist_model.specs.Lists.{NetlistView, cell_at}
use Rattle.netlist_model.specs.Renumbered.{IsRenumbering}
use Rattle.netlist_arena.specs.Arena.{bit_count}
use Rattle.netlist_arena.specs.Room.{too_many}
use Rattle.link_model.specs.Denoted.{name_bytes}
use Rattle.link_model.specs.Faults.{text_fault}
use Rattle.link_model.specs.Late.{IsLinkable}
use Rattle.netlist_link.specs.Linked.{LinkedView}
use Rattle.netlist_link.specs.Links.{IsLinkOf}
use Rattle.netlist_link.specs.ViewLaws.{IsSameView}
use Rattle.bsdl_device.specs.declared.written.TapNames as device
use Rattle.wrapped_chip.specs.Realises.{Keeps}
use Rattle.plan_texts.specs.declared.plan.Plan.{Plan}
use Rattle.core_sides.specs.plan_fitting.declared.fitted.Fitted.{Fitted}
use Rattle.core_sides.specs.stitched_netlist.declared.model.TapNames.{TapNames}
use Rattle.core_sides.specs.stitched_netlist.Stitched.{stitched}
use Rattle.written_netlists.specs.Prepared.{room_of, ports_of, with_tap_names, AreTapNames}
use Rattle.written_netlists.specs.Same.{IsSameNetlist}

-- the bytes of an original name; an added one has none here
abbrev pub spelt : List (List ℕ) → Name → List ℕ
spelt table name = unwrap_or (name_bytes table name) []

-- the names of a plan's test access port
abbrev pub tap_of : Plan → device.TapNames
tap_of p = record { tdi = p.tdi.name; tms = p.tms.name; tdo = p.tdo.name; trst = p.trst.name; tck = p.tck.name }

-- own: the table of names and the netlist are those of this one with the test logic built in
pub record IsStitchedOf (L : LinkedView) (f : Fitted) (after : LinkedView) : Type 0 where
  pub names : TapNames
  pub table : after.names ≡ with_tap_names f L.names
  pub are : AreTapNames (with_tap_names f L.names) f names
  pub same : IsSameNetlist after.arena.lists (stitched L.arena.lists names f)

-- own: preparing doesn't refuse it
abbrev pub HasStitchRoom : LinkedView → Fitted → Type 0
HasStitchRoom L f = too_many L.arena.lists (room_of f) (room_of f) (ports_of f) ≡ None

-- own: what holds of the tree that is written of it
pub record WritesStitched (L : LinkedView) (p : Plan) (tree : Module) : Type 0 where
  -- its text spells it and no other
  pub spells : SpellsText (canonical tree) tree
  pub only : (other : Module) → SpellsText (canonical tree) other → other ≡ tree
  -- no fault stands in it: it can be linked with the library of the netlist without the test logic
  pub faultless : text_fault L.arena.lists.library tree ≡ None
  pub linkable : IsLinkable L.arena.lists.library tree
  -- with that library it has a netlist, and one alone
  pub linked : (written : LinkedView) × (written.arena.lists.library ≡ L.arena.lists.library) × IsLinkOf tree written
  pub one : (written other : LinkedView) → written.arena.lists.library ≡ L.arena.lists.library → other.arena.lists.library ≡ L.arena.lists.library
      → IsLinkOf tree written → IsLinkOf tree other → IsSameView written other
  -- which has the ports and the cells of the netlist without the test logic, under their names, and the
  -- test access port
  pub keeps : (written : LinkedView) → written.arena.lists.library ≡ L.arena.lists.library → IsLinkOf tree written
      → Keeps written.arena.lists L.arena.lists (spelt written.names) (spelt L.names) (tap_of p)
  -- with five port bits more
  pub bits : (written : LinkedView) → written.arena.lists.library ≡ L.arena.lists.library → IsLinkOf tree written
      → bit_count written.arena.lists.ports ≡ bit_count L.arena.lists.ports + 5

-- own: a netlist with its nets numbered anew, where each cell keeps its number
pub record IsNumberedAnew (old new : NetlistView) : Type 0 where
  pub to : ℕ → ℕ
  pub at : ℕ → ℕ
  pub is : IsRenumbering old new to at
  pub stay : (number : ℕ) → IsSome (cell_at old number) → at number ≡ number
