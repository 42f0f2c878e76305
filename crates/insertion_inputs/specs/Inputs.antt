-- What an insertion reads: the netlist that bytes spell, and the plan that bytes spell, as it fits the netlist.
-- IEEE Std 1364-2001 for the netlist; plans are own.
use Rattle.std.specs.Prelude.{◌≡◌, ℕ, ◌+◌, ◌^◌, ◌<◌, List, length, None}
use Rattle.verilog_tree.specs.declared.tree.Module.{Module}
use Rattle.verilog_tree.specs.Texts.{SpellsText}
use Rattle.verilog_tree.specs.IsTree.{IsTree}
use Rattle.cell_library.specs.declared.listed.ListedCell.{ListedCell}
use Rattle.cell_library.specs.Sound.{IsLibrary}
use Rattle.netlist_arena.specs.Room.{too_many}
use Rattle.netlist_link.specs.Linked.{LinkedView, HidesNone}
use Rattle.netlist_link.specs.Links.{IsLinkOf}
use Rattle.plan_texts.specs.declared.plan.Plan.{Plan}
use Rattle.plan_texts.specs.Grammar.{SpellsPlan}
use Rattle.plan_fitting.specs.declared.fitted.Fitted.{Fitted}
use Rattle.plan_fitting.specs.Devices.{IsFitted, device_of}
use Rattle.bsdl_device.specs.declared.values.Device.{Device}
use Rattle.bsdl_device.specs.IsDevice.{IsDevice}
use Rattle.scan_stitch.specs.written_netlists.Prepared.{room_of, ports_of, prepared}
use Rattle.scan_stitch.specs.Ready.{IsSmall, HasTapNames, AreBitsInRange}

-- The bytes spell one tree, which is linked with this library to this netlist. It hides nothing.
pub record IsNetlistOf (library : List ListedCell) (net : List ℕ) (linked : LinkedView) : Type 0 where
  pub tree : Module
  pub spells : SpellsText net tree
  pub only : (other : Module) → SpellsText net other → other ≡ tree
  pub is : IsTree tree
  pub listed : IsLibrary library
  pub library_is : linked.arena.lists.library ≡ library
  pub links : IsLinkOf tree linked
  pub hides : HidesNone linked

-- own: some tree is linked to the netlist, which hides nothing
pub record IsLinkedTree (linked : LinkedView) : Type 0 where
  pub tree : Module
  pub is : IsTree tree
  pub listed : IsLibrary linked.arena.lists.library
  pub links : IsLinkOf tree linked
  pub hides : HidesNone linked

-- own: present and asked, nothing passes a limit
abbrev pub HasRoomFor : LinkedView → Fitted → Type 0
HasRoomFor linked f = too_many linked.arena.lists (room_of f) (room_of f) (ports_of f) ≡ None

-- own: the plan fits the netlist as this; what is fitted is small, the names of its test access port can be written,
-- and its bits lie within the ports
pub record IsReadyAs (before : LinkedView) (p : Plan) (f : Fitted) : Type 0 where
  pub fits : IsFitted before p f
  pub small : IsSmall f
  pub names : HasTapNames f
  pub bits : AreBitsInRange f
  pub few : length f.ports + 5 < 2 ^ 32

-- own: room and names were made for its test logic too
pub record IsPreparedAs (before : LinkedView) (p : Plan) (f : Fitted) (after : LinkedView) : Type 0 where
  pub ready : IsReadyAs before p f
  pub room : HasRoomFor before f
  pub after_is : after ≡ prepared f before
  pub device : IsDevice (device_of before p ready.fits.seen)

-- own: the bytes spell the plan, which was prepared so, and this is its device
pub record IsFittingAs (text : List ℕ) (before : LinkedView) (p : Plan) (f : Fitted) (d : Device) (after : LinkedView) : Type 0 where
  pub spells : SpellsPlan text p
  pub prepares : IsPreparedAs before p f after
  pub device_is : d ≡ device_of before p prepares.ready.fits.seen
