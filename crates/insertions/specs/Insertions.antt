-- What inserting makes of the bytes of a netlist and of a plan.
-- IEEE Std 1149.1-2001: test logic architecture, the annex on BSDL; IEEE Std 1364-2001 for the netlists; plans and
-- reports are own.
use Rattle.std.specs.Prelude.{◌≡◌, ℕ, List, None}
use Rattle.verilog_tree.specs.declared.tree.Module.{Module}
use Rattle.verilog_tree.specs.Texts.{SpellsText}
use Rattle.verilog_tree.specs.IsTree.{IsTree}
use Rattle.verilog_tree.specs.Canonical.{canonical}
use Rattle.cell_library.specs.declared.listed.ListedCell.{ListedCell}
use Rattle.cell_library.specs.Sound.{IsLibrary}
use Rattle.bsdl_device.specs.declared.values.Device.{Device}
use Rattle.bsdl_device.specs.Spelled.{SpellsText as SpellsDeviceText}
use Rattle.bsdl_device.specs.Canonical.{canonical_device}
use Rattle.netlist_model.specs.Lists.{cell_count}
use Rattle.netlist_model.specs.Formed.{IsLaidOut}
use Rattle.netlist_arena.specs.Arena.{bit_count}
use Rattle.netlist_arena.specs.Room.{too_many}
use Rattle.netlist_link.specs.Linked.{LinkedView, HidesNone}
use Rattle.netlist_link.specs.Links.{IsLinkOf}
use Rattle.netlist_link.specs.ViewLaws.{IsSameView}
use Rattle.netlist_unlink.specs.Trees.{tree_of}
use Rattle.netlist_unlink.specs.Renumbered.{IsWrittenAs}
use Rattle.plan_texts.specs.declared.plan.Plan.{Plan}
use Rattle.plan_texts.specs.Grammar.{SpellsPlan}
use Rattle.plan_fitting.specs.declared.fitted.Fitted.{Fitted}
use Rattle.plan_fitting.specs.Fits.{Fits}
use Rattle.plan_fitting.specs.Devices.{fitted_of, device_of}
use Rattle.wrapped_chip.specs.Realises.{Keeps, Realises, Alone}
use Rattle.wrapped_chip.specs.Legal.{HasControls}
use Rattle.wrapped_chip.specs.Home.{FindsHome, AloneFromHome}
use Rattle.insertion_report.specs.Reports.{report_of}
use Rattle.insertion_inputs.specs.Inputs.{IsNetlistOf, IsFittingAs}
use Rattle.stitched_netlist.specs.declared.model.TapNames.{TapNames}
use Rattle.written_netlists.specs.Prepared.{room_of, ports_of, with_tap_names, AreTapNames}
use Rattle.written_netlists.specs.InsertedLaws.{with_test_logic}
use Rattle.written_netlists.specs.Written.{spelt, tap_of}

-- Texts that are written.

-- own: the text is the canonical one of the module that the netlist is written as
pub record IsNetlistText (linked : LinkedView) (prefix text : List ℕ) : Type 0 where
  pub tree : Module
  pub tree_is : tree ≡ tree_of linked prefix
  pub is : IsTree tree
  pub writes : IsWrittenAs linked prefix tree
  pub text_is : text ≡ canonical tree

-- own: the text is canonical, and spells the device and no other
pub record IsDeviceText (device : Device) (text : List ℕ) : Type 0 where
  pub text_is : text ≡ canonical_device device
  pub spells : SpellsDeviceText text device
  pub only : (other : Device) → SpellsDeviceText text other → other ≡ device

-- The whole.

-- The netlist's bytes spell one tree, which is linked with the library to this netlist, and the plan's bytes spell one
-- plan, which fits it. The written text spells one tree; no fault stands in that tree, which has one netlist with the
-- same library, and that keeps the first one's ports and cells, with the test access port. The BSDL text spells the
-- plan's device alone. The written netlist behaves as the first one wrapped in that device's test logic, and as the
-- first one alone while a transparent instruction is in effect; its control ports are the first one's, TCK and TRST.
-- Five ones on TMS lead it there from whatever its test logic holds. No port of either netlist is hidden.
pub record IsInsertion (library : List ListedCell) (net plan verilog bsdl : List ℕ) : Type 0 where
  pub tree : Module
  pub spells : SpellsText net tree
  pub only : (other : Module) → SpellsText net other → other ≡ tree
  pub linked : LinkedView
  pub listed : IsLibrary library
  pub library_is : linked.arena.lists.library ≡ library
  pub links : IsLinkOf tree linked
  pub hides : HidesNone linked
  pub wanted : Plan
  pub spells_plan : SpellsPlan plan wanted
  pub only_plan : (other : Plan) → SpellsPlan plan other → other ≡ wanted
  pub fits : Fits linked wanted
  pub written_tree : Module
  pub spells_written : SpellsText verilog written_tree
  pub only_written : (other : Module) → SpellsText verilog other → other ≡ written_tree
  pub written : LinkedView
  pub written_library : written.arena.lists.library ≡ library
  pub links_written : IsLinkOf written_tree written
  pub written_hides : HidesNone written
  pub one : (other : LinkedView) → other.arena.lists.library ≡ library → IsLinkOf written_tree other → IsSameView written other
  pub keeps : Keeps written.arena.lists linked.arena.lists (spelt written.names) (spelt linked.names) (tap_of wanted)
  pub spells_device : SpellsDeviceText bsdl (device_of linked wanted fits.seen)
  pub only_device : (other : Device) → SpellsDeviceText bsdl other → other ≡ device_of linked wanted fits.seen
  -- through any legal events every pin of the written netlist reads as the netlist's wrapped in the device's test
  -- logic, and as the netlist's alone while a transparent instruction is in effect
  pub realises : Realises written.arena.lists (device_of linked wanted fits.seen) linked.arena.lists
  pub alone : Alone written.arena.lists (device_of linked wanted fits.seen) linked.arena.lists
  -- and it takes events where the netlist and the test access port do; what clocks, clears or presets in it are the
  -- netlist's own control ports, TCK and TRST
  pub controls : HasControls written.arena.lists linked.arena.lists
  -- and from whatever its test logic holds, each added flip-flop 0 or 1, it finds home, with TRST at any level: once
  -- TCK has risen five times with TMS at 1 and falls, every pin reads as the netlist's wrapped in the device's test
  -- logic, from Test-Logic-Reset on with what the registers then hold, and as the netlist's alone while a transparent
  -- instruction is in effect
  pub finds_home : FindsHome written.arena.lists (device_of linked wanted fits.seen) linked.arena.lists
  pub alone_from_home : AloneFromHome written.arena.lists (device_of linked wanted fits.seen) linked.arena.lists

-- The whole, byte by byte.

-- own: what was fitted
abbrev pub fitted_in : {library : List ListedCell} {net plan verilog bsdl : List ℕ} → IsInsertion library net plan verilog bsdl → Fitted
fitted_in i = fitted_of i.linked i.wanted i.fits.seen

-- The insertion, and its texts byte by byte. The BSDL text is the canonical one of the device, and the report is on that
-- device. The written text tells the gates of the test logic one by one: it is the canonical text of the tree of the
-- netlist with the test logic built in, under the module's own name, where added nets and cells have the plan's prefix.
-- There was room for the test logic. The tree that was read can be written.
pub record IsInsertionText (library : List ListedCell) (net plan verilog bsdl report : List ℕ) : Type 0 where
  pub is : IsInsertion library net plan verilog bsdl
  pub can_be_written : IsTree is.tree
  pub verilog_is : verilog ≡ canonical is.written_tree
  pub bsdl_is : bsdl ≡ canonical_device (device_of is.linked is.wanted is.fits.seen)
  pub report_is : report ≡ report_of (bit_count is.written.arena.lists.ports) (cell_count is.linked.arena.lists) (device_of is.linked is.wanted is.fits.seen)
  pub room : too_many is.linked.arena.lists (room_of (fitted_in is)) (room_of (fitted_in is)) (ports_of (fitted_in is)) ≡ None
  pub names : TapNames
  pub names_are : AreTapNames (with_tap_names (fitted_in is) is.linked.names) (fitted_in is) names
  pub written_is : is.written_tree ≡ tree_of (with_test_logic is.linked names (fitted_in is)) is.wanted.prefix

-- What is stitched.

-- own: the netlist was made ready for what was fitted, as some texts tell
pub record IsReadied (readied : LinkedView) (p : Plan) (f : Fitted) (d : Device) : Type 0 where
  pub library : List ListedCell
  pub net : List ℕ
  pub text : List ℕ
  pub before : LinkedView
  pub netlist : IsNetlistOf library net before
  pub laid : IsLaidOut before.arena.lists
  pub fitting : IsFittingAs text before p f d readied
