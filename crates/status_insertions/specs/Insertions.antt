-- What inserting makes of the bytes of a netlist, of a plan and of registers of the design's own.
-- IEEE Std 1149.1-2001: test logic architecture, design-specific test data registers, the annex on BSDL; IEEE Std
-- 1364-2001 for the netlists; plans, registers' texts and reports are own.
use Rattle.std.specs.Prelude.{◌≡◌, ℕ, List}
use Rattle.verilog_tree.specs.declared.tree.Module.{Module}
use Rattle.verilog_tree.specs.Texts.{SpellsText}
use Rattle.verilog_tree.specs.IsTree.{IsTree}
use Rattle.verilog_tree.specs.Canonical.{canonical}
use Rattle.cell_library.specs.declared.listed.ListedCell.{ListedCell}
use Rattle.cell_library.specs.Sound.{IsLibrary}
use Rattle.bsdl_device.specs.declared.registers.values.Extended.{Extended}
use Rattle.bsdl_device.specs.RegistersSpelled.{SpellsExtendedText}
use Rattle.bsdl_device.specs.RegistersCanonical.{canonical_extended}
use Rattle.netlist_model.specs.Lists.{cell_count}
use Rattle.netlist_model.specs.Formed.{IsLaidOut}
use Rattle.netlist_arena.specs.Arena.{bit_count}
use Rattle.netlist_link.specs.Linked.{LinkedView}
use Rattle.netlist_link.specs.Links.{IsLinkOf}
use Rattle.netlist_link.specs.ViewLaws.{IsSameView}
use Rattle.plan_texts.specs.declared.plan.Plan.{Plan}
use Rattle.plan_texts.specs.Grammar.{SpellsPlan}
use Rattle.plan_fitting.specs.declared.fitted.Fitted.{Fitted}
use Rattle.plan_fitting.specs.Fits.{Fits}
use Rattle.plan_fitting.specs.Devices.{fitted_of, device_of}
use Rattle.wrapped_chip.specs.Realises.{Keeps, Alone}
use Rattle.wrapped_chip.specs.Legal.{HasControls}
use Rattle.written_netlists.specs.Written.{spelt, tap_of}
use Rattle.status_fitting.specs.declared.register_texts.plan.StatusPlan.{StatusPlan}
use Rattle.status_fitting.specs.Grammar.{SpellsStatus}
use Rattle.status_fitting.specs.declared.fitted.FittedStatus.{FittedStatus}
use Rattle.status_fitting.specs.Faults.{HasNoFault}
use Rattle.status_fitting.specs.Fitted.{IsFitted as AreFitted}
use Rattle.status_inputs.specs.status_register.Devices.{extended_of}
use Rattle.status_inputs.specs.status_register.Stitch.{HasRoomFor}
use Rattle.status_gates.specs.Realises.{RealisesStatus, FindsHomeWithRegisters, AloneFromHomeWithRegisters}
use Rattle.insertions.specs.insertion_inputs.Inputs.{IsNetlistOf}
use Rattle.status_inputs.specs.Inputs.{IsFittingAs}
use Rattle.status_insertions.specs.Reports.{extended_report}

-- own: the text is canonical, and spells the device with these registers and no other
pub record IsExtendedText (extended : Extended) (text : List ℕ) : Type 0 where
  pub text_is : text ≡ canonical_extended extended
  pub spells : SpellsExtendedText text extended
  pub only : (other : Extended) → SpellsExtendedText text other → other ≡ extended

-- The whole. As of an insertion without registers: the netlist's bytes spell one tree, which is linked with the library
-- to this netlist, and the plan's bytes spell one plan, which fits it. The registers' bytes spell registers, which fit
-- both, and these are the wires that they capture. There was room for the test logic and the registers. The written
-- text is the canonical text of a tree, which it spells alone; no fault stands in that tree, which has one netlist with
-- the same library, and that keeps the first one's ports and cells, with the test access port. The BSDL text is the
-- canonical text of the plan's device with these registers, which it spells alone. The report is on that device.
pub record IsStatusInsertion (library : List ListedCell) (net plan lines verilog bsdl report : List ℕ) : Type 0 where
  pub tree : Module
  pub spells : SpellsText net tree
  pub only : (other : Module) → SpellsText net other → other ≡ tree
  pub is : IsTree tree
  pub linked : LinkedView
  pub listed : IsLibrary library
  pub library_is : linked.arena.lists.library ≡ library
  pub links : IsLinkOf tree linked
  pub wanted : Plan
  pub spells_plan : SpellsPlan plan wanted
  pub only_plan : (other : Plan) → SpellsPlan plan other → other ≡ wanted
  pub fits : Fits linked wanted
  pub asked : StatusPlan
  pub spells_registers : SpellsStatus lines asked
  pub only_registers : (other : StatusPlan) → SpellsStatus lines other → other ≡ asked
  pub faultless : HasNoFault linked wanted asked
  pub registers : FittedStatus
  pub registers_fit : AreFitted linked asked registers
  pub room : HasRoomFor linked (fitted_of linked wanted fits.seen) registers
  pub written_tree : Module
  pub verilog_is : verilog ≡ canonical written_tree
  pub spells_written : SpellsText verilog written_tree
  pub only_written : (other : Module) → SpellsText verilog other → other ≡ written_tree
  pub written : LinkedView
  pub written_library : written.arena.lists.library ≡ library
  pub links_written : IsLinkOf written_tree written
  pub one : (other : LinkedView) → other.arena.lists.library ≡ library → IsLinkOf written_tree other → IsSameView written other
  pub keeps : Keeps written.arena.lists linked.arena.lists (spelt written.names) (spelt linked.names) (tap_of wanted)
  pub device : IsExtendedText (extended_of (device_of linked wanted fits.seen) registers) bsdl
  pub report_is : report ≡ extended_report (bit_count written.arena.lists.ports) (cell_count linked.arena.lists) (extended_of (device_of linked wanted fits.seen) registers)
  -- from any power-up, through any legal events, every output and inout bit of the written netlist reads as the
  -- netlist's wrapped in the base device's test logic, and TDO as that of the test logic with the registers: while a
  -- register's opcode is latched, Capture-DR gives its list the core's values of its wires from before the event,
  -- Shift-DR shifts it, and a falling edge in Shift-DR gives TDO its bit nearest TDO; and the core's flip-flops hold
  -- the core's values
  pub realises : RealisesStatus written.arena.lists (device_of linked wanted fits.seen) linked.arena.lists registers.registers
  -- and as the netlist's alone while the instruction in effect is transparent, where that of a register counts as
  -- BYPASS
  pub alone : Alone written.arena.lists (device_of linked wanted fits.seen) linked.arena.lists
  -- and it takes events where the netlist and the test access port do; what clocks, clears or presets in it are the
  -- netlist's own control ports, TCK and TRST
  pub controls : HasControls written.arena.lists linked.arena.lists
  -- and from whatever its test logic and the registers hold, each added flip-flop 0 or 1, it finds home, with TRST at
  -- any level: once TCK has risen five times with TMS at 1 and falls, every output and inout bit reads as the netlist's
  -- wrapped in the base device's test logic, from Test-Logic-Reset on with what its registers then hold, and TDO as
  -- that of the test logic with the registers, from what their lists then hold; and as the netlist's alone while the
  -- instruction in effect is transparent, where that of a register counts as BYPASS
  pub finds_home : FindsHomeWithRegisters written.arena.lists (device_of linked wanted fits.seen) linked.arena.lists registers.registers
  pub alone_from_home : AloneFromHomeWithRegisters written.arena.lists (device_of linked wanted fits.seen) linked.arena.lists registers.registers

-- What is stitched.

-- own: the netlist was made ready for what was fitted, as some texts tell
pub record IsReadied (readied : LinkedView) (p : Plan) (f : Fitted) (s : FittedStatus) (e : Extended) : Type 0 where
  pub library : List ListedCell
  pub net : List ℕ
  pub text : List ℕ
  pub lines : List ℕ
  pub before : LinkedView
  pub netlist : IsNetlistOf library net before
  pub laid : IsLaidOut before.arena.lists
  pub fitting : IsFittingAs text lines before p f s e readied
