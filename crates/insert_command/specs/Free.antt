-- Texts of a netlist and of a plan in which no fault stands; what is told of them all the same is want of memory. Own.
use Rattle.std.specs.Prelude.{◌≡◌, ℕ, List, slice_get, Some, None}
use Rattle.verilog_tree.specs.declared.tree.Module.{Module}
use Rattle.verilog_tree.specs.Texts.{SpellsText}
use Rattle.cell_library.specs.declared.listed.ListedCell.{ListedCell}
use Rattle.link_model.specs.Late.{IsLinkable}
use Rattle.netlist_model.specs.declared.PinBit.{PinBit}
use Rattle.netlist_link.specs.Linked.{LinkedView, HidesNone}
use Rattle.netlist_link.specs.Links.{IsLinkOf}
use Rattle.plan_texts.specs.declared.plan.Plan.{Plan}
use Rattle.plan_texts.specs.declared.plan.PinLine.{PinLine}
use Rattle.plan_texts.specs.Grammar.{SpellsPlan}
use Rattle.plan_fitting.specs.declared.fitted.Fitted.{Fitted}
use Rattle.plan_fitting.specs.Pins.{PinSeen, NamesBit, AreSeen}
use Rattle.plan_fitting.specs.Fits.{fault_with}
use Rattle.plan_fitting.specs.Devices.{IsFitted}
use Rattle.status_insertions.specs.insertion_inputs.Inputs.{HasRoomFor}
use Rattle.status_insertions.specs.insertion_inputs.declared.fault.InsertFault.{InsertFault}
use Rattle.status_insertions.specs.insertion_inputs.Faults.{StandsInTexts}
use Rattle.command_faults.specs.declared.status.Status.TheVariants as status
use Rattle.command_faults.specs.Statuses.{status_of}
use Rattle.command_edges.specs.Lengths.{IsShort}
use Rattle.insert_command.specs.Faults.{fault_of}

-- no fault of fitting stands in the plan, and with its test logic there isn't too much
pub record HasNoFault (linked : LinkedView) (p : Plan) : Type 0 where
  pub named : (place : ℕ) (line : PinLine) → slice_get p.pins place ≡ Some line → (pin : PinBit) × NamesBit linked line.port pin
  pub faultless : (seen : List PinSeen) → AreSeen linked p.pins seen → fault_with linked p seen ≡ None
  pub room : (f : Fitted) → IsFitted linked p f → HasRoomFor linked f

-- no fault stands in the bytes of the netlist, with this library, and of the plan
pub record IsInsertable (library : List ListedCell) (net text : List ℕ) : Type 0 where
  pub short : IsShort net
  pub short_plan : IsShort text
  pub tree : Module
  pub spells : SpellsText net tree
  pub linkable : IsLinkable library tree
  pub plan : Plan
  pub spells_plan : SpellsPlan text plan
  pub free : (linked : LinkedView) → linked.arena.lists.library ≡ library → IsLinkOf tree linked → HidesNone linked → HasNoFault linked plan

-- a fault of such texts is want of memory
abbrev pub FreeTextsWantMemory : Type 0
FreeTextsWantMemory = (library : List ListedCell) (net text : List ℕ) (f : InsertFault) → IsInsertable library net text → StandsInTexts library net text f → status_of (fault_of f) ≡ status.Memory
