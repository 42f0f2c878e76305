-- What an insertion with registers of the design's own reads beside the netlist: the plan that bytes spell, as it fits
-- the netlist, and the registers that bytes spell, as they fit both.
-- Own.
use Rattle.std.specs.Prelude.{◌≡◌, ℕ, List}
use Rattle.netlist_link.specs.Linked.{LinkedView}
use Rattle.plan_texts.specs.declared.plan.Plan.{Plan}
use Rattle.plan_texts.specs.Grammar.{SpellsPlan}
use Rattle.plan_fitting.specs.declared.fitted.Fitted.{Fitted}
use Rattle.plan_fitting.specs.Devices.{device_of, device_of_fitted}
use Rattle.bsdl_device.specs.declared.registers.values.Extended.{Extended}
use Rattle.bsdl_device.specs.IsExtended.{IsExtended}
use Rattle.insertion_inputs.specs.Inputs.{IsReadyAs}
use Rattle.status_fitting.specs.declared.register_texts.plan.StatusPlan.{StatusPlan}
use Rattle.status_fitting.specs.Grammar.{SpellsStatus}
use Rattle.status_fitting.specs.declared.fitted.FittedStatus.{FittedStatus}
use Rattle.status_fitting.specs.Faults.{HasNoFault}
use Rattle.status_fitting.specs.Fitted.{IsFitted as AreFitted}
use Rattle.status_register.specs.Devices.{extended_of}
use Rattle.status_register.specs.status_room.Prepared.{prepared_status}
use Rattle.status_register.specs.Stitch.{AreRegisters, HasRoomFor}

-- the bytes spell the plan, which fits the netlist as this
pub record IsPlanned (text : List ℕ) (linked : LinkedView) (p : Plan) (f : Fitted) : Type 0 where
  pub spells : SpellsPlan text p
  pub ready : IsReadyAs linked p f

-- the bytes spell registers, which fit the plan and the netlist as these
pub record SpellsRegisters (text : List ℕ) (linked : LinkedView) (p : Plan) (s : FittedStatus) : Type 0 where
  pub asked : StatusPlan
  pub spells : SpellsStatus text asked
  pub faultless : HasNoFault linked p asked
  pub fitted : AreFitted linked asked s

-- own: room and names were made for both
pub record IsPreparedAs (before : LinkedView) (p : Plan) (f : Fitted) (s : FittedStatus) (after : LinkedView) : Type 0 where
  pub ready : IsReadyAs before p f
  pub registers : AreRegisters before p s
  pub room : HasRoomFor before f s
  pub after_is : after ≡ prepared_status f s.registers before
  pub device : IsExtended (extended_of (device_of before p ready.fits.seen) s)

-- own: the bytes spell the plan and the registers, which were prepared so, and this is the device with these registers
pub record IsFittingAs (text lines : List ℕ) (before : LinkedView) (p : Plan) (f : Fitted) (s : FittedStatus) (e : Extended) (after : LinkedView) : Type 0 where
  pub spells : SpellsPlan text p
  pub registers : SpellsRegisters lines before p s
  pub prepares : IsPreparedAs before p f s after
  pub extended_is : e ≡ extended_of (device_of_fitted f) s
