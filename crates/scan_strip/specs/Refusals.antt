-- What a refusal to link or to fit is told as, and what it forbids. Own.
use Rattle.link_model.specs.declared.fault.LinkFault.{LinkFault}
use Rattle.link_model.specs.declared.fault.LinkFault.TheVariants as link
use Rattle.netlist_link.specs.Linked.{LinkedView}
use Rattle.plan_texts.specs.declared.fault.PlanFault.TheVariants as plan
use Rattle.plan_texts.specs.declared.plan.Plan.{Plan}
use Rattle.plan_texts.specs.Canonical.{IsPlan}
use Rattle.plan_fitting.specs.declared.fault.FitFault.TheVariants as fit
use Rattle.plan_fitting.specs.Devices.{fitted_of}
use Rattle.plan_fitting.specs.Fits.{Fits}
use Rattle.insertion_inputs.specs.declared.fault.InsertFault.{InsertFault}
use Rattle.insertion_inputs.specs.declared.fault.InsertFault.TheVariants as insert
use Rattle.insertion_inputs.specs.Inputs.{HasRoomFor}
use Rattle.scan_strip.specs.declared.fault.StripFault.{StripFault}
use Rattle.scan_strip.specs.declared.fault.StripFault.TheVariants.{NotInserted, OutOfMemory}

abbrev pub of_link : LinkFault → StripFault
of_link link.OutOfMemory = OutOfMemory
of_link fault = NotInserted

abbrev pub of_insert : InsertFault → StripFault
of_insert (insert.Plan plan.OutOfMemory) = OutOfMemory
of_insert (insert.Fit fit.OutOfMemory) = OutOfMemory
of_insert insert.OutOfMemory = OutOfMemory
of_insert fault = NotInserted

-- own: some text spells the plan, which fits the netlist, in which there is room
pub record CanBeFitted (L : LinkedView) (p : Plan) : Type 0 where
  pub plan : IsPlan p
  pub fits : Fits L p
  pub room : HasRoomFor L (fitted_of L p fits.seen)
