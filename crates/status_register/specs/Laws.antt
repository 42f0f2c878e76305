-- Of what was fitted a device with registers is made that some text spells.
-- IEEE Std 1149.1-2001: the annex on BSDL, design-specific test data registers.
use Rattle.std.specs.Prelude.{List}
use Rattle.netlist_link.specs.Linked.{LinkedView}
use Rattle.plan_texts.specs.declared.plan.Plan.{Plan}
use Rattle.plan_fitting.specs.Pins.{PinSeen}
use Rattle.plan_fitting.specs.Devices.{device_of}
use Rattle.plan_fitting.specs.FittingPlan.{IsFitting, HasRoom}
use Rattle.bsdl_device.specs.IsExtended.{IsExtended}
use Rattle.status_fitting.specs.declared.fitted.FittedStatus.{FittedStatus}
use Rattle.status_register.specs.Devices.{extended_of}
use Rattle.status_register.specs.Stitch.{AreRegisters}

abbrev pub RegistersMakeDevices : Type 0
RegistersMakeDevices = (L : LinkedView) (p : Plan) (seen : List PinSeen) (s : FittedStatus) → IsFitting L p seen → HasRoom L p → AreRegisters L p s
    → IsExtended (extended_of (device_of L p seen) s)
