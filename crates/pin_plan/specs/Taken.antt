-- own: what lines take, and what it is searched by.
use Rattle.plan_fitting.specs.Fits as fits
use Rattle.plan_fitting.specs.Fits.{PhysicalPin, PortBit}
use Rattle.pin_plan.specs.declared.keys.TakenKey.{TakenKey}
use Rattle.pin_plan.specs.declared.keys.TakenKey.TheVariants as key
use Rattle.pin_plan.specs.declared.twice.Taken.{Taken}
use Rattle.pin_plan.specs.declared.twice.Taken.TheVariants as taken
use Rattle.pin_plan.specs.Keys.{key_of_bit}

abbrev pub taken_view : Taken → fits.Taken
taken_view (taken.PhysicalPin pin) = PhysicalPin pin.now
taken_view (taken.PortBit bit word) = PortBit bit word.now

abbrev pub key_of_taken : Taken → TakenKey
key_of_taken (taken.PhysicalPin pin) = key.PhysicalPin (record { 0 = pin })
key_of_taken (taken.PortBit bit word) = key.PortBit (key_of_bit bit)
