use Rattle.plan_fitting.specs.Devices.{fitted_of}
use Rattle.stitched_netlist.proofs.runs.fitting_plans_are_alone.Goals as goal

pub returns : goal.returns
returns c = λ L p seen names fits laid dense.
    c.stitched_is_alone.ensures L p seen names fits laid dense (c.stitched_is_formed.ensures L p seen names fits laid dense)
    (c.stitched_has_pins.ensures L.arena.lists names (fitted_of L p seen) laid) (c.stitched_has_controls.ensures L p seen names fits laid dense)
