use Rattle.plan_fitting.specs.Devices.{fitted_of, device_of}
use Rattle.stitched_netlist.specs.Stitched.{stitched}
use Rattle.wrapped_chip.specs.Realises.{chip_tdo}
use Rattle.stitched_netlist.proofs.runs.stitched_is_alone.Goals as goal

pub returns : goal.returns
returns c = λ L p seen names fits laid dense formed pins controls.
    c.realising_is_being_alone.ensures (stitched L.arena.lists names (fitted_of L p seen)) (device_of L p seen) L.arena.lists chip_tdo fits.formed (c.plans_suit_netlists.ensures L p seen fits)
    (c.stitched_realises.ensures L p seen names fits laid dense formed pins controls)
