use Rattle.plan_fitting.specs.Devices.{fitted_of, device_of}
use Rattle.stitched_netlist.specs.Stitched.{stitched}
use Rattle.stitched_netlist.specs.InsidePlaces.{places_of}
use Rattle.stitched_netlist.proofs.runs.stitched_realises.Goals as goal

pub returns : goal.returns
returns c = λ L p seen names fits laid dense formed pins controls.
    c.surrounded_core_realises.ensures (stitched L.arena.lists names (fitted_of L p seen)) L.arena.lists (device_of L p seen) (places_of L.arena.lists names (fitted_of L p seen))
    (c.stitched_surrounds.ensures L p seen names fits laid dense formed pins) controls
