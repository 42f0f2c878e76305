use Rattle.plan_fitting.specs.Devices.{fitted_of, device_of}
use Rattle.stitched_netlist.specs.Stitched.{stitched}
use Rattle.stitched_netlist.specs.InsidePlaces.{places_of}
use Rattle.stitched_netlist.proofs.Home.{controller_added}
use Rattle.stitched_netlist.proofs.runs.fitting_plans_find_home.Goals as goal

pub returns : goal.returns
returns c = λ L p seen names fits laid dense.
    c.surrounded_core_finds_home.ensures (stitched L.arena.lists names (fitted_of L p seen)) L.arena.lists (device_of L p seen) (places_of L.arena.lists names (fitted_of L p seen))
    (c.stitched_surrounds.ensures L p seen names fits laid dense (c.stitched_is_formed.ensures L p seen names fits laid dense)
    (c.stitched_has_pins.ensures L.arena.lists names (fitted_of L p seen) laid))
    (controller_added c.stitched_logic_is_added.ensures L p seen names fits laid dense)
