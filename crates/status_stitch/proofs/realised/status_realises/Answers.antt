use Rattle.status_stitch.proofs.RealisedLaws.{realises}
use Rattle.status_stitch.proofs.realised.status_realises.Goals as goal

pub returns : goal.returns
returns c = realises
    (record {
      built = c.extension_is_built_in.ensures;
      around = c.built_in_surrounds.ensures;
      by_ports = c.pins_are_by_ports.ensures;
      pins = c.stitched_has_pins.ensures;
      stay = c.driven_wires_stay.ensures;
      found = c.driver_is_found.ensures;
      inside = c.driven_net_follows_no_pin.ensures;
    })
    c.surrounded_status_realises.ensures
