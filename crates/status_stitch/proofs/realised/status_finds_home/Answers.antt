use Rattle.status_stitch.proofs.RealisedLaws.{finds_home}
use Rattle.status_stitch.proofs.realised.status_finds_home.Goals as goal

pub returns : goal.returns
returns c = finds_home
    (record {
      built = record {
        built = c.extension_is_built_in.ensures;
        around = c.built_in_surrounds.ensures;
        by_ports = c.pins_are_by_ports.ensures;
        pins = c.stitched_has_pins.ensures;
        stay = c.driven_wires_stay.ensures;
        found = c.driver_is_found.ensures;
        inside = c.driven_net_follows_no_pin.ensures;
      };
      added = c.stitched_logic_is_added.ensures;
      holds = c.stitched_holds_the_core.ensures;
      law = c.surrounded_status_finds_home.ensures;
    })
