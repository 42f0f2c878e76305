use Rattle.status_stitch.proofs.Status.{has_status}
use Rattle.status_stitch.proofs.built.built_has_status.Goals as goal

pub returns : goal.returns
returns c = has_status
    (record {
      made = record {
        built = c.extension_is_built_in.ensures;
        around = c.built_in_surrounds.ensures;
        by_ports = c.pins_are_by_ports.ensures;
        pins = c.stitched_has_pins.ensures;
        stay = c.driven_wires_stay.ensures;
        found = c.driver_is_found.ensures;
        inside = c.driven_net_follows_no_pin.ensures;
      };
      formed = c.stitched_is_formed.ensures;
      controls = c.stitched_has_controls.ensures;
      holds = c.stitched_holds_its_parts.ensures;
      parts = c.contained_parts.ensures;
      flops = c.contained_part_has_flops.ensures;
      clocked = c.registers_are_clocked.ensures;
      behind = c.registers_drive_behind.ensures;
      grown = c.grown_has_controls.ensures;
    })
