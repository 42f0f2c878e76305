use Rattle.stitched_netlist.proofs.InsideWhole.{surrounds}
use Rattle.stitched_netlist.proofs.inside.built_in_surrounds.Goals as goal

pub returns : goal.returns
returns c =
    surrounds (record {
      fit = record {
        has = c.direction_of_a_bit.ensures;
        back = c.bit_of_a_direction.ensures;
        found = c.driver_is_found.ensures;
        drives = c.found_driver_drives.ensures;
        there = c.control_cells_are_there.ensures;
        take = c.rows_take_the_core.ensures;
        levels = c.controls_take_the_core.ensures;
        follow = c.controls_follow_their_rows.ensures;
        stand = c.rows_stand_at_bits.ensures;
        bits = c.bits_have_rows.ensures;
        hidden = c.hidden_bits_have_none.ensures;
      };
      nests = c.built_in_nests.ensures;
      suits = c.plans_suit_netlists.ensures;
      contained = c.contained_parts.ensures;
      rules = c.opcodes_keep_the_rules.ensures;
      codes = c.codes_are_the_devices.ensures;
      registers = c.registers_fit.ensures;
    })
