use Rattle.surrounded_core.proofs.Home.{follows_from_home}
use Rattle.surrounded_core.proofs.surrounded_core_follows_from_home.Goals as goal

pub returns : goal.returns
returns c =
    follows_from_home (record {
      by = record {
        stands = c.surrounded_core_stands.ensures;
        tap = c.tap_follows.ensures;
        state = c.step_is_the_machines.ensures;
        instruction = c.instruction_steps.ensures;
        legible = c.instructions_stay_legible.ensures;
        registers = c.steps_by_register.ensures;
        bypass = c.bypass_follows.ensures;
        ident = c.ident_follows.ensures;
        tdo = c.tdo_follows.ensures;
        rows = c.rows_follow.ensures;
        places = c.rows_step_as_bits.ensures;
        chip = c.chip_rows.ensures;
        lengths = c.lengths_stay.ensures;
        steers = c.selected_steers.ensures;
        starts = c.nested_behind_starts.ensures;
        steps = c.nested_behind_steps.ensures;
        bits = c.bit_of_a_direction.ensures;
      };
      home = c.tap_finds_home.ensures;
      goes = c.outside_goes_on.ensures;
      lets_go = c.tdo_lets_go.ensures;
      constants = c.constants_are_bits.ensures;
    })
