use Rattle.surrounded_core.proofs.PowerUps.{follows_chip}
use Rattle.surrounded_core.proofs.surrounded_core_follows.Goals as goal

pub returns : goal.returns
returns c =
    follows_chip (record {
      stands = c.surrounded_core_stands.ensures;
      tap = c.tap_follows.ensures;
      state = c.step_is_the_machines.ensures;
      instruction = c.instruction_steps.ensures;
      legible = c.instructions_stay_legible.ensures;
      registers = c.steps_by_register.ensures;
      bypass = c.bypass_follows.ensures;
      ident = c.ident_follows.ensures;
      tdo = c.tdo_follows.ensures;
      rows = c.rows_follow.ensures;
      places = c.rows_step_as_bits.ensures;
      chip = c.chip_rows.ensures;
      lengths = c.lengths_stay.ensures;
      steers = c.selected_steers.ensures;
      starts = c.nested_behind_starts.ensures;
      steps = c.nested_behind_steps.ensures;
      bits = c.bit_of_a_direction.ensures;
    }) c.one_chip_run.ensures
