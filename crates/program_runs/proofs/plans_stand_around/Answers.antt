use Rattle.program_runs.proofs.Plans.{plans_stand_around}
use Rattle.program_runs.proofs.plans_stand_around.Goals as goal

pub returns : goal.returns
returns c = plans_stand_around c.devices_have_ports.ensures c.rows_stand_at_bits.ensures c.hidden_bits_have_none.ensures c.controls_follow_their_rows.ensures c.tap_names_are_new.ensures
