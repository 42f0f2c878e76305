use Rattle.written_netlists.proofs.TapNames.{tap_names_entered}
use Rattle.written_netlists.proofs.names.tap_names_are_entered.Goals as goal

pub returns : goal.returns
returns c = tap_names_entered
