use Rattle.status_room.proofs.Untaken.{are_untaken}
use Rattle.status_room.proofs.ready.fitted_registers_are_untaken.Goals as goal

pub returns : goal.returns
returns c = are_untaken
