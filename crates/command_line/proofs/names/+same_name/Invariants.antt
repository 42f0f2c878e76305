use Rattle.std.proofs.Common.{length}
use Rattle.command_line.proofs.names.+same_name.Given as goal

abbrev pub decreases-same_name : goal.decreases-same_name
decreases-same_name l = length l.writes.now
