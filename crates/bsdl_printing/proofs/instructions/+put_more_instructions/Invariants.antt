use Rattle.std.proofs.Common.{length}
use Rattle.bsdl_printing.proofs.instructions.+put_more_instructions.Given as goal

abbrev pub decreases-put_more_instructions : goal.decreases-put_more_instructions
decreases-put_more_instructions l = length l.list.now
