use Rattle.std.proofs.Common.{length}
use Rattle.bsdl_printing.proofs.instructions.+put_instructions.Given as goal

abbrev pub decreases-put_instructions : goal.decreases-put_instructions
decreases-put_instructions l = length l.list.now
