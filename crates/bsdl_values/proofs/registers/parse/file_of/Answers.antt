use Rattle.std.proofs.Common.{arith}
use Rattle.bsdl_values.proofs.RegistersFaults.{file_refused, as_many_words}
use Rattle.bsdl_values.proofs.registers.parse.file_of.Goals as goal

pub returns-in-Err-clause-fault : goal.returns-in-Err-clause-fault
returns-in-Err-clause-fault c = rw c.file_fault.ensures (file_refused c.in-Err.fault c.args.words.now c.in-Err.ensures.refused)

pub returns-in-Ok-clause-few : goal.returns-in-Ok-clause-few
returns-in-Ok-clause-few c = omega (arith, as_many_words c.args.words.now.list c.in-Ok.file c.in-Ok.ensures.spelled, c.len-count.ensures, c.if-prove.false)
