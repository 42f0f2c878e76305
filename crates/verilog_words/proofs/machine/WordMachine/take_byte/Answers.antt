use Rattle.std.proofs.Common.{arith, ◌∙◌}
use Rattle.word_cutter.proofs.Runs.{run_one, refusal_one}
use Rattle.verilog_words.specs.Machine.{step}
use Rattle.verilog_words.specs.Steps.{state_of}
use Rattle.verilog_words.proofs.machine.WordMachine.take_byte.Goals as goal

pub returns-in-Err : goal.returns-in-Err
returns-in-Err c = refusal_one step c.args.piece.now c.args.at (state_of c.args.self.now) c.in-Err.e c.requires c.in-Err.ensures

pub returns : goal.returns
returns c = (omega arith, omega arith, run_one step c.args.piece.now c.args.at (state_of c.args.self.now) c.requires ∙ c.in_default.ensures)
