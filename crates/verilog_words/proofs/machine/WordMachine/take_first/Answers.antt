use Rattle.std.proofs.Common.{arith, get_or, sym, subst, ◌∙◌}
use Rattle.word_cutter.specs.Run.{IsStepFault}
use Rattle.word_cutter.proofs.Runs.{run_one, refusal_one}
use Rattle.verilog_words.specs.Machine.{step}
use Rattle.verilog_words.specs.Steps.{state_of}
use Rattle.verilog_words.proofs.Taken.{between_steps}
use Rattle.verilog_words.proofs.machine.WordMachine.take_first.Goals as goal

pub returns-in-Err : goal.returns-in-Err
returns-in-Err c =
    let piece = c.args.piece.now in
    let old = c.args.self.now in
    let at = c.args.at in
    refusal_one step piece at (state_of old) c.in-Err.e c.requires.some
    (subst (IsStepFault c.in-Err.e at) (sym (between_steps old at (get_or piece 0 0) c.requires.between)) c.in-Err.ensures)

pub returns : goal.returns
returns c =
    let piece = c.args.piece.now in
    let old = c.args.self.now in
    let at = c.args.at in
    (omega arith, omega arith, run_one step piece at (state_of old) c.requires.some ∙ between_steps old at (get_or piece 0 0) c.requires.between ∙ c.in_default.ensures)
