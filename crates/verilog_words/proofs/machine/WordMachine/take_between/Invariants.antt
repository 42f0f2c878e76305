use Rattle.std.proofs.Common.{◌≡◌, ◌-◌, ◌≤◌, Some, take, length}
use Rattle.word_cutter.specs.Run.{run}
use Rattle.verilog_words.specs.declared.mode.Mode.TheVariants as in_
use Rattle.verilog_words.specs.Machine.{step}
use Rattle.verilog_words.specs.Steps.{state_of}
use Rattle.verilog_words.proofs.machine.WordMachine.take_between.Given as goal

abbrev pub invariant-loop-done : goal.invariant-loop-done
invariant-loop-done l = record {
  within : l.done ≤ length l.piece;
  ran : run step l.at (state_of l.fn.self) (take l.done l.piece) ≡ Some (state_of l.self);
  begun : l.done ≡ 0 → l.self.mode ≡ in_.Between;
}

abbrev pub decreases-loop-done : goal.decreases-loop-done
decreases-loop-done l = length l.piece - l.done
