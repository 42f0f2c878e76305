use Rattle.std.proofs.Common.{length, ◌-◌, ◌≡◌, ◌+◌, ◌≤◌, Some, take}
use Rattle.word_cutter.specs.Run.{run}
use Rattle.word_cutter.proofs.cutter.Cutter.take_all.Given as goal

abbrev pub invariant-loop-done : goal.invariant-loop-done
invariant-loop-done g l = record {
  within : l.done ≤ length l.piece;
  at : l.self.at ≡ l.fn.self.at + l.done;
  ran : run g.M.Machine.step l.fn.self.at (g.M.Machine.state l.fn.self.machine) (take l.done l.piece) ≡ Some (g.M.Machine.state l.self.machine);
  fault : l.self.fault ≡ l.fn.self.fault;
}

abbrev pub decreases-loop-done : goal.decreases-loop-done
decreases-loop-done g l = length l.piece - l.done
