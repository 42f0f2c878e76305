use Rattle.std.proofs.Common.{◌≡◌, ◌-◌, length}
use Rattle.status_fitting.proofs.Few.{Left}
use Rattle.status_fitting.proofs.register_texts.reader.take_registers.Given as goal

abbrev pub invariant-loop-alloc : goal.invariant-loop-alloc
invariant-loop-alloc l = record {
  few : Left l.list l.reader.rows l.fn.reader.rows;
  end : l.reader.end ≡ l.fn.reader.end;
}

abbrev pub decreases-loop-alloc : goal.decreases-loop-alloc
decreases-loop-alloc l = 16 - length l.list
