use Rattle.std.proofs.Common.{◌≤◌, length}
use Rattle.bsdl_contents.specs.Reader.{list_at}
use Rattle.bsdl_contents.specs.EntriesReader.{entry_at}
use Rattle.bsdl_contents.proofs.ListLoops.{Continues}
use Rattle.bsdl_contents.proofs.entries.entries.list.Given as goal

abbrev pub invariant-loop-alloc : goal.invariant-loop-alloc
invariant-loop-alloc l = record {
  read : Continues entry_at l.list l.reader (list_at entry_at l.fn.reader);
  within : length l.reader ≤ length l.fn.reader;
}

abbrev pub decreases-loop-alloc : goal.decreases-loop-alloc
decreases-loop-alloc l = length l.reader
