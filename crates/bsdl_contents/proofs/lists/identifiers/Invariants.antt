use Rattle.std.proofs.Common.{◌≤◌, length}
use Rattle.bsdl_contents.specs.Reader.{list_at, identifier_at}
use Rattle.bsdl_contents.proofs.ListLoops.{Continues}
use Rattle.bsdl_contents.proofs.lists.identifiers.Given as goal

abbrev pub invariant-loop-alloc : goal.invariant-loop-alloc
invariant-loop-alloc l = record {
  read : Continues identifier_at l.list l.reader (list_at identifier_at l.fn.reader);
  within : length l.reader ≤ length l.fn.reader;
}

abbrev pub decreases-loop-alloc : goal.decreases-loop-alloc
decreases-loop-alloc l = length l.reader
