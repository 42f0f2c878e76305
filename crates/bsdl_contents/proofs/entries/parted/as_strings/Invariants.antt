use Rattle.std.proofs.Common.{◌≡◌, ◌≤◌, ◌-◌, length}
use Rattle.bsdl_device.specs.Shape.{joined}
use Rattle.bsdl_contents.proofs.entries.parted.as_strings.Given as goal

abbrev pub invariant-loop-alloc : goal.invariant-loop-alloc
invariant-loop-alloc l = record {
  joined : joined l.strings ≡ l.bytes;
  many : length l.strings ≤ l.count;
}

abbrev pub decreases-loop-alloc : goal.decreases-loop-alloc
decreases-loop-alloc l = l.count - length l.strings
