use Rattle.std.proofs.Common.{[], take}
use Rattle.std.specs.List.{enumerate_from, flat_map}
use Rattle.default_starts.specs.Starts.{inputs_of}
use Rattle.default_starts.specs.Found.{AddsStarts}
use Rattle.default_starts.proofs.starts.default_starts.Given as goal

abbrev pub invariant-loop-number : goal.invariant-loop-number
invariant-loop-number l = AddsStarts l.linked l.flags.items (flat_map (inputs_of l.linked) (enumerate_from 0 (take l.number l.linked.arena.lists.ports))) [] l.starts
