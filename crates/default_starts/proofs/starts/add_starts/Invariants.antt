use Rattle.std.proofs.Common.{[], take}
use Rattle.std.specs.Prelude.{slice_get}
use Rattle.std.specs.Option.{option_map_or}
use Rattle.default_starts.specs.Starts.{bits_of}
use Rattle.default_starts.specs.Found.{AddsStarts}
use Rattle.default_starts.proofs.starts.add_starts.Given as goal

abbrev pub invariant-loop-bit : goal.invariant-loop-bit
invariant-loop-bit l = AddsStarts l.linked l.flags (take l.bit (option_map_or (bits_of l.linked l.port.0) (slice_get l.linked.arena.lists.ports l.port.0) [])) l.fn.starts l.starts
