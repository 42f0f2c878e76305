use Rattle.std.proofs.Common.{◌≡◌, ◌≤◌, ◌++◌, ℕ, take, drop}
use Rattle.std.specs.List.{flat_map}
use Rattle.std.specs.Prelude.{Option}
use Rattle.edge_io.specs.Shelf.{appended}
use Rattle.signal_values.specs.declared.PinSig.{PinSig}
use Rattle.netlist_meaning.specs.Sims.{moment_of}
use Rattle.sim_runs.specs.Bits.{bit_line, told_at, told_of}
use Rattle.sim_runs.proofs.readings.put_readings.Given as goal

abbrev pub invariant-loop-place : goal.invariant-loop-place
invariant-loop-place g l = record {
  given : (last : ℕ → Option PinSig) → l.fn.told ≡ told_of last l.bits
      → g.O.Sink.given l.out ≡ appended (flat_map (bit_line l.linked last (moment_of l.sim.moment)) (take l.place l.bits)) (g.O.Sink.given l.fn.out);
  told : l.told ≡ told_of (told_at l.linked.arena.lists (moment_of l.sim.moment)) (take l.place l.bits) ++ drop l.place l.fn.told;
  later : g.O.Sink.faults l.fn.out ≤ g.O.Sink.faults l.out;
}
