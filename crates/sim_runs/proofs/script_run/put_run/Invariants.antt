use Rattle.std.proofs.Common.{◌≡◌, ◌≤◌, ℕ, true}
use Rattle.netlist_model.specs.Runs.{Moment}
use Rattle.netlist_model.specs.LawsRuns.{SameMoment}
use Rattle.netlist_meaning.specs.Sims.{moment_of}
use Rattle.sim_runs.specs.Bits.{told_at, told_of}
use Rattle.sim_runs.specs.Runs.{IsRunOf}
use Rattle.sim_runs.proofs.Steps.{IsPlayed}
use Rattle.sim_runs.proofs.script_run.put_run.Given as goal

abbrev pub invariant-loop-place : goal.invariant-loop-place
invariant-loop-place g l = record {
  linked : l.sim.linked ≡ l.linked;
  started : l.sim.started ≡ true;
  told : l.told ≡ told_of (told_at l.linked.arena.lists (moment_of l.sim.moment)) l.bits;
  played : (moment : ℕ → Moment) → IsRunOf l.linked.arena.lists l.script moment → SameMoment l.linked.arena.lists (moment_of l.fn.sim.moment) (moment 0)
      → IsPlayed l.linked l.lines l.script moment l.place l.sets l.missed (moment_of l.sim.moment) (g.O.Sink.given l.fn.out) (g.O.Sink.given l.out);
  sets_few : l.sets ≤ l.place;
  missed_few : l.missed ≤ l.place;
  later : g.O.Sink.faults l.fn.out ≤ g.O.Sink.faults l.out;
}
