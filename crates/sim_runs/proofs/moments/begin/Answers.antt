use Rattle.std.proofs.Common.{◌≡◌, ◌∙◌, ap, List}
use Rattle.signal_values.specs.declared.PinSig.{PinSig}
use Rattle.netlist_model.specs.Runs.{IsStart}
use Rattle.netlist_settling.specs.Values.{pin_at}
use Rattle.netlist_meaning.specs.States.{held}
use Rattle.netlist_meaning.specs.Sims.{moment_of}
use Rattle.sim_runs.specs.Runs.{net_number}
use Rattle.sim_runs.proofs.Starts.{first_is}
use Rattle.sim_runs.proofs.moments.begin.Goals as goal

pub returns-in-Ok-clause-first : goal.returns-in-Ok-clause-first
returns-in-Ok-clause-first c =
    let N = c.args.linked.now.arena.lists in
    let start : IsStart N (held c.in_ok-state.state) (moment_of c.start.new.self.moment) = rw c.in-Ok.ensures.linked at c.start.ensures.start in
    record {
      start = first_is N (held c.in_ok-state.state) (moment_of c.start.new.self.moment) c.in_ok-state.ensures.first start;
      starts = λ place line at begins. ap (λ (pins : List PinSig). pin_at pins (net_number N line.pin)) c.start.ensures.pins ∙ c.in_ok-pins.ensures.starts place line at begins;
    }
