use Rattle.std.proofs.Common.{◌≡◌, ℕ, refl}
use Rattle.netlist_model.specs.Runs.{Moment}
use Rattle.netlist_meaning.specs.Sims.{moment_of}
use Rattle.sim_runs.specs.Runs.{IsRunOf}
use Rattle.sim_runs.specs.Outputs.{misses, run_text}
use Rattle.sim_runs.specs.PlayedScript.{IsFirst}
use Rattle.sim_runs.proofs.Starts.{HasRun, has_run}
use Rattle.sim_runs.proofs.script_run.play.Goals as goal

pub returns-in-Ok-played-clause-played : goal.returns-in-Ok-played-clause-played
returns-in-Ok-played-clause-played g c =
    let L = c.args.linked.now in
    let script = c.args.script.now.list in
    let m : Moment = moment_of c.in-Ok.sim.moment in
    let first : IsFirst L.arena.lists script m = rw c.as_slice.ensures at c.in-Ok.ensures.first in
    let has : HasRun L.arena.lists script m = has_run L.arena.lists script m c.netlist-netlist.ensures.linked.formed c.requires.playable first in
    let run : IsRunOf L.arena.lists c.as_slice-4.result.now has.moment = rw c.as_slice-4.ensures has.run in
    let played = rw (c.as_slice-3.ensures, c.as_slice-4.ensures) at (c.in-Ok-played.ensures.ok has.moment run has.same) in
    (run_text L c.args.lines.now.list script has.moment, record { moment = has.moment; run = has.run; text_is = refl; missed_is = played.0 }, played.1)

pub returns-clause-cut_short : goal.returns-clause-cut_short
returns-clause-cut_short g c = λ fault.
    let L = c.args.linked.now in
    let script = c.args.script.now.list in
    let m : Moment = moment_of c.in-Ok.sim.moment in
    let first : IsFirst L.arena.lists script m = rw c.as_slice.ensures at c.in-Ok.ensures.first in
    let has : HasRun L.arena.lists script m = has_run L.arena.lists script m c.netlist-netlist.ensures.linked.formed c.requires.playable first in
    let run : IsRunOf L.arena.lists c.as_slice-4.result.now has.moment = rw c.as_slice-4.ensures has.run in
    let cut = rw (c.as_slice-3.ensures, c.as_slice-4.ensures) at (c.in-Err.ensures.fault has.moment run has.same) in
    (run_text L c.args.lines.now.list script has.moment, misses L has.moment 0 script, cut.0, record { moment = has.moment; run = has.run; text_is = refl; missed_is = refl }, cut.1)
