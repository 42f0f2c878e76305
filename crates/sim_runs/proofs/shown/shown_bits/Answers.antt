use Rattle.std.proofs.Common.{◌≡◌, ◌<◌, ◌++◌, ◌∙◌, ap, length, List, arith}
use Rattle.std.specs.List.{slice_get}
use Rattle.netlist_model.specs.declared.NetId.{NetId}
use Rattle.sim_runs.specs.Bits.{shown_at}
use Rattle.sim_runs.proofs.Adds.{shown_next}
use Rattle.sim_runs.proofs.shown.shown_bits.Goals as goal

pub loop-number-preserved : goal.loop-number-preserved
loop-number-preserved c =
    let N = c.args.netlist.now.lists in
    let below : c.loop-number.number < length N.ports = omega (arith, c.loop-number-test.true, c.port_count-number-end.ensures) in
    record {
      pins = c.in_ok-add_port.ensures.pins;
      nets = c.in_ok-add_port.ensures.nets ∙ ap (λ (ns : List NetId). ns ++ shown_at (slice_get N.ports c.loop-number.number)) c.loop-number.invariant.nets ∙ shown_next N.ports c.loop-number.number below;
    }
