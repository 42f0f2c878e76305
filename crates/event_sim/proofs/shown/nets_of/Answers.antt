use Rattle.std.proofs.Common.{◌≡◌, ◌<◌, ◌++◌, ◌∙◌, ap, length, List, arith}
use Rattle.std.specs.List.{slice_get}
use Rattle.netlist_model.specs.declared.NetId.{NetId}
use Rattle.event_sim.specs.Shown.{shown_at}
use Rattle.event_sim.proofs.ShownBits.{shown_next}
use Rattle.event_sim.proofs.shown.nets_of.Goals as goal

pub loop-number-preserved : goal.loop-number-preserved
loop-number-preserved c =
    let N = c.args.netlist.now.lists in
    let below : c.loop-number.number < length N.ports = omega (arith, c.loop-number-test.true, c.port_count-number-end.ensures) in
    c.in_ok-add_nets.ensures ∙ ap (λ (ns : List NetId). ns ++ shown_at (slice_get N.ports c.loop-number.number)) c.loop-number.invariant ∙ shown_next N.ports c.loop-number.number below
