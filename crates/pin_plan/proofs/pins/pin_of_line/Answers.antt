use Rattle.std.proofs.Common.{refl}
use Rattle.netlist_model.specs.Formed.{IsLaidOut}
use Rattle.plan_fitting.specs.Pins.{NamesBit}
use Rattle.pin_plan.proofs.Kept.{named_there}
use Rattle.pin_plan.proofs.pins.pin_of_line.Goals as goal

pub pin_at-requires-clause-there : goal.pin_at-requires-clause-there
pin_at-requires-clause-there c =
    let N = c.args.linked.now.arena.lists in
    let laid : IsLaidOut N = rw c.netlist.ensures.netlist at c.is_laid_out.ensures.laid_out in
    named_there c.args.linked.now.names N _ c.in-Some.pin laid ((c.in-Some.ensures c.in-Some.pin).0 refl).0

pub returns-in-Some-clause-pin : goal.returns-in-Some-clause-pin
returns-in-Some-clause-pin c =
    let named : NamesBit c.args.linked.now c.args.line.now.port c.in-Some.pin = rw c.as_bytes.ensures at (c.in-Some.ensures c.in-Some.pin).0 refl in
    c.pin_at.ensures c.args.line.now.port named
