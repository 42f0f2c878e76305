use Rattle.std.proofs.Common.{◌≡◌, ℕ, ◌+◌, ◌<◌, ◌≤◌, ap, refl}
use Rattle.netlist_link.specs.declared.straight.Straight.{Straight}
use Rattle.pin_plan.specs.Marks.{marked, nets_at}
use Rattle.pin_plan.proofs.Marks.{next_marked, all_marked}
use Rattle.pin_plan.proofs.hidden.mark_ports.Goals as goal

pub loop-place-preserved : goal.loop-place-preserved
loop-place-preserved c =
    let L = c.args.linked.now in
    let less : c.loop-place.place < L.straight.count = rw c.straight-straight.ensures at c.loop-place-test.true in
    let number : c.straight-straight.result.first + c.loop-place.place ≡ L.straight.first + c.loop-place.place = ap (λ (s : Straight). s.first + c.loop-place.place) c.straight-straight.ensures in
    let grown : c.mark_port.new.marks ≡ marked (nets_at L.arena.lists (c.straight-straight.result.first + c.loop-place.place)) c.loop-place.marks = rw c.netlist-in-loop-place.ensures.netlist at c.mark_port.ensures in
    next_marked L c.loop-place.place (c.straight-straight.result.first + c.loop-place.place) c.args.marks.now c.loop-place.marks c.mark_port.new.marks c.requires.last less number c.loop-place.invariant grown

pub returns : goal.returns
returns c =
    let L = c.args.linked.now in
    let past : L.straight.count ≤ c.loop-place.place = rw c.straight-straight.ensures at c.loop-place-test.false in
    all_marked L c.loop-place.place c.args.marks.now c.loop-place.marks c.requires.last past c.loop-place.invariant
