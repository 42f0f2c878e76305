use Rattle.std.proofs.Common.{◌≡◌, take, drop, flat_map}
use Rattle.pin_plan.specs.Marks.{marked, nets_of}
use Rattle.pin_plan.proofs.hidden.mark_ports.Given as goal

abbrev pub invariant-loop-place : goal.invariant-loop-place
invariant-loop-place l = l.marks ≡ marked (flat_map nets_of (take l.place (drop l.linked.straight.first l.linked.arena.lists.ports))) l.initial.marks
