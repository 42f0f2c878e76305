use Rattle.std.proofs.Common.{ℕ, ◌+◌, ap, ◌∙◌, arith}
use Rattle.netlist_link.specs.Linked.{LinkedView}
use Rattle.scan_stitch.specs.written_netlists.Prepared.{room_of, ports_of}
use Rattle.status_room.proofs.Prepared.{prepared_is, answer_is, ok_is}
use Rattle.status_room.proofs.needed_room.prepare_with.Goals as goal

pub returns-clause-answer : goal.returns-clause-answer
returns-clause-answer c =
    let less : ℕ = room_of c.args.fitted.now in
    let all = ap (λ (p : ℕ × ℕ). p.0 + c.args.more) c.room-cells.ensures in
    answer_is c.args.linked.now.arena.lists c.reserve.new.self.arena.lists less (less + c.args.more) (c.room-cells.result.0 + c.args.more) (ports_of c.args.fitted.now) c.ports_beside.result _ c.prepare.result
    (ap (λ (K : LinkedView). K.arena.lists) c.in_ok-reserve.ensures.ok) all c.ports_beside.ensures (omega arith) c.in_ok-reserve.ensures.answer c.prepare.ensures.answer

pub returns-clause-ok : goal.returns-clause-ok
returns-clause-ok c =
    let all = ap (λ (p : ℕ × ℕ). p.0 + c.args.more) c.room-cells.ensures in
    ok_is c.prepare.result _ _
    (λ is. prepared_is c.args.fitted.now c.args.more (c.room-cells.result.0 + c.args.more) c.ports_beside.result c.args.linked.now c.reserve.new.self c.prepare.new.linked all c.ports_beside.ensures
    c.in_ok-reserve.ensures.ok is)
    c.prepare.ensures.ok

pub returns-clause-lists : goal.returns-clause-lists
returns-clause-lists c = c.prepare.ensures.lists ∙ ap (λ (K : LinkedView). K.arena.lists) c.in_ok-reserve.ensures.ok

pub returns-clause-module_name : goal.returns-clause-module_name
returns-clause-module_name c = c.prepare.ensures.module_name ∙ ap (λ (K : LinkedView). K.module_name) c.in_ok-reserve.ensures.ok
