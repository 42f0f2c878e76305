use Rattle.std.proofs.Common.{◌≡◌, ℕ, ◌+◌, List, ap, subst, ◌∙◌}
use Rattle.std.specs.Prelude.{OnOk}
use Rattle.netlist_arena.specs.Room.{too_many}
use Rattle.scan_stitch.specs.written_netlists.Prepared.{room_of, ports_of}
use Rattle.status_fitting.specs.declared.fitted.FittedRegister.{FittedRegister}
use Rattle.status_room.specs.Ready.{status_room}
use Rattle.status_room.specs.Prepared.{prepared_with}
use Rattle.status_room.proofs.Prepared.{IsAnswer}
use Rattle.status_room.proofs.needed_room.prepare_status.Goals as goal

pub returns-clause-answer : goal.returns-clause-answer
returns-clause-answer c =
    let same = c.status_room-more.ensures.room ∙ ap (λ (rs : List FittedRegister). status_room rs) c.as_slice.ensures in
    let less : ℕ = room_of c.args.fitted.now in
    subst (λ (n : ℕ). IsAnswer (too_many c.args.linked.now.arena.lists (less + n) (less + n) (ports_of c.args.fitted.now)) c.prepare_with.result) same c.prepare_with.ensures.answer

pub returns-clause-ok : goal.returns-clause-ok
returns-clause-ok c =
    let same = c.status_room-more.ensures.room ∙ ap (λ (rs : List FittedRegister). status_room rs) c.as_slice.ensures in
    subst (λ (n : ℕ). OnOk c.prepare_with.result (c.prepare_with.new.linked ≡ prepared_with c.args.fitted.now n c.args.linked.now)) same c.prepare_with.ensures.ok
