use Rattle.std.proofs.Common.{◌≡◌, ◌∙◌, ap, ℕ, List, Option, take}
use Rattle.edge_io.specs.Shelf.{appended}
use Rattle.netlist_model.specs.Runs.{Moment}
use Rattle.netlist_meaning.specs.Sims.{moment_of}
use Rattle.output_lines.proofs.Pieces.{appended-twice}
use Rattle.sim_runs.specs.Bits.{IsToldBefore}
use Rattle.sim_runs.specs.Outputs.{mark_text, changed_readings}
use Rattle.sim_runs.proofs.Texts.{front_one, front_two, changed_text}
use Rattle.sim_runs.proofs.Changes.{noted_bits}
use Rattle.sim_runs.proofs.script_run.play_set.Goals as goal

pub returns-in_default-clause-fault : goal.returns-in_default-clause-fault
returns-in_default-clause-fault g c =
    let fault = c.in_default.ensures.fault in
    let before : Moment = moment_of c.args.sim.now.moment in
    let after : Moment = moment_of c.apply.new.self.moment in
    front_one (mark_text c.args.line.now.number) (changed_readings c.args.linked.now before after) (g.O.Sink.given c.args.out.now) (g.O.Sink.given c.put_mark.new.out) fault.0 fault.1

pub returns-in_default-put_changes-clause-fault : goal.returns-in_default-put_changes-clause-fault
returns-in_default-put_changes-clause-fault g c =
    let before : Moment = moment_of c.args.sim.now.moment in
    let after : Moment = moment_of c.apply.new.self.moment in
    let was : IsToldBefore c.args.linked.now.arena.lists before after c.args.bits.now c.args.told.now c.apply.new.self.changed
    = record { told_is = c.requires.told; noted = noted_bits c.args.sim.now.linked c.args.linked.now before after c.args.bits.now c.apply.new.self.changed c.requires.linked c.requires.bits c.apply.ensures.changed } in
    let fault = c.in_default-put_changes.ensures.fault before was in
    let text = changed_text c.args.linked.now before after c.args.bits.now c.requires.bits in
    rw c.put_changes.ensures.moment (front_two (mark_text c.args.line.now.number) (changed_readings c.args.linked.now before after) (g.O.Sink.given c.args.out.now) (g.O.Sink.given c.put_mark.new.out) (g.O.Sink.given c.put_changes.new.out) fault.0
    c.in-Ok.ensures.ok (fault.1 ∙ ap (λ (l : List ℕ). appended (take fault.0 l) (g.O.Sink.given c.put_mark.new.out)) text))

pub returns-clause-ok : goal.returns-clause-ok
returns-clause-ok g c =
    let before : Moment = moment_of c.args.sim.now.moment in
    let after : Moment = moment_of c.apply.new.self.moment in
    let was : IsToldBefore c.args.linked.now.arena.lists before after c.args.bits.now c.args.told.now c.apply.new.self.changed
    = record { told_is = c.requires.told; noted = noted_bits c.args.sim.now.linked c.args.linked.now before after c.args.bits.now c.apply.new.self.changed c.requires.linked c.requires.bits c.apply.ensures.changed } in
    let put = c.in-Ok-put_changes.ensures.ok before was in
    let text = changed_text c.args.linked.now before after c.args.bits.now c.requires.bits in
    rw c.put_changes.ensures.moment (put ∙ ap (λ (l : List ℕ). appended l (g.O.Sink.given c.put_mark.new.out)) text
    ∙ ap (λ (o : Option (List ℕ)). appended (changed_readings c.args.linked.now before after) o) c.in-Ok.ensures.ok
    ∙ appended-twice (g.O.Sink.given c.args.out.now) (mark_text c.args.line.now.number) (changed_readings c.args.linked.now before after))

pub returns-clause-told : goal.returns-clause-told
returns-clause-told g c =
    let before : Moment = moment_of c.args.sim.now.moment in
    let after : Moment = moment_of c.apply.new.self.moment in
    let was : IsToldBefore c.args.linked.now.arena.lists before after c.args.bits.now c.args.told.now c.apply.new.self.changed
    = record { told_is = c.requires.told; noted = noted_bits c.args.sim.now.linked c.args.linked.now before after c.args.bits.now c.apply.new.self.changed c.requires.linked c.requires.bits c.apply.ensures.changed } in
    rw c.put_changes.ensures.moment (c.in-Ok-put_changes.ensures.told before was)
