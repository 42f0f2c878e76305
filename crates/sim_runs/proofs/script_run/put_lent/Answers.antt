use Rattle.std.proofs.Common.{◌≡◌, ◌≤◌, ◌∙◌}
use Rattle.sim_runs.specs.Outputs.{run_text}
use Rattle.sim_runs.proofs.Gathers.{grown_first, front_gathered, whole_gathered, all_gathered, rose_later}
use Rattle.sim_runs.proofs.script_run.put_lent.Goals as goal

pub invariant_of-gathered : goal.invariant_of-gathered
invariant_of-gathered g c = record {
  same = c.requires.name;
  grown = grown_first g.F.Origin.first (g.S.Named.given c.args.lent) c.requires.first;
}

pub returns-in_default-clause-fault : goal.returns-in_default-clause-fault
returns-in_default-clause-fault g c = λ moment run same.
    let was = c.put_run-played.new.out in
    let text = run_text c.args.linked.now c.args.lines.now c.args.script.now moment in
    let cut = c.in_default.ensures.fault moment run same in
    front_gathered g.F.Origin.first (g.S.Named.given c.args.lent) (g.S.Named.given was.lent) c.args.page was.page text cut.0 c.requires.first c.requires.page was.grown cut.1

pub returns-in_default-hand_on-clause-fault : goal.returns-in_default-hand_on-clause-fault
returns-in_default-hand_on-clause-fault g c = λ moment run same.
    let was = c.hand_on.new.self in
    let text = run_text c.args.linked.now c.args.lines.now c.args.script.now moment in
    let played = c.in-Ok.ensures.ok moment run same in
    whole_gathered g.F.Origin.first (g.S.Named.given c.args.lent) (g.S.Named.given was.lent) c.args.page was.page text c.requires.first c.requires.page was.grown (c.hand_on.ensures.given ∙ played.1)

pub returns-in_default-hand_on-clause-cause : goal.returns-in_default-hand_on-clause-cause
returns-in_default-hand_on-clause-cause g c =
    rose_later (g.S.Named.faults c.args.lent) (g.S.Named.faults c.put_run-played.new.out.lent) (g.S.Named.faults c.hand_on.new.self.lent) c.put_run-played.ensures.later c.in_default-hand_on.ensures.cause

pub returns-clause-ok : goal.returns-clause-ok
returns-clause-ok g c = λ moment run same.
    let was = c.hand_on.new.self in
    let text = run_text c.args.linked.now c.args.lines.now c.args.script.now moment in
    let played = c.in-Ok.ensures.ok moment run same in
    (played.0, all_gathered (g.S.Named.given c.args.lent) (g.S.Named.given was.lent) c.args.page was.page text c.requires.page c.in-Ok-hand_on.ensures.ok (c.hand_on.ensures.given ∙ played.1))
