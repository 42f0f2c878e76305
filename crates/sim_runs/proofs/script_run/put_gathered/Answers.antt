use Rattle.std.proofs.Common.{◌≡◌, ◌≤◌, ℕ, IfOk, OnErr, rules, subst, take}
use Rattle.edge_io.specs.Shelf.{Rose, appended}
use Rattle.sim_runs.specs.Outputs.{misses, run_text}
use Rattle.sim_runs.proofs.script_run.put_gathered.Goals as goal

pub returns-clause-ok : goal.returns-clause-ok
returns-clause-ok g c = λ moment run same.
    let back : c.put_lent-lent.result.0.out.now ≡ c.out-1.given.0 = search rules in
    let L = c.args.linked.now in
    let script = c.args.script.now in
    subst (λ o. IfOk c.put_lent-lent.result.1 (λ missed. (missed ≡ misses L moment 0 script) × (g.O.Sink.given o ≡ appended (run_text L c.args.lines.now script moment) (g.O.Sink.given c.args.out.now))))
    back (c.put_lent-lent.ensures.ok moment run same)

pub returns-clause-fault : goal.returns-clause-fault
returns-clause-fault g c = λ moment run same.
    let back : c.put_lent-lent.result.0.out.now ≡ c.out-1.given.0 = search rules in
    let text = run_text c.args.linked.now c.args.lines.now c.args.script.now moment in
    subst (λ o. OnErr c.put_lent-lent.result.1 ((k : ℕ) × (g.O.Sink.given o ≡ appended (take k text) (g.O.Sink.given c.args.out.now))))
    back (c.put_lent-lent.ensures.fault moment run same)

pub returns-clause-cause : goal.returns-clause-cause
returns-clause-cause g c =
    let back : c.put_lent-lent.result.0.out.now ≡ c.out-1.given.0 = search rules in
    subst (λ o. OnErr c.put_lent-lent.result.1 (Rose (g.O.Sink.faults c.args.out.now) (g.O.Sink.faults o))) back c.put_lent-lent.ensures.cause

pub returns-clause-later : goal.returns-clause-later
returns-clause-later g c =
    let back : c.put_lent-lent.result.0.out.now ≡ c.out-1.given.0 = search rules in
    subst (λ o. g.O.Sink.faults c.args.out.now ≤ g.O.Sink.faults o) back c.put_lent-lent.ensures.later
