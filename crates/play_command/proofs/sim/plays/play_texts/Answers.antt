use Rattle.std.proofs.Common.{IfErr, IfOk, List, ◌∷◌, ℕ, inl, inr, refl, subst}
use Rattle.list_laws.proofs.Options.{err_is}
use Rattle.command_edges.specs.Seen.{SinkSeen, sink_seen}
use Rattle.play_command.specs.Played.{FailsToPlay, FailsToPlayOn, IsPlayedOn}
use Rattle.play_command.proofs.Simulated.{netlist_stands, played_done, played_fault}
use Rattle.play_command.proofs.sim.plays.play_texts.Goals as goal

pub returns-clause-done : goal.returns-clause-done
returns-clause-done g c = λ more is.
    let sink : SinkSeen = sink_seen g.O.Sink.given g.O.Sink.faults c.args.out.now c.play_on.new.out in
    played_done c.play_on.result c.args.library c.args.net c.args.events more c.in_ok-linked.linked sink is c.in_ok-linked.ensures.linked
    (subst (λ (bytes : List ℕ). IfOk c.play_on.result (IsPlayedOn c.in_ok-linked.linked bytes sink)) c.as_bytes.ensures c.play_on.ensures.done)

pub returns-clause-fault : goal.returns-clause-fault
returns-clause-fault g c = λ more is.
    let sink : SinkSeen = sink_seen g.O.Sink.given g.O.Sink.faults c.args.out.now c.play_on.new.out in
    played_fault c.box_faults_forbid_box_links.ensures c.play_on.result c.args.library c.args.net c.args.events more c.in_ok-linked.linked sink sink.given_after is c.requires c.in_ok-linked.ensures.linked
    (subst (λ (bytes : List ℕ). IfErr c.play_on.result (λ f. FailsToPlayOn c.in_ok-linked.linked bytes sink f sink.given_after)) c.as_bytes.ensures c.play_on.ensures.fault)

pub returns-in_err-linked-clause-fault : goal.returns-in_err-linked-clause-fault
returns-in_err-linked-clause-fault g c = λ more is.
    let sink : SinkSeen = sink_seen g.O.Sink.given g.O.Sink.faults c.args.out.now c.args.out.now in
    err_is c.from_residual.result c.in_err-linked.field-0.0 (λ f. FailsToPlay (c.args.net ∷ c.args.events ∷ more) sink f sink.given_after) c.from_residual.ensures.1
    (inl (inr (c.args.library, (is, netlist_stands c.args.library c.args.net c.args.events c.in_err-linked.field-0.0 c.in_err-linked.ensures.fault)), refl))
