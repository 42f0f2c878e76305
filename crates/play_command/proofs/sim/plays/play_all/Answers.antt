use Rattle.std.proofs.Common.{◌≡◌, ◌∙◌, IfErr, IfOk, List, ℕ, refl, sym, subst}
use Rattle.list_laws.proofs.Options.{err_is}
use Rattle.command_edges.specs.Libraries.{StandsInBoxLibrary, StandsBehindTwo}
use Rattle.command_edges.specs.Seen.{SinkSeen, sink_seen}
use Rattle.play_command.specs.Played.{FailsToPlay, IsPlayed}
use Rattle.play_command.proofs.Simulated.{library_fails}
use Rattle.play_command.proofs.sim.plays.play_all.Goals as goal

pub returns-clause-done : goal.returns-clause-done
returns-clause-done g c =
    let sink : SinkSeen = sink_seen g.O.Sink.given g.O.Sink.faults c.args.out.now c.play_texts.new.out in
    let taken = c.in_ok-net.ensures.taken in
    let same : c.as_mut_slice.result.now ≡ c.args.texts = c.as_mut_slice.ensures.value ∙ c.into_vec-texts.ensures in
    subst (λ (ts : List (List ℕ)). IfOk c.play_texts.result (IsPlayed ts sink)) (sym taken.are ∙ same) (c.play_texts.ensures.done taken.more taken.is)

pub returns-clause-fault : goal.returns-clause-fault
returns-clause-fault g c =
    let sink : SinkSeen = sink_seen g.O.Sink.given g.O.Sink.faults c.args.out.now c.play_texts.new.out in
    let taken = c.in_ok-net.ensures.taken in
    let same : c.as_mut_slice.result.now ≡ c.args.texts = c.as_mut_slice.ensures.value ∙ c.into_vec-texts.ensures in
    subst (λ (ts : List (List ℕ)). IfErr c.play_texts.result (λ f. FailsToPlay ts sink f sink.given_after)) (sym taken.are ∙ same) (c.play_texts.ensures.fault taken.more taken.is)

pub returns-in_err-net-clause-fault : goal.returns-in_err-net-clause-fault
returns-in_err-net-clause-fault g c =
    let sink : SinkSeen = sink_seen g.O.Sink.given g.O.Sink.faults c.args.out.now c.args.out.now in
    let same : c.as_mut_slice.result.now ≡ c.args.texts = c.as_mut_slice.ensures.value ∙ c.into_vec-texts.ensures in
    let stands = subst (λ (ts : List (List ℕ)). StandsBehindTwo StandsInBoxLibrary ts c.in_err-net.field-0.0) same c.in_err-net.ensures.fault in
    err_is c.from_residual.result c.in_err-net.field-0.0 (λ f. FailsToPlay c.args.texts sink f sink.given_after) c.from_residual.ensures.1
    (library_fails c.args.texts sink c.in_err-net.field-0.0 sink.given_after stands refl)
