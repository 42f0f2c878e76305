-- What is known of `sim` from its parts.
use Rattle.std.proofs.Common.{◌≡◌, ℕ, Result, Ok, Err, IfOk, IfErr, List, [], ◌∷◌, Option, inl, inr, sym, subst, refl}
use Rattle.command_faults.specs.declared.fault.Fault.{Fault}
use Rattle.command_faults.specs.declared.fault.Fault.TheVariants as fault
use Rattle.command_faults.specs.declared.status.Status.{Status}
use Rattle.command_faults.specs.Statuses.{status_of}
use Rattle.box_model.specs.declared.boxes.BoxLibrary.{BoxLibrary}
use Rattle.box_model.specs.Sound.{IsSoundLibrary}
use Rattle.box_links.specs.Laws.{FaultsForbidBoxLinks}
use Rattle.netlist_link.specs.Linked.{LinkedView}
use Rattle.edge_io.specs.Shelf.{SameTold}
use Rattle.command_edges.specs.Ends.{run_status}
use Rattle.command_edges.specs.Seen.{ShelfSeen, SinkSeen}
use Rattle.command_edges.specs.Texts.{AreRead}
use Rattle.command_edges.specs.Libraries.{IsBoxLibraryOf, StandsInBoxLibrary, StandsBehindTwo}
use Rattle.command_edges.specs.Tasks.{Finishes, Stands, Completes}
use Rattle.command_edges.proofs.Outcome.{refusal_completes, giving_completes}
use Rattle.play_command.specs.BoxNetlists.{at_end, SpellsBoxLinked, StandsInBoxNetlist}
use Rattle.play_command.specs.Simulations.{IsSimulation}
use Rattle.play_command.specs.SimFaults.{StandsInBoth}
use Rattle.play_command.specs.SimTasks.{HaveFault, sim_of}
use Rattle.play_command.specs.Played.{IsRunOn, IsPlayedOn, StandsInEvents, FailsToPlayOn, IsPlayed, FailsToPlay}
use Rattle.play_command.proofs.BoxNetlists.{spells_linkable}
use Rattle.play_command.proofs.SimComplete.{Laws, texts_memory}

-- From a netlist to its bytes.

simulation_made : (library : BoxLibrary) (net events text : List ℕ) (missed : ℕ) (linked : LinkedView) → SpellsBoxLinked at_end library net linked → IsRunOn linked events text missed
    → IsSimulation library net events text missed
simulation_made library net events text missed linked netlist r = record {
  linked = linked;
  netlist = netlist;
  lines = r.lines;
  spells_lines = r.spells_lines;
  started = r.started;
  are_started = r.are_started;
  script = r.script;
  resolved = r.resolved;
  output = r.output;
}

pub netlist_stands : (library : BoxLibrary) (net events : List ℕ) (f : Fault) → StandsInBoxNetlist at_end library net f → StandsInBoth library net events f
netlist_stands library net events (fault.Events f) stands = absurd stands
netlist_stands library net events (fault.Script f) stands = absurd stands
netlist_stands library net events f stands = stands

events_stand : FaultsForbidBoxLinks → (library : BoxLibrary) (net events : List ℕ) (linked : LinkedView) (f : Fault) → IsSoundLibrary library → SpellsBoxLinked at_end library net linked → StandsInEvents linked events f
    → StandsInBoth library net events f
events_stand law library net events linked (fault.Events f) sound netlist stands = (spells_linkable law at_end library net linked sound netlist, stands)
events_stand law library net events linked (fault.Script f) sound netlist s =
    record { linked = linked; netlist = netlist; lines = s.lines; spells_lines = s.spells_lines; started = s.started; are_started = s.are_started; fault = s.fault }
events_stand law library net events linked fault.OutOfMemory sound netlist stands = tt
events_stand law library net events linked f sound netlist stands = absurd stands

pub played_done : (r : Result Status Fault) (library : BoxLibrary) (net events : List ℕ) (more : List (List ℕ)) (linked : LinkedView) (sink : SinkSeen) → IsBoxLibraryOf more library → SpellsBoxLinked at_end library net linked
    → IfOk r (IsPlayedOn linked events sink) → IfOk r (IsPlayed (net ∷ events ∷ more) sink)
played_done (Ok end) library net events more linked sink is netlist p =
    record { text = p.text; played = (library, (is, (p.missed, (simulation_made library net events p.text p.missed linked netlist p.run, p.status_is)))); gives = p.gives }
played_done (Err f) library net events more linked sink is netlist p = tt

fails : FaultsForbidBoxLinks → (library : BoxLibrary) (net events : List ℕ) (more : List (List ℕ)) (linked : LinkedView) (sink : SinkSeen) (f : Fault) (given : Option (List ℕ)) → IsBoxLibraryOf more library → IsSoundLibrary library
    → SpellsBoxLinked at_end library net linked → FailsToPlayOn linked events sink f given → FailsToPlay (net ∷ events ∷ more) sink f given
fails law library net events more linked sink f given is sound netlist (inl (stands, same)) = inl (inr (library, (is, events_stand law library net events linked f sound netlist stands)), same)
fails law library net events more linked sink f given is sound netlist (inr s) = inr (record {
  text = s.text;
  end = run_status s.missed;
  played = (library, (is, (s.missed, (simulation_made library net events s.text s.missed linked netlist s.run, refl))));
  put = s.put;
})

pub played_fault : FaultsForbidBoxLinks → (r : Result Status Fault) (library : BoxLibrary) (net events : List ℕ) (more : List (List ℕ)) (linked : LinkedView) (sink : SinkSeen) (given : Option (List ℕ)) → IsBoxLibraryOf more library
    → IsSoundLibrary library → SpellsBoxLinked at_end library net linked → IfErr r (λ f. FailsToPlayOn linked events sink f given) → IfErr r (λ f. FailsToPlay (net ∷ events ∷ more) sink f given)
played_fault law (Ok end) library net events more linked sink given is sound netlist s = tt
played_fault law (Err f) library net events more linked sink given is sound netlist s = fails law library net events more linked sink f given is sound netlist s

-- From a library behind two texts.

pub library_fails : (texts : List (List ℕ)) (sink : SinkSeen) (f : Fault) (given : Option (List ℕ)) → StandsBehindTwo StandsInBoxLibrary texts f → given ≡ sink.given → FailsToPlay texts sink f given
library_fails texts sink f given bad same = inl (subst (λ (ts : List (List ℕ)). HaveFault ts f) (sym bad.are) (inl bad.stands), same)

-- From texts that were read to the task.

pub sim_done : (r : Result Status Fault) (names : List (List ℕ)) (shelf : ShelfSeen) (sink : SinkSeen) (texts : List (List ℕ)) → AreRead shelf.held names texts
    → IfOk r (IsPlayed texts sink) → IfOk r (Finishes (sim_of names) shelf sink)
sim_done (Ok end) names shelf sink texts read p =
    record { outputs = []; put = p.text; made = record { texts = texts; read = read; made = p.played }; written = tt; is_put = p.gives }
sim_done (Err f) names shelf sink texts read p = tt

pub sim_fault : (r : Result Status Fault) (names : List (List ℕ)) (shelf : ShelfSeen) (sink : SinkSeen) (given : Option (List ℕ)) (texts : List (List ℕ))
    → AreRead shelf.held names texts → SameTold shelf.written shelf.written_after → IfErr r (λ f. FailsToPlay texts sink f given)
    → IfErr r (λ f. Stands (sim_of names) shelf sink f given)
sim_fault (Ok end) names shelf sink given texts read same s = tt
sim_fault (Err f) names shelf sink given texts read same (inl (bad, nothing)) = inl (inr (record { texts = texts; read = read; fault_is = bad }), (same, nothing))
sim_fault (Err f) names shelf sink given texts read same (inr s) =
    inr (record { outputs = []; put = s.text; end = s.end; made = record { texts = texts; read = read; made = s.played }; stands = inr (tt, s.put) })

pub sim_completes : (r : Result Status Fault) → Laws → (names : List (List ℕ)) (shelf : ShelfSeen) (sink : SinkSeen) (given : Option (List ℕ)) (texts : List (List ℕ))
    → AreRead shelf.held names texts → IfErr r (λ f. FailsToPlay texts sink f given) → IfErr r (λ f. Completes (sim_of names) shelf sink (status_of f))
sim_completes (Ok end) laws names shelf sink given texts read s = tt
sim_completes (Err f) laws names shelf sink given texts read (inl (bad, nothing)) =
    refusal_completes (sim_of names) shelf sink f texts read (λ free. texts_memory laws f texts free bad)
sim_completes (Err f) laws names shelf sink given texts read (inr s) = giving_completes (sim_of names) shelf sink f [] s.text given (inr (tt, s.put))
