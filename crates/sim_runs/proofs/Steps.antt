-- How far a script was played.
use Rattle.std.proofs.Common.{◌≡◌, ◌≢◌, ℕ, suc, ◌+◌, ◌<◌, ◌≤◌, List, [], ◌∷◌, ◌++◌, length, take, drop, refl, sym, ◌∙◌, ap, arith, add-one, append_assoc, append-nil, Option, Some}
use Rattle.std.specs.List.{slice_get}
use Rattle.std.proofs.lemmas.Option.{slice_get_within}
use Rattle.list_laws.proofs.Lists.{left_at, none_left}
use Rattle.netlist_model.proofs.LawsRuns.{step_same}
use Rattle.edge_io.specs.Shelf.{appended}
use Rattle.netlist_model.specs.declared.NetId.{NetId}
use Rattle.netlist_model.specs.Lists.{NetlistView, bit_net}
use Rattle.netlist_model.specs.Formed.{IsWellFormed}
use Rattle.netlist_model.specs.Runs.{Moment, PinEvent, IsStep}
use Rattle.netlist_model.specs.LawsRuns.{SameMoment}
use Rattle.netlist_link.specs.Linked.{LinkedView}
use Rattle.scan_vectors.specs.declared.lines.Act.{Act}
use Rattle.scan_vectors.specs.declared.lines.Act.TheVariants.{Start, Set, Expect}
use Rattle.scan_vectors.specs.declared.lines.Line.{Line}
use Rattle.scan_vectors.specs.Grammar.{pin_of}
use Rattle.scan_vectors.specs.declared.scripts.script.ScriptLine.{ScriptLine}
use Rattle.netlist_meaning.specs.Events.{IsEventStep}
use Rattle.output_lines.proofs.Pieces.{appended-twice, appended-front}
use Rattle.sim_runs.specs.Runs.{net_number, event_of, events_at, events_of, IsRunOf}
use Rattle.sim_runs.specs.Outputs.{first_readings, line_text, line_misses, lines_text, misses, sets_with, done_line, run_text}
use Rattle.sim_runs.specs.PlayedScript.{Moves, line_event}
use Rattle.sim_runs.proofs.Lists.{at_left, less_left, left_none}
use Rattle.sim_runs.proofs.Texts.{IsFront, first_same, line_same, misses_same, front_one, front_two}

-- so many lines were played, with so many sets and misses among them, and this was put
pub record IsPlayed (L : LinkedView) (lines : List Line) (script : List ScriptLine) (moment : ℕ → Moment) (place sets missed : ℕ) (m : Moment) (told now : Option (List ℕ)) : Type 0 where
  pub front : List ℕ
  pub given : now ≡ appended front told
  pub whole : front ++ lines_text L moment sets (drop place lines) (drop place script) ≡ first_readings L (moment 0) ++ lines_text L moment 0 lines script
  pub same : SameMoment L.arena.lists m (moment sets)
  pub misses_are : missed + misses L moment sets (drop place script) ≡ misses L moment 0 script
  pub events_are : drop sets (events_of L.arena.lists script) ≡ events_of L.arena.lists (drop place script)
  pub sets_fit : sets ≤ length (events_of L.arena.lists script)

pub none_played : (L : LinkedView) (lines : List Line) (script : List ScriptLine) (moment : ℕ → Moment) (m : Moment) (text : List ℕ) (told now : Option (List ℕ))
    → SameMoment L.arena.lists m (moment 0) → text ≡ first_readings L m → now ≡ appended text told → IsPlayed L lines script moment 0 0 0 m told now
none_played L lines script moment m text told now same is given = record {
  front = text;
  given = given;
  whole = ap (λ (l : List ℕ). l ++ lines_text L moment 0 lines script) (is ∙ first_same L m (moment 0) same);
  same = same;
  misses_are = omega arith;
  events_are = refl;
  sets_fit = omega arith;
}

-- the event of a set
net_is : (N : NetlistView) (line : ScriptLine) (net : NetId) → bit_net N line.pin.port.0 line.pin.bit ≡ Some net → net_number N line.pin ≡ net.0
net_is N line net named = rw named refl

-- the next moment of a set is that of the run
set_same : (L : LinkedView) (script : List ScriptLine) (moment : ℕ → Moment) (sets : ℕ) (line : ScriptLine) (m m' : Moment) → IsWellFormed L.arena.lists → IsRunOf L.arena.lists script moment
    → slice_get (events_of L.arena.lists script) sets ≡ Some (event_of L.arena.lists line) → SameMoment L.arena.lists m (moment sets) → IsEventStep L.arena.lists (line_event line) m m'
    → SameMoment L.arena.lists m' (moment (suc sets))
set_same L script moment sets line m m' formed run at same step =
    let N = L.arena.lists in
    let event : PinEvent = event_of N line in
    let net : net_number N line.pin ≡ step.net.0 = net_is N line step.net step.named in
    let own : IsStep N event m m' = rw net step.step in
    step_same N event m (moment sets) m' (moment (suc sets)) formed same own (run.run.steps sets event at)

-- what changes with a line: the moment, the count of sets, and the events that are left
record IsNext (L : LinkedView) (script : List ScriptLine) (moment : ℕ → Moment) (act : Act) (sets : ℕ) (m' : Moment) (rest : List PinEvent) : Type 0 where
  pub same : SameMoment L.arena.lists m' (moment (sets_with act sets))
  pub set_same : act ≡ Set → SameMoment L.arena.lists m' (moment (suc sets))
  pub events_are : drop (sets_with act sets) (events_of L.arena.lists script) ≡ rest
  pub sets_fit : sets_with act sets ≤ length (events_of L.arena.lists script)

next_is : (L : LinkedView) (script : List ScriptLine) (moment : ℕ → Moment) (act : Act) (sets : ℕ) (line : ScriptLine) (m m' : Moment) (rest : List PinEvent)
    → IsWellFormed L.arena.lists → IsRunOf L.arena.lists script moment → SameMoment L.arena.lists m (moment sets) → sets ≤ length (events_of L.arena.lists script)
    → drop sets (events_of L.arena.lists script) ≡ events_at act (event_of L.arena.lists line) ++ rest → Moves act L.arena.lists line m m' → IsNext L script moment act sets m' rest
next_is L script moment Start sets line m m' rest formed run same fit left moves = record {
  same = rw moves same;
  set_same = λ e. absurd (cc);
  events_are = left;
  sets_fit = fit;
}
next_is L script moment Expect sets line m m' rest formed run same fit left moves = record {
  same = rw moves same;
  set_same = λ e. absurd (cc);
  events_are = left;
  sets_fit = fit;
}
next_is L script moment Set sets line m m' rest formed run same fit left moves =
    let at = at_left (events_of L.arena.lists script) sets (event_of L.arena.lists line) rest left in
    let next = set_same L script moment sets line m m' formed run at same moves in
    record {
      same = next;
      set_same = λ e. next;
      events_are = less_left (events_of L.arena.lists script) sets (event_of L.arena.lists line) rest left;
      sets_fit = (let within = slice_get_within (events_of L.arena.lists script) sets (event_of L.arena.lists line) at in omega (arith, within));
    }

-- one line more
pub line_played : (L : LinkedView) (lines : List Line) (script : List ScriptLine) (moment : ℕ → Moment) (place sets missed one : ℕ) (m m' : Moment) (told now new : Option (List ℕ)) (written : Line) (line : ScriptLine)
    → IsWellFormed L.arena.lists → IsRunOf L.arena.lists script moment → slice_get lines place ≡ Some written → slice_get script place ≡ Some line → Moves line.act L.arena.lists line m m'
    → one ≡ line_misses L line.act line m → new ≡ appended (line_text L line.act line (pin_of written) m m') now
    → IsPlayed L lines script moment place sets missed m told now → IsPlayed L lines script moment (place + 1) (sets_with line.act sets) (missed + one) m' told new
line_played L lines script moment place sets missed one m m' told now new written line formed run there at moves one_is put so_far = rw (add-one place) (record {
  front = so_far.front ++ text;
  given = put ∙ ap (λ (o : Option (List ℕ)). appended text o) so_far.given ∙ appended-twice told so_far.front text;
  whole = append_assoc so_far.front text after ∙ ap (λ (l : List ℕ). so_far.front ++ l) rest ∙ so_far.whole;
  same = next.same;
  misses_are = (let all = so_far.misses_are in let split = rw script_left at all in
      let here = one_is ∙ misses_same L line.act line m (moment sets) so_far.same in omega (arith, split, here));
  events_are = next.events_are;
  sets_fit = next.sets_fit;
})
  where
    text : List ℕ
    text = line_text L line.act line (pin_of written) m m'

    lines_left : drop place lines ≡ written ∷ drop (suc place) lines
    lines_left = left_at lines place written there

    script_left : drop place script ≡ line ∷ drop (suc place) script
    script_left = left_at script place line at

    next : IsNext L script moment line.act sets m' (events_of L.arena.lists (drop (suc place) script))
    next = next_is L script moment line.act sets line m m' (events_of L.arena.lists (drop (suc place) script)) formed run so_far.same so_far.sets_fit
        (so_far.events_are ∙ ap (λ (s : List ScriptLine). events_of L.arena.lists s) script_left) moves

    after : List ℕ
    after = lines_text L moment (sets_with line.act sets) (drop (suc place) lines) (drop (suc place) script)

    rest : text ++ after ≡ lines_text L moment sets (drop place lines) (drop place script)
    rest = ap (λ (l : List ℕ). l ++ after) (line_same L line.act line (pin_of written) m (moment sets) m' (moment (suc sets)) so_far.same next.set_same) ∙ sym (rw (lines_left, script_left) refl)

-- a line was cut short
pub line_cut : (L : LinkedView) (lines : List Line) (script : List ScriptLine) (moment : ℕ → Moment) (place sets missed : ℕ) (m m' : Moment) (told now new : Option (List ℕ)) (k : ℕ) (written : Line) (line : ScriptLine)
    → IsWellFormed L.arena.lists → IsRunOf L.arena.lists script moment → slice_get lines place ≡ Some written → slice_get script place ≡ Some line → Moves line.act L.arena.lists line m m'
    → new ≡ appended (take k (line_text L line.act line (pin_of written) m m')) now
    → IsPlayed L lines script moment place sets missed m told now → IsFront (run_text L lines script moment) told new
line_cut L lines script moment place sets missed m m' told now new k written line formed run there at moves put so_far = (
  length so_far.front + length (take k text),
  put ∙ ap (λ (o : Option (List ℕ)). appended (take k text) o) so_far.given ∙ appended-front told so_far.front text (after ++ done) k
      ∙ ap (λ (l : List ℕ). appended (take (length so_far.front + length (take k text)) l) told) whole,
)
  where
    text : List ℕ
    text = line_text L line.act line (pin_of written) m m'

    done : List ℕ
    done = done_line (length (events_of L.arena.lists script)) (misses L moment 0 script)

    lines_left : drop place lines ≡ written ∷ drop (suc place) lines
    lines_left = left_at lines place written there

    script_left : drop place script ≡ line ∷ drop (suc place) script
    script_left = left_at script place line at

    next : IsNext L script moment line.act sets m' (events_of L.arena.lists (drop (suc place) script))
    next = next_is L script moment line.act sets line m m' (events_of L.arena.lists (drop (suc place) script)) formed run so_far.same so_far.sets_fit
        (so_far.events_are ∙ ap (λ (s : List ScriptLine). events_of L.arena.lists s) script_left) moves

    after : List ℕ
    after = lines_text L moment (sets_with line.act sets) (drop (suc place) lines) (drop (suc place) script)

    rest : text ++ after ≡ lines_text L moment sets (drop place lines) (drop place script)
    rest = ap (λ (l : List ℕ). l ++ after) (line_same L line.act line (pin_of written) m (moment sets) m' (moment (suc sets)) so_far.same next.set_same) ∙ sym (rw (lines_left, script_left) refl)

    whole : so_far.front ++ (text ++ (after ++ done)) ≡ run_text L lines script moment
    whole = ap (λ (l : List ℕ). so_far.front ++ l) (sym (append_assoc text after done) ∙ ap (λ (l : List ℕ). l ++ done) rest)
        ∙ sym (append_assoc so_far.front (lines_text L moment sets (drop place lines) (drop place script)) done)
        ∙ ap (λ (l : List ℕ). l ++ done) so_far.whole
        ∙ append_assoc (first_readings L (moment 0)) (lines_text L moment 0 lines script) done

-- the first readings were cut short
pub first_cut : (L : LinkedView) (lines : List Line) (script : List ScriptLine) (moment : ℕ → Moment) (m : Moment) (text : List ℕ) (told now : Option (List ℕ)) (k : ℕ)
    → SameMoment L.arena.lists m (moment 0) → text ≡ first_readings L m → now ≡ appended (take k text) told → IsFront (run_text L lines script moment) told now
first_cut L lines script moment m text told now k same is put =
    let whole : text ≡ first_readings L (moment 0) = is ∙ first_same L m (moment 0) same in
    let done : List ℕ = done_line (length (events_of L.arena.lists script)) (misses L moment 0 script) in
    front_one (first_readings L (moment 0)) (lines_text L moment 0 lines script ++ done) told now k (put ∙ ap (λ (l : List ℕ). appended (take k l) told) whole)

-- all lines were played
record IsWhole (L : LinkedView) (lines : List Line) (script : List ScriptLine) (moment : ℕ → Moment) (sets missed : ℕ) (front : List ℕ) : Type 0 where
  pub sets_are : sets ≡ length (events_of L.arena.lists script)
  pub missed_are : missed ≡ misses L moment 0 script
  pub text : front ≡ first_readings L (moment 0) ++ lines_text L moment 0 lines script

no_lines : (L : LinkedView) (moment : ℕ → Moment) (sets : ℕ) (lines : List Line) → lines_text L moment sets lines [] ≡ []
no_lines L moment sets [] = refl
no_lines L moment sets (line ∷ lines) = refl

whole_played : (L : LinkedView) (lines : List Line) (script : List ScriptLine) (moment : ℕ → Moment) (place sets missed : ℕ) (m : Moment) (told now : Option (List ℕ)) → length script ≤ place
    → (played : IsPlayed L lines script moment place sets missed m told now) → IsWhole L lines script moment sets missed played.front
whole_played L lines script moment place sets missed m told now long played =
    let none = none_left script place long in
    let all = played.misses_are in
    let misses_all : missed + 0 ≡ misses L moment 0 script = rw none at all in
    let events = played.events_are in
    let events_none : drop sets (events_of L.arena.lists script) ≡ [] = rw none at events in
    let most = left_none (events_of L.arena.lists script) sets events_none in
    let fit = played.sets_fit in
    let text = played.whole in
    let text_all = rw (none, no_lines L moment sets (drop place lines), append-nil played.front) at text in
    record { sets_are = omega (arith, most, fit); missed_are = omega (arith, misses_all); text = text_all }

-- the last line
pub done_played : (L : LinkedView) (lines : List Line) (script : List ScriptLine) (moment : ℕ → Moment) (place sets missed : ℕ) (m : Moment) (told now new : Option (List ℕ)) → length script ≤ place
    → new ≡ appended (done_line sets missed) now → IsPlayed L lines script moment place sets missed m told now
    → (missed ≡ misses L moment 0 script) × (new ≡ appended (run_text L lines script moment) told)
done_played L lines script moment place sets missed m told now new long put played =
    let all = whole_played L lines script moment place sets missed m told now long played in (
      all.missed_are,
      put ∙ ap (λ (o : Option (List ℕ)). appended (done_line sets missed) o) played.given ∙ appended-twice told played.front (done_line sets missed)
          ∙ ap (λ (l : List ℕ). appended l told) (ap (λ (l : List ℕ). l ++ done_line sets missed) all.text
          ∙ append_assoc (first_readings L (moment 0)) (lines_text L moment 0 lines script) (done_line sets missed)
          ∙ ap (λ (n : ℕ). first_readings L (moment 0) ++ (lines_text L moment 0 lines script ++ done_line n missed)) all.sets_are
          ∙ ap (λ (n : ℕ). first_readings L (moment 0) ++ (lines_text L moment 0 lines script ++ done_line (length (events_of L.arena.lists script)) n)) all.missed_are),
    )

pub done_cut : (L : LinkedView) (lines : List Line) (script : List ScriptLine) (moment : ℕ → Moment) (place sets missed : ℕ) (m : Moment) (told now new : Option (List ℕ)) (k : ℕ) → length script ≤ place
    → new ≡ appended (take k (done_line sets missed)) now → IsPlayed L lines script moment place sets missed m told now → IsFront (run_text L lines script moment) told new
done_cut L lines script moment place sets missed m told now new k long put played =
    let all = whole_played L lines script moment place sets missed m told now long played in
    let front : List ℕ = first_readings L (moment 0) ++ lines_text L moment 0 lines script in
    let done : List ℕ = done_line (length (events_of L.arena.lists script)) (misses L moment 0 script) in
    let same : done_line sets missed ≡ done = ap (λ (n : ℕ). done_line n missed) all.sets_are ∙ ap (λ (n : ℕ). done_line (length (events_of L.arena.lists script)) n) all.missed_are in
    let given : now ≡ appended front told = played.given ∙ ap (λ (l : List ℕ). appended l told) all.text in
    let cut = front_two front done told now new k given (put ∙ ap (λ (l : List ℕ). appended (take k l) now) same) in
    (cut.0, cut.1 ∙ ap (λ (l : List ℕ). appended (take cut.0 l) told) (append_assoc (first_readings L (moment 0)) (lines_text L moment 0 lines script) done))
