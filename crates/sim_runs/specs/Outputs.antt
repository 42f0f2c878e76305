-- What a run of a script puts: readings, and expectations that aren't met. Own.
use Rattle.std.specs.Prelude.{◌≡◌, ℕ, suc, ◌+◌, ◌==◌, List, [], ◌∷◌, ◌++◌, length, codes, if◌then◌else◌}
use Rattle.std.specs.Fmt.{decimal}
use Rattle.std.specs.List.{flat_map}
use Rattle.signal_values.specs.declared.PinSig.{PinSig}
use Rattle.signal_values.specs.Values.{show_byte}
use Rattle.netlist_model.specs.declared.NetId.{NetId}
use Rattle.netlist_model.specs.Runs.{Moment, reading_at}
use Rattle.netlist_link.specs.Linked.{LinkedView}
use Rattle.scan_vectors.specs.declared.lines.Act.{Act}
use Rattle.scan_vectors.specs.declared.lines.Act.TheVariants.{Start, Set, Expect}
use Rattle.scan_vectors.specs.declared.lines.Line.{Line}
use Rattle.scan_vectors.specs.Grammar.{pin_of}
use Rattle.scan_vectors.specs.declared.scripts.script.ScriptLine.{ScriptLine}
use Rattle.output_lines.specs.Lines.{words_line}
use Rattle.sim_runs.specs.Shown.{shown_nets, label}
use Rattle.sim_runs.specs.Runs.{net_number, events_of, IsRunOf}

-- a value is one letter
abbrev pub value_word : PinSig → List ℕ
value_word value = show_byte value ∷ []

-- Readings.

-- a bit and its reading
abbrev pub reading_line : LinkedView → NetId → PinSig → List ℕ
reading_line L net value = words_line (label L net.0) (value_word value ∷ [])

abbrev pub first_readings : LinkedView → Moment → List ℕ
first_readings L m = flat_map (λ (net : NetId). reading_line L net (reading_at L.arena.lists m net.0)) (shown_nets L.arena.lists)

-- the line of a bit whose reading changed
abbrev pub changed_line : LinkedView → NetId → PinSig → PinSig → List ℕ
changed_line L net before after = if show_byte before == show_byte after then [] else reading_line L net after

abbrev pub changed_readings : LinkedView → Moment → Moment → List ℕ
changed_readings L before after =
    flat_map (λ (net : NetId). changed_line L net (reading_at L.arena.lists before net.0) (reading_at L.arena.lists after net.0)) (shown_nets L.arena.lists)

-- Lines of a script.

-- the number of a set's line
abbrev pub mark_text : ℕ → List ℕ
mark_text number = codes "@" ++ (decimal number ++ codes "\n")

-- that number, and what changed
abbrev pub set_text : LinkedView → ℕ → Moment → Moment → List ℕ
set_text L number before after = mark_text number ++ changed_readings L before after

-- the line of an expectation that isn't met: its number, the word of its pin, what was wanted and what is read
abbrev pub missed_line : ℕ → List ℕ → PinSig → PinSig → List ℕ
missed_line number word want got = words_line (codes "missed") (decimal number ∷ word ∷ value_word want ∷ value_word got ∷ [])

abbrev pub expect_text : ℕ → List ℕ → PinSig → PinSig → List ℕ
expect_text number word want got = if show_byte want == show_byte got then [] else missed_line number word want got

abbrev pub expect_misses : PinSig → PinSig → ℕ
expect_misses want got = if show_byte want == show_byte got then 0 else 1

-- what a line puts, from the moment before it and the moment after the next set
abbrev pub line_text : LinkedView → Act → ScriptLine → List ℕ → Moment → Moment → List ℕ
line_text L Start line word before after = []
line_text L Set line word before after = set_text L line.number before after
line_text L Expect line word before after = expect_text line.number word line.value (reading_at L.arena.lists before (net_number L.arena.lists line.pin))

-- how many expectations a line misses
abbrev pub line_misses : LinkedView → Act → ScriptLine → Moment → ℕ
line_misses L Start line m = 0
line_misses L Set line m = 0
line_misses L Expect line m = expect_misses line.value (reading_at L.arena.lists m (net_number L.arena.lists line.pin))

-- the count of sets, with that of a line
abbrev pub sets_with : Act → ℕ → ℕ
sets_with Start sets = sets
sets_with Set sets = suc sets
sets_with Expect sets = sets

-- what these lines put, where so many sets came before; the words of pins are those of the event lines
abbrev pub lines_text : LinkedView → (ℕ → Moment) → ℕ → List Line → List ScriptLine → List ℕ
lines_text L moment sets lines [] = []
lines_text L moment sets [] (line ∷ script) = []
lines_text L moment sets (written ∷ lines) (line ∷ script) =
    line_text L line.act line (pin_of written) (moment sets) (moment (suc sets)) ++ lines_text L moment (sets_with line.act sets) lines script

-- how many expectations these lines miss
abbrev pub misses : LinkedView → (ℕ → Moment) → ℕ → List ScriptLine → ℕ
misses L moment sets [] = 0
misses L moment sets (line ∷ script) = line_misses L line.act line (moment sets) + misses L moment (sets_with line.act sets) script

-- the last line: how many sets there were, and how many expectations weren't met
abbrev pub done_line : ℕ → ℕ → List ℕ
done_line sets missed = words_line (codes "done") (decimal sets ∷ decimal missed ∷ [])

-- The whole text of a run.
abbrev pub run_text : LinkedView → List Line → List ScriptLine → (ℕ → Moment) → List ℕ
run_text L lines script moment =
    first_readings L (moment 0) ++ (lines_text L moment 0 lines script ++ done_line (length (events_of L.arena.lists script)) (misses L moment 0 script))

-- The text is that of the script's run, in which so many expectations aren't met.
pub record IsOutput (L : LinkedView) (lines : List Line) (script : List ScriptLine) (text : List ℕ) (missed : ℕ) : Type 0 where
  pub moment : ℕ → Moment
  pub run : IsRunOf L.arena.lists script moment
  pub text_is : text ≡ run_text L lines script moment
  pub missed_is : missed ≡ misses L moment 0 script
