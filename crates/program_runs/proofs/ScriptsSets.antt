-- The sets of a program's script are the events of the netlist by the program.
use Rattle.std.proofs.Common.{◌≡◌, ℕ, suc, List, [], ◌∷◌, ◌++◌, slice_get, Option, Some, None, option_map, refl, sym, ap, ◌∙◌, subst}
use Rattle.std.specs.Prelude.{IsSome, unwrap_or}
use Rattle.netlist_model.specs.declared.NetId.{NetId}
use Rattle.netlist_model.specs.declared.PinBit.{PinBit}
use Rattle.netlist_model.specs.Lists.{NetlistView, bit_net}
use Rattle.netlist_model.specs.Runs.{PinEvent}
use Rattle.signal_values.specs.declared.PinSig.{PinSig}
use Rattle.netlist_link.specs.Linked.{LinkedView}
use Rattle.netlist_link.specs.PinWords.{pin_at}
use Rattle.bsdl_device.specs.declared.values.PortMode.TheVariants as mode
use Rattle.bsdl_device.specs.declared.values.Device.{Device}
use Rattle.scan_vectors.specs.declared.lines.Act.{Act}
use Rattle.scan_vectors.specs.declared.lines.Act.TheVariants as act
use Rattle.scan_vectors.specs.declared.lines.Line.{Line}
use Rattle.scan_vectors.specs.declared.lines.Line.TheVariants.{Start, Set, Expect}
use Rattle.scan_vectors.specs.Grammar.{act_of}
use Rattle.scan_vectors.specs.declared.scripts.script.ScriptLine.{ScriptLine}
use Rattle.scan_vectors.specs.Pins.{net_of}
use Rattle.sim_runs.specs.Runs.{net_number, events_at, event_of, events_of}
use Rattle.scan_programs.specs.Met.{input_place}
use Rattle.program_runs.specs.Lines.{IsSetOf, NamePins}
use Rattle.program_runs.specs.There.{IsSetThere, AreSetsThere}
use Rattle.program_runs.specs.ScriptsWords.{WordsNameBits}
use Rattle.program_runs.specs.Beside.{place_there, IsBeside}
use Rattle.program_runs.proofs.Found.{IsFoundAs, AreFound}
use Rattle.program_runs.proofs.Pins.{names_scalar}

-- each line names a bit of a port
abbrev pub HavePins : NetlistView → List ScriptLine → Type 0
HavePins M script = (place : ℕ) (found : ScriptLine) → slice_get script place ≡ Some found → IsSome (net_of M found.pin)

some_number : (o : Option NetId) → IsSome o → o ≡ Some (record { 0 = unwrap_or (option_map (λ (n : NetId). n.0) o) 0 })
some_number None some = absurd (cc)
some_number (Some net) some = refl

-- the net of a scalar port that a word names
scalar_number : (M : NetlistView) (place : ℕ) (pin : PinBit) → pin ≡ pin_at place 0 → IsSome (net_of M pin) → bit_net M place 0 ≡ Some (record { 0 = net_number M pin })
scalar_number M place pin is some = ap (λ (p : PinBit). bit_net M p.port.0 p.bit) (sym is) ∙ some_number (bit_net M pin.port.0 pin.bit) some

set_there : WordsNameBits → (L : LinkedView) (B : Device) (N : NetlistView) → IsBeside L B N → (word : List ℕ) (value : PinSig) → IsSetOf B word value → (found : ScriptLine)
    → IsFoundAs L (Set word value) found → IsSome (net_of L.arena.lists found.pin) → IsSetThere L.arena.lists B N word value (event_of L.arena.lists found)
set_there law L B N beside word value set found is some =
    let number = place_there L (input_place B set.input) in
    let pin : found.pin ≡ pin_at number 0 =
    names_scalar law L B beside.described (input_place B set.input) mode.Input (λ e. cc) (beside.described.input_is set.input) word set.set.word_is found.pin is.pin in
    record {
      input = set.input;
      level = set.level;
      set = set.set;
      tap = ap (λ (n : ℕ). bit_net L.arena.lists n 0) (sym (beside.input_at set.input)) ∙ scalar_number L.arena.lists number found.pin pin some;
      value_is = is.value;
    }

-- the events of a line and those behind it
events_by : (M : NetlistView) (found : ScriptLine) (script : List ScriptLine) (a : Act) → found.act ≡ a → events_of M (found ∷ script) ≡ events_at a (event_of M found) ++ events_of M script
events_by M found script a is = ap (λ (b : Act). events_at b (event_of M found) ++ events_of M script) is

sets_there : WordsNameBits → (L : LinkedView) (B : Device) (N : NetlistView) → IsBeside L B N → (lines : List Line) → NamePins B lines → (script : List ScriptLine) → AreFound L lines script
    → HavePins L.arena.lists script → AreSetsThere L.arena.lists B N lines (events_of L.arena.lists script)
sets_there law L B N beside [] names [] are have = tt
sets_there law L B N beside [] names (found ∷ script) are have = absurd are
sets_there law L B N beside (line ∷ lines) names [] are have = absurd are
sets_there law L B N beside (Start word value ∷ lines) names (found ∷ script) are have =
    subst (λ (es : List PinEvent). AreSetsThere L.arena.lists B N (Start word value ∷ lines) es) (sym (events_by L.arena.lists found script act.Start are.0.act))
    (sets_there law L B N beside lines names.1 script are.1 (λ place. have (suc place)))
sets_there law L B N beside (Expect word value ∷ lines) names (found ∷ script) are have =
    subst (λ (es : List PinEvent). AreSetsThere L.arena.lists B N (Expect word value ∷ lines) es) (sym (events_by L.arena.lists found script act.Expect are.0.act))
    (sets_there law L B N beside lines names script are.1 (λ place. have (suc place)))
sets_there law L B N beside (Set word value ∷ lines) names (found ∷ script) are have =
    subst (λ (es : List PinEvent). AreSetsThere L.arena.lists B N (Set word value ∷ lines) es) (sym (events_by L.arena.lists found script act.Set are.0.act)) (
      set_there law L B N beside word value names.0 found are.0 (have 0 found refl),
      sets_there law L B N beside lines names.1 script are.1 (λ place. have (suc place)),
    )

-- starts in front give no event
pub behind_starts : WordsNameBits → (L : LinkedView) (B : Device) (N : NetlistView) → IsBeside L B N → (front lines : List Line)
    → ((place : ℕ) (line : Line) → slice_get front place ≡ Some line → act_of line ≡ act.Start) → NamePins B lines → (script : List ScriptLine) → AreFound L (front ++ lines) script
    → HavePins L.arena.lists script → AreSetsThere L.arena.lists B N lines (events_of L.arena.lists script)
behind_starts law L B N beside [] lines are names script found have = sets_there law L B N beside lines names script found have
behind_starts law L B N beside (line ∷ front) lines are names [] found have = absurd found
behind_starts law L B N beside (line ∷ front) lines are names (one ∷ script) found have =
    subst (λ (es : List PinEvent). AreSetsThere L.arena.lists B N lines es) (sym (events_by L.arena.lists one script act.Start (found.0.act ∙ are 0 line refl)))
    (behind_starts law L B N beside front lines (λ place. are (suc place)) names script found.1 (λ place. have (suc place)))
