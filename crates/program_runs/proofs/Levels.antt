-- What the lines of a program give the test access port.
use Rattle.std.proofs.Common.{◌≡◌, ◌⊎◌, ℕ, zero, suc, ◌+◌, ◌-◌, ◌<◌, ◌≤◌, ◌==◌, Bool, true, false, ◌&&◌, List, [], ◌∷◌, ◌++◌, map, length, slice_get, if◌then◌else◌, Option, Some, None, option_map, refl, sym, ap, ◌∙◌, subst, inl, inr, arith}
use Rattle.std.specs.Prelude.{is_none}
use Rattle.std.specs.Fmt.{decimal}
use Rattle.std.specs.List.{list_any}
use Rattle.std.specs.Option.{option_map_or}
use Rattle.std.proofs.lemmas.Bool.{cases_lt}
use Rattle.std.proofs.lemmas.Option.{slice_get-map}
use Rattle.list_laws.proofs.Bytes.{bytes_eq-same}
use Rattle.list_laws.proofs.Lists.{slice_get-append_left, slice_get-append_right, all_at}
use Rattle.list_laws.proofs.Tests.{and_right, or_first, or_second}
use Rattle.list_laws.proofs.Options.{some_same}
use Rattle.signal_values.specs.declared.PinSig.TheVariants as pin
use Rattle.netlist_model.specs.Runs.{IsKnownPin}
use Rattle.bsdl_lexicon.specs.Names.{lower, is_same_name}
use Rattle.bsdl_device.specs.declared.values.PortMode.{PortMode}
use Rattle.bsdl_device.specs.declared.values.PortMode.TheVariants as mode
use Rattle.bsdl_device.specs.declared.values.DevPort.{DevPort}
use Rattle.bsdl_device.specs.declared.values.Device.{Device}
use Rattle.bsdl_device.specs.Checks.{any_pair, is_repeated}
use Rattle.bsdl_device.specs.Ports.{is_mode}
use Rattle.bsdl_device.specs.IsDevice.{IsDevice, IsDevicePort, names_of, is_scalar_at}
use Rattle.test_logic.specs.declared.TapInput.{TapInput}
use Rattle.test_logic.specs.declared.TapInput.TheVariants.{Tck, Tms, Tdi, Trst}
use Rattle.wrapped_chip.proofs.Legal.{level_known}
use Rattle.scan_vectors.specs.declared.lines.Act.TheVariants as act
use Rattle.scan_vectors.specs.declared.lines.Line.{Line}
use Rattle.scan_vectors.specs.declared.lines.Line.TheVariants.{Start, Set, Expect}
use Rattle.scan_vectors.specs.Grammar.{pin_of as word_of, value_of}
use Rattle.scan_programs.specs.Pins.{bit_word, port_word, starts}
use Rattle.scan_programs.specs.Met.{input_place}
use Rattle.program_runs.specs.ScriptsWords.{IsPlain}
use Rattle.program_runs.proofs.ScriptsWords.{not_plain}
use Rattle.program_runs.proofs.Starts.{input_value}
use Rattle.program_runs.proofs.ScriptsPlaces.{IsPlaced, placed}
use Rattle.program_runs.proofs.Events.{IsEvent, AreEvents, split}
use Rattle.program_runs.proofs.Plain.{identifier_plain}
use Rattle.program_runs.specs.Levels.{KeepsLevels, ProgramsKeepLevels}

-- A name has one place.

not_later : (name : List ℕ) (names : List (List ℕ)) (k : ℕ) → list_any (is_same_name name) names ≡ false → slice_get names k ≡ Some name → ⊥
not_later name [] k none there = cc
not_later name (x ∷ names) zero none there =
    let same : x ≡ name = some_same x name (Some x) refl there in
    let yes : is_same_name name x ≡ true = ap (is_same_name name) same ∙ bytes_eq-same (map lower name) in
    let no : is_same_name name x ≡ false = or_first (is_same_name name x) (list_any (is_same_name name) names) none in
    let both : true ≡ false = sym yes ∙ no in
    cc
not_later name (x ∷ names) (suc k) none there = not_later name names k (or_second (is_same_name name x) (list_any (is_same_name name) names) none) there

one_place : (names : List (List ℕ)) → is_repeated names ≡ false → (j k : ℕ) (name : List ℕ) → slice_get names j ≡ Some name → slice_get names k ≡ Some name → j ≡ k
one_place [] none j k name one other = absurd (cc)
one_place (x ∷ names) none zero zero name one other = refl
one_place (x ∷ names) none zero (suc k) name one other =
    let same : x ≡ name = some_same x name (Some x) refl one in
    absurd (not_later x names k (or_first (list_any (is_same_name x) names) (is_repeated names) none) (other ∙ ap (λ (n : List ℕ). Some n) (sym same)))
one_place (x ∷ names) none (suc j) zero name one other =
    let same : x ≡ name = some_same x name (Some x) refl other in
    absurd (not_later x names j (or_first (list_any (is_same_name x) names) (is_repeated names) none) (one ∙ ap (λ (n : List ℕ). Some n) (sym same)))
one_place (x ∷ names) none (suc j) (suc k) name one other = ap suc (one_place names (or_second (list_any (is_same_name x) names) (is_repeated names) none) j k name one other)

port_place : (B : Device) → IsDevice B → (j k : ℕ) (port other : DevPort) → slice_get B.ports j ≡ Some port → slice_get B.ports k ≡ Some other → port.name ≡ other.name → j ≡ k
port_place B is j k port other one two same =
    one_place (names_of B.ports) is.ports.distinct j k other.name
    (slice_get-map (λ (p : DevPort). p.name) B.ports j ∙ ap (option_map (λ (p : DevPort). p.name)) one ∙ ap (λ (n : List ℕ). Some n) same)
    (slice_get-map (λ (p : DevPort). p.name) B.ports k ∙ ap (option_map (λ (p : DevPort). p.name)) two)

-- The inputs of the test access port.

record IsScalarPort (B : Device) (place : ℕ) : Type 0 where
  port : DevPort
  there : slice_get B.ports place ≡ Some port
  mode_is : port.mode ≡ mode.Input

input_mode : (m : PortMode) → is_mode mode.Input m ≡ true → m ≡ mode.Input
input_mode mode.Input h = refl
input_mode mode.Output h = absurd (cc)
input_mode mode.Inout h = absurd (cc)
input_mode mode.Linkage h = absurd (cc)

scalar_by : (B : Device) (place : ℕ) (o : Option DevPort) → slice_get B.ports place ≡ o → option_map_or (λ (p : DevPort). is_none p.range && is_mode mode.Input p.mode) o false ≡ true → IsScalarPort B place
scalar_by B place None e h = absurd (cc)
scalar_by B place (Some port) e h = record { port = port; there = e; mode_is = input_mode port.mode (and_right (is_none port.range) (is_mode mode.Input port.mode) h) }

scalar_at : (B : Device) (place : ℕ) → is_scalar_at B.ports mode.Input place ≡ true → IsScalarPort B place
scalar_at B place h = scalar_by B place (slice_get B.ports place) refl h

input_port : (B : Device) → IsDevice B → (input : TapInput) → IsScalarPort B (input_place B input)
input_port B is Tck = scalar_at B B.tck is.tap.tck
input_port B is Tms = scalar_at B B.tms is.tap.tms
input_port B is Tdi = scalar_at B B.tdi is.tap.tdi
input_port B is Trst = scalar_at B B.trst is.tap.trst

-- A start with its word is its start.

named_by : (name other : List ℕ) (index : Option ℕ) → IsPlain other → bit_word name index ≡ other → name ≡ other
named_by name other None plain e = e
named_by name other (Some index) plain e = absurd (not_plain name (decimal index ++ 93 ∷ []) (subst IsPlain (sym e) plain))

start_place : (B : Device) → IsDevice B → (k : ℕ) (line : Line) (p : IsPlaced B 0 B.ports k line) (place : ℕ) → IsScalarPort B place → word_of line ≡ port_word B place → p.number ≡ place
start_place B is k line p place port word =
    let word_is : bit_word p.port.name p.index ≡ port.port.name = sym (ap word_of p.line_is) ∙ word ∙ ap (λ (o : Option DevPort). option_map_or (λ (q : DevPort). q.name) o []) port.there in
    let plain : IsPlain port.port.name = identifier_plain port.port.name (all_at IsDevicePort B.ports place port.port is.ports.each port.there).name.identifier in
    port_place B is p.number place p.port port.port p.there port.there (named_by p.port.name port.port.name p.index plain word_is)

known_if : (c : Bool) → IsKnownPin (if c then pin.One else pin.Zero)
known_if true = inr refl
known_if false = inl refl

start_mode : (B : Device) (k : ℕ) (line : Line) (p : IsPlaced B 0 B.ports k line) (place : ℕ) (port : IsScalarPort B place) → p.number ≡ place → p.port.mode ≡ mode.Input
start_mode B k line p place port at =
    ap (λ (q : DevPort). q.mode) (some_same p.port port.port (slice_get B.ports place) (ap (slice_get B.ports) (sym at) ∙ p.there) port.there) ∙ port.mode_is

turned : (a b : ℕ) → a == b ≡ false → b == a ≡ false
turned a b h = grind arith

trst_not_tms : (B : Device) → IsDevice B → B.trst == B.tms ≡ false
trst_not_tms B is =
    let same : ℕ → ℕ → Bool = λ a b. a == b in
    let first = or_second (list_any (same B.tck) (B.tms ∷ B.tdi ∷ B.tdo ∷ B.trst ∷ [])) (any_pair same (B.tms ∷ B.tdi ∷ B.tdo ∷ B.trst ∷ [])) is.tap.apart in
    let second = or_first (list_any (same B.tms) (B.tdi ∷ B.tdo ∷ B.trst ∷ [])) (any_pair same (B.tdi ∷ B.tdo ∷ B.trst ∷ [])) first in
    let third = or_second (B.tms == B.tdi) (list_any (same B.tms) (B.tdo ∷ B.trst ∷ [])) second in
    let fourth = or_second (B.tms == B.tdo) (list_any (same B.tms) (B.trst ∷ [])) third in
    turned B.tms B.trst (or_first (B.tms == B.trst) false fourth)

start_keeps : (B : Device) → IsDevice B → (k : ℕ) (line : Line) → IsPlaced B 0 B.ports k line → KeepsLevels B line
start_keeps B is k line p = record {
  known = λ input word gives.
      let port = input_port B is input in
      let at = start_place B is k line p (input_place B input) port word in
      subst IsKnownPin (sym (ap value_of p.line_is ∙ input_value B (0 + p.number) p.port (0 + p.number == B.tms) (start_mode B k line p (input_place B input) port at) refl)) (known_if (0 + p.number == B.tms));
  reset = λ word start.
      let port = input_port B is Trst in
      let at = start_place B is k line p B.trst port word in
      let place : 0 + p.number ≡ B.trst = (let e : 0 + p.number ≡ p.number = omega arith in e) ∙ at in
      ap value_of p.line_is ∙ input_value B (0 + p.number) p.port false (start_mode B k line p B.trst port at) (ap (λ (n : ℕ). n == B.tms) place ∙ trst_not_tms B is);
}

event_keeps : (B : Device) (line : Line) → IsEvent B line → KeepsLevels B line
event_keeps B (Start word value) event = absurd event
event_keeps B (Set word value) event =
    record { known = λ input named gives. subst IsKnownPin (sym event.set.value_is) (level_known event.level); reset = λ named start. absurd (let no : act.Set ≡ act.Start = start in cc) }
event_keeps B (Expect word value) event = record { known = λ input named gives. absurd (gives refl); reset = λ named start. absurd (let no : act.Expect ≡ act.Start = start in cc) }

keeps_at : (B : Device) → IsDevice B → (rest : List Line) → AreEvents B rest → (place : ℕ) (line : Line) → slice_get (starts B ++ rest) place ≡ Some line → KeepsLevels B line
keeps_at B is rest events place line there = by (cases_lt place (length (starts B)))
  where
    by : (place < length (starts B)) ⊎ (length (starts B) ≤ place) → KeepsLevels B line
    by (inl low) = start_keeps B is place line (placed B place line (sym (slice_get-append_left (starts B) rest place low) ∙ there))
    by (inr high) =
        let at : place ≡ length (starts B) + (place - length (starts B)) = omega (arith, high) in
        event_keeps B line (all_at (IsEvent B) rest (place - length (starts B)) line events (sym (slice_get-append_right (starts B) rest place (place - length (starts B)) at) ∙ there))

pub programs_keep_levels : ProgramsKeepLevels
programs_keep_levels B is place line there =
    let parts = split B in
    keeps_at B is parts.rest parts.events place line (ap (λ (lines : List Line). slice_get lines place) (sym parts.whole) ∙ there)
