-- The lines of a device's program are legal for a netlist with its ports, behind starts of hidden bits.
use Rattle.std.proofs.Common.{◌≡◌, ◌≢◌, ◌⊎◌, ℕ, zero, suc, ◌+◌, ◌-◌, ◌<◌, ◌≤◌, ◌==◌, Bool, true, false, not, ◌||◌, List, [], ◌∷◌, ◌++◌, take, length, slice_get, if◌then◌else◌, Option, Some, None, option_map, refl, sym, ap, ◌∙◌, subst, inl, inr, arith}
use Rattle.std.specs.Prelude.{option_and_then}
use Rattle.std.specs.Option.{option_map_or}
use Rattle.std.proofs.lemmas.Bool.{cases_lt}
use Rattle.std.proofs.lemmas.List.{take-append-le}
use Rattle.std.proofs.lemmas.Option.{slice_get_within}
use Rattle.list_laws.proofs.Lists.{slice_get-append_left, slice_get-append_right, all_at, in_front}
use Rattle.list_laws.proofs.Tests.{and_right}
use Rattle.list_laws.proofs.Options.{some_same}
use Rattle.signal_values.specs.declared.PinSig.{PinSig}
use Rattle.signal_values.specs.declared.PinSig.TheVariants as pin
use Rattle.signal_values.specs.Values.{bit}
use Rattle.netlist_model.specs.declared.Dir.{Dir}
use Rattle.netlist_model.specs.declared.Dir.TheVariants.{Input, Output, Inout}
use Rattle.netlist_model.specs.declared.NetId.{NetId}
use Rattle.netlist_model.specs.declared.PinBit.{PinBit}
use Rattle.netlist_model.specs.Lists.{PortView, NetlistView, direction}
use Rattle.netlist_model.specs.Settled.{follows_pin}
use Rattle.netlist_model.specs.Formed.{width_of}
use Rattle.netlist_model.specs.Runs.{IsKnownPin}
use Rattle.netlist_model.specs.Ports.{BitHasDirection}
use Rattle.netlist_link.specs.Linked.{LinkedView, is_straight}
use Rattle.netlist_link.specs.PinWords.{pin_at}
use Rattle.netlist_link.specs.WellNamed.{index_from}
use Rattle.bsdl_device.specs.declared.values.PortMode.{PortMode}
use Rattle.bsdl_device.specs.declared.values.PortMode.TheVariants as mode
use Rattle.bsdl_device.specs.declared.values.PortRange.{PortRange}
use Rattle.bsdl_device.specs.declared.values.DevPort.{DevPort}
use Rattle.bsdl_device.specs.declared.values.Device.{Device}
use Rattle.bsdl_device.specs.Ports.{indices, is_mode}
use Rattle.bsdl_device.specs.IsDevice.{is_tap_place}
use Rattle.wrapped_chip.proofs.Legal.{level_known}
use Rattle.plan_fitting.specs.Devices.{mode_of_side}
use Rattle.scan_vectors.specs.declared.lines.Act.TheVariants as act
use Rattle.scan_vectors.specs.declared.lines.Line.{Line}
use Rattle.scan_vectors.specs.declared.lines.Line.TheVariants.{Start, Set, Expect}
use Rattle.scan_vectors.specs.Grammar.{act_of, pin_of as word_of, value_of}
use Rattle.scan_vectors.specs.Pins.{Names, side_of, net_of, TakesValue, HasStart}
use Rattle.scan_vectors.specs.Rules.{BreaksRule, IsBroken, IsUnbroken, DrivesOutput, BlursControl, ExpectsInput, StartsAgain, StartsLate, RunsEarly}
use Rattle.scan_vectors.specs.Rules.BreaksRule.{unknown, output, control, input, again, late, early}
use Rattle.scan_vectors.proofs.Named.{bit_direction}
use Rattle.scan_programs.specs.Pins.{bit_word, port_word, start_value, takes_start, starts}
use Rattle.scan_programs.specs.Met.{input_place}
use Rattle.program_runs.specs.Lines.{IsSetOf}
use Rattle.program_runs.specs.ScriptsWords.{WordsNameBits}
use Rattle.program_runs.specs.Beside.{place_there, HasScalarPort, IsDescribed}
use Rattle.program_runs.specs.ScriptsLaws.{AreHiddenStarts, ProgramsAreLegal}
use Rattle.program_runs.proofs.Pins.{index_at_bit, index_there, index_within, place_is, start_is_inside, place_own, place_once, names_bit}
use Rattle.program_runs.proofs.Starts.{input_value}
use Rattle.program_runs.proofs.Named.{port_named}
use Rattle.program_runs.proofs.ScriptsPlaces.{starts_before, IsPlaced, placed, listed}
use Rattle.program_runs.proofs.Events.{IsReaderOf, IsEvent, AreEvents, split}

-- Words.

-- the word names the bit of the device's port, and no other
record IsNamed (L : LinkedView) (word : List ℕ) (number bit : ℕ) (other : DevPort) : Type 0 where
  named : Names L word (pin_at number bit)
  only : (pin : PinBit) → Names L word pin → pin ≡ pin_at number bit
  dir : Dir
  side : side_of L.arena.lists (pin_at number bit) ≡ Some dir
  mode_is : other.mode ≡ mode_of_side dir

word_named : WordsNameBits → (L : LinkedView) (B : Device) → IsDescribed L B → (place : ℕ) (other : DevPort) → slice_get B.ports place ≡ Some other → other.mode ≢ mode.Linkage
    → (bit : ℕ) (index : Option ℕ) → slice_get (indices other.range) bit ≡ Some index → (word : List ℕ) → word ≡ bit_word other.name index → IsNamed L word (place_there L place) bit other
word_named law L B described place other there inside bit index at word is =
    let number = place_there L place in
    let same = described.ports place other there inside in
    let here = index_at_bit same.port.range bit index (subst (λ (r : Option PortRange). slice_get (indices r) bit ≡ Some index) same.range at) in
    record {
      named = port_named L B described number other same bit index here.within here.is word is;
      only = λ pin names.
          names_bit law L B described place other same.port same same.there index (index_within same.port.range bit index here) word is pin names
          ∙ ap (pin_at number) (place_is same.port.range bit index here);
      dir = same.port.dir;
      side = ap (option_map (λ (p : PortView). p.dir)) same.there;
      mode_is = same.mode;
    }

scalar_named : WordsNameBits → (L : LinkedView) (B : Device) → IsDescribed L B → (place : ℕ) (side : PortMode) → side ≢ mode.Linkage → (has : HasScalarPort B place side) → (word : List ℕ)
    → word ≡ port_word B place → IsNamed L word (place_there L place) 0 has.port
scalar_named law L B described place side inside has word is =
    word_named law L B described place has.port has.there (λ e. inside (sym has.mode_is ∙ e)) 0 None (ap (λ (r : Option PortRange). slice_get (indices r) 0) has.scalar) word
    (is ∙ ap (λ (o : Option DevPort). option_map_or (λ (p : DevPort). p.name) o []) has.there)

-- Sides.

same_side : (a b : Dir) (o : Option Dir) → o ≡ Some a → o ≡ Some b → a ≡ b
same_side a b o e f = cc

-- the side of what the word names
side_named : (L : LinkedView) (word : List ℕ) (number bit : ℕ) (other : DevPort) (n : IsNamed L word number bit other) (pin : PinBit) (dir : Dir) → Names L word pin → side_of L.arena.lists pin ≡ Some dir
    → other.mode ≡ mode_of_side dir
side_named L word number bit other n pin dir names side =
    let same : side_of L.arena.lists pin ≡ Some n.dir = ap (side_of L.arena.lists) (n.only pin names) ∙ n.side in
    n.mode_is ∙ ap mode_of_side (same_side n.dir dir (side_of L.arena.lists pin) same side)

takes_by : (m : PortMode) (dir : Dir) → m ≡ mode_of_side dir → (is_mode mode.Input m || is_mode mode.Inout m) ≡ follows_pin (Some dir)
takes_by m Input e = ap (λ (k : PortMode). is_mode mode.Input k || is_mode mode.Inout k) e
takes_by m Output e = ap (λ (k : PortMode). is_mode mode.Input k || is_mode mode.Inout k) e
takes_by m Inout e = ap (λ (k : PortMode). is_mode mode.Input k || is_mode mode.Inout k) e

reads_by : (m : PortMode) (dir : Dir) → m ≡ mode_of_side dir → (is_mode mode.Output m || is_mode mode.Inout m) ≡ true → dir ≢ Input
reads_by m dir e read is =
    let none : m ≡ mode.Input = e ∙ ap mode_of_side is in
    let no : false ≡ true = sym (ap (λ (k : PortMode). is_mode mode.Output k || is_mode mode.Inout k) none) ∙ read in
    cc

read_is_inside : (m : PortMode) → (is_mode mode.Output m || is_mode mode.Inout m) ≡ true → m ≢ mode.Linkage
read_is_inside m read e = let no : false ≡ true = sym (ap (λ (k : PortMode). is_mode mode.Output k || is_mode mode.Inout k) e) ∙ read in cc

reader_mode : (B : Device) (word : List ℕ) (r : IsReaderOf B word) → (is_mode mode.Output r.port.mode || is_mode mode.Inout r.port.mode) ≡ true
reader_mode B word r = and_right (not (is_tap_place B r.place)) (is_mode mode.Output r.port.mode || is_mode mode.Inout r.port.mode) r.read

-- Lines.

-- a start among the starts, or an event behind them
abbrev IsLineOf : Device → ℕ → Line → Type 0
IsLineOf B place line = (IsPlaced B 0 B.ports place line × (place < length (starts B))) ⊎ ((length (starts B) ≤ place) × IsEvent B line)

line_at : (B : Device) (rest : List Line) → AreEvents B rest → (place : ℕ) (line : Line) → slice_get (starts B ++ rest) place ≡ Some line → IsLineOf B place line
line_at B rest events place line there = by (cases_lt place (length (starts B)))
  where
    by : (place < length (starts B)) ⊎ (length (starts B) ≤ place) → IsLineOf B place line
    by (inl low) = inl (placed B place line (sym (slice_get-append_left (starts B) rest place low) ∙ there), low)
    by (inr high) =
        let k = place - length (starts B) in
        let at : place ≡ length (starts B) + (place - length (starts B)) = omega (arith, high) in
        inr (high, all_at (IsEvent B) rest k line events (sym (slice_get-append_right (starts B) rest place k at) ∙ there))

start_named : WordsNameBits → (L : LinkedView) (B : Device) → IsDescribed L B → (k : ℕ) (line : Line) (p : IsPlaced B 0 B.ports k line) → IsNamed L (word_of line) (place_there L p.number) p.bit p.port
start_named law L B described k line p =
    word_named law L B described p.number p.port p.there (start_is_inside p.port p.takes) p.bit p.index p.at (word_of line) (ap word_of p.line_is)

set_named : WordsNameBits → (L : LinkedView) (B : Device) (described : IsDescribed L B) → (word : List ℕ) (value : PinSig) (s : IsSetOf B word value)
    → IsNamed L word (place_there L (input_place B s.input)) 0 (described.input_is s.input).port
set_named law L B described word value s = scalar_named law L B described (input_place B s.input) mode.Input (λ e. cc) (described.input_is s.input) word s.set.word_is

reader_named : WordsNameBits → (L : LinkedView) (B : Device) → IsDescribed L B → (word : List ℕ) (r : IsReaderOf B word) → IsNamed L word (place_there L r.place) r.bit r.port
reader_named law L B described word r = word_named law L B described r.place r.port r.there (read_is_inside r.port.mode (reader_mode B word r)) r.bit r.index r.at word r.named

tdo_named : WordsNameBits → (L : LinkedView) (B : Device) (described : IsDescribed L B) → (word : List ℕ) → word ≡ port_word B B.tdo → IsNamed L word (place_there L B.tdo) 0 described.tdo_is.port
tdo_named law L B described word is = scalar_named law L B described B.tdo mode.Output (λ e. cc) described.tdo_is word is

-- each line names a bit
line_named : WordsNameBits → (L : LinkedView) (B : Device) → IsDescribed L B → (place : ℕ) (line : Line) → IsLineOf B place line → (pin : PinBit) × Names L (word_of line) pin
line_named law L B described place line (inl start) = (pin_at (place_there L start.0.number) start.0.bit, (start_named law L B described place line start.0).named)
line_named law L B described place (Start word value) (inr event) = absurd event.1
line_named law L B described place (Set word value) (inr event) = (pin_at (place_there L (input_place B event.1.input)) 0, (set_named law L B described word value event.1).named)
line_named law L B described place (Expect word value) (inr event) = by event.1
  where
    by : (word ≡ port_word B B.tdo) ⊎ IsReaderOf B word → (pin : PinBit) × Names L word pin
    by (inl tdo) = (pin_at (place_there L B.tdo) 0, (tdo_named law L B described word tdo).named)
    by (inr r) = (pin_at (place_there L r.place) r.bit, (reader_named law L B described word r).named)

-- a start stands among the starts, and another line behind them
start_low : (B : Device) (place : ℕ) (line : Line) → act_of line ≡ act.Start → IsLineOf B place line → IsPlaced B 0 B.ports place line × (place < length (starts B))
start_low B place line start (inl own) = own
start_low B place (Start word value) start (inr event) = absurd event.1
start_low B place (Set word value) start (inr event) = absurd (cc)
start_low B place (Expect word value) start (inr event) = absurd (cc)

event_high : (B : Device) (place : ℕ) (line : Line) → act_of line ≢ act.Start → IsLineOf B place line → (length (starts B) ≤ place) × IsEvent B line
event_high B place line event (inl own) = absurd (event (ap act_of own.0.line_is))
event_high B place line event (inr high) = high

-- The rules.

no_output : WordsNameBits → (L : LinkedView) (B : Device) → IsDescribed L B → (place : ℕ) (line : Line) → IsLineOf B place line → DrivesOutput L line → ⊥
no_output law L B described place line (inl own) d =
    let p = own.0 in
    let side : p.port.mode ≡ mode.Output = side_named L (word_of line) (place_there L p.number) p.bit p.port (start_named law L B described place line p) d.pin Output d.named d.output in
    let no : false ≡ true = sym (takes_by p.port.mode Output side) ∙ p.takes in
    cc
no_output law L B described place (Start word value) (inr event) d = event.1
no_output law L B described place (Expect word value) (inr event) d = d.gives refl
no_output law L B described place (Set word value) (inr event) d =
    let s = event.1 in
    let has = described.input_is s.input in
    let side : has.port.mode ≡ mode.Output = side_named L word (place_there L (input_place B s.input)) 0 has.port (set_named law L B described word value s) d.pin Output d.named d.output in
    let no : mode.Input ≡ mode.Output = sym has.mode_is ∙ side in
    cc

known_start : (B : Device) (place : ℕ) (other : DevPort) → other.mode ≡ mode.Input → IsKnownPin (start_value B place other)
known_start B place other side = by (place == B.tms) refl
  where
    by : (b : Bool) → place == B.tms ≡ b → IsKnownPin (start_value B place other)
    by b e = subst IsKnownPin (sym (input_value B place other b side e)) (of b)
      where
        of : (c : Bool) → IsKnownPin (if c then pin.One else pin.Zero)
        of true = inr refl
        of false = inl refl

no_control : WordsNameBits → BitHasDirection → (L : LinkedView) (B : Device) → IsDescribed L B → (place : ℕ) (line : Line) → IsLineOf B place line → BlursControl L line → ⊥
no_control law directed L B described place (Start word value) (inr event) d = event.1
no_control law directed L B described place (Expect word value) (inr event) d = d.gives refl
no_control law directed L B described place (Set word value) (inr event) d = d.value (subst IsKnownPin (sym event.1.set.value_is) (level_known event.1.level))
no_control law directed L B described place line (inl own) d =
    let p = own.0 in
    let n = start_named law L B described place line p in
    let side : side_of L.arena.lists d.pin ≡ Some n.dir = ap (side_of L.arena.lists) (n.only d.pin d.named) ∙ n.side in
    let is : direction L.arena.lists.ports d.control.net.0 ≡ Some n.dir = bit_direction L.arena.lists d.pin d.control.net n.dir directed described.formed d.control.there side in
    let dir : n.dir ≡ Input = same_side n.dir Input (direction L.arena.lists.ports d.control.net.0) is d.control.control.0 in
    d.value (subst IsKnownPin (sym (ap value_of p.line_is)) (known_start B (0 + p.number) p.port (n.mode_is ∙ ap mode_of_side dir)))

no_input : WordsNameBits → (L : LinkedView) (B : Device) → IsDescribed L B → (place : ℕ) (line : Line) → IsLineOf B place line → ExpectsInput L line → ⊥
no_input law L B described place line (inl own) d = let no : act.Start ≡ act.Expect = sym (ap act_of own.0.line_is) ∙ d.expects in cc
no_input law L B described place (Start word value) (inr event) d = event.1
no_input law L B described place (Set word value) (inr event) d = let no : act.Set ≡ act.Expect = d.expects in cc
no_input law L B described place (Expect word value) (inr event) d = by event.1
  where
    by : (word ≡ port_word B B.tdo) ⊎ IsReaderOf B word → ⊥
    by (inl tdo) =
        let has = described.tdo_is in
        let side : has.port.mode ≡ mode.Input = side_named L word (place_there L B.tdo) 0 has.port (tdo_named law L B described word tdo) d.pin Input d.named d.input in
        let no : mode.Output ≡ mode.Input = sym has.mode_is ∙ side in
        cc
    by (inr r) =
        let side : r.port.mode ≡ mode.Input = side_named L word (place_there L r.place) r.bit r.port (reader_named law L B described word r) d.pin Input d.named d.input in
        reads_by r.port.mode Input side (reader_mode B word r) refl

-- what a front of a list has stands before its end
record IsFront {X : Type 0} (xs : List X) (n k : ℕ) (x : X) : Type 0 where
  low : k < n
  there : slice_get xs k ≡ Some x

front : {X : Type 0} (xs : List X) (n k : ℕ) (x : X) → slice_get (take n xs) k ≡ Some x → IsFront xs n k x
front xs zero k x h = absurd (cc)
front [] (suc n) k x h = absurd (cc)
front (y ∷ xs) (suc n) zero x h = record { low = omega arith; there = h }
front (y ∷ xs) (suc n) (suc k) x h = let more = front xs n k x h in record { low = omega (arith, more.low); there = more.there }

-- a line before this one of a program, behind starts of hidden bits
abbrev IsEarlier : List Line → List Line → ℕ → ℕ → Line → Type 0
IsEarlier front own k place line = (slice_get front place ≡ Some line) ⊎ ((j : ℕ) × IsFront own k j line)

earlier : (front own : List Line) (k place : ℕ) (line : Line) → slice_get (take (length front + k) (front ++ own)) place ≡ Some line → IsEarlier front own k place line
earlier starts own k place line h = by (cases_lt place (length starts))
  where
    at : IsFront (starts ++ own) (length starts + k) place line
    at = front (starts ++ own) (length starts + k) place line h

    by : (place < length starts) ⊎ (length starts ≤ place) → IsEarlier starts own k place line
    by (inl low) = inl (sym (slice_get-append_left starts own place low) ∙ at.there)
    by (inr high) =
        let j = place - length starts in
        let is : place ≡ length starts + (place - length starts) = omega (arith, high) in
        let before : place < length starts + k = at.low in
        inr (j, record { low = omega (arith, high, before); there = sym (slice_get-append_right starts own place j is) ∙ at.there })

-- two starts of one bit are one
one_place : (L : LinkedView) (B : Device) (j k : ℕ) (one other : Line) (p : IsPlaced B 0 B.ports j one) (q : IsPlaced B 0 B.ports k other) (pin : PinBit)
    → pin ≡ pin_at (place_there L p.number) p.bit → pin ≡ pin_at (place_there L q.number) q.bit → j ≡ k
one_place L B j k one other p q pin e f =
    let number : p.number ≡ q.number = place_once L p.number q.number (ap (λ (x : PinBit). x.port.0) (sym e ∙ f)) in
    let bit_is : p.bit ≡ q.bit = ap (λ (x : PinBit). x.bit) (sym e ∙ f) in
    p.stands ∙ ap (λ (n : ℕ). starts_before B.ports n + p.bit) number ∙ ap (λ (b : ℕ). starts_before B.ports q.number + b) bit_is ∙ sym q.stands

-- a bit of the device is none of a hidden port
own_pin : (L : LinkedView) (place bit : ℕ) (pin : PinBit) → pin ≡ pin_at (place_there L place) bit → is_straight L pin.port.0 ≡ true → ⊥
own_pin L place bit pin is hidden =
    let no : false ≡ true = sym (place_own L place) ∙ ap (λ (p : PinBit). is_straight L p.port.0) (sym is) ∙ hidden in
    cc

no_again : WordsNameBits → (L : LinkedView) (B : Device) → IsDescribed L B → (hs : List Line) → AreHiddenStarts L hs → (rest : List Line) → AreEvents B rest → (k : ℕ) (line : Line)
    → IsLineOf B k line → StartsAgain L (take (length hs + k) (hs ++ (starts B ++ rest))) line → ⊥
no_again law L B described hs hidden rest events k line is d = by (earlier hs (starts B ++ rest) k d.had.place d.had.line d.had.there)
  where
    p : IsPlaced B 0 B.ports k line
    p = (start_low B k line d.start is).0

    e : d.pin ≡ pin_at (place_there L p.number) p.bit
    e = (start_named law L B described k line p).only d.pin d.named

    by : IsEarlier hs (starts B ++ rest) k d.had.place d.had.line → ⊥
    by (inl there) = own_pin L p.number p.bit d.pin e (hidden.hidden d.had.place d.had.line d.pin there d.had.named)
    by (inr (j, at)) =
        let q = (start_low B j d.had.line d.had.start (line_at B rest events j d.had.line at.there)).0 in
        let f = (start_named law L B described j d.had.line q).only d.pin d.had.named in
        let same : k ≡ j = one_place L B k j line d.had.line p q d.pin e f in
        let low : j < k = at.low in
        omega (arith, same, low)

no_late : (L : LinkedView) (B : Device) (hs : List Line) → AreHiddenStarts L hs → (rest : List Line) → AreEvents B rest → (k : ℕ) (line : Line) → IsLineOf B k line
    → StartsLate (take (length hs + k) (hs ++ (starts B ++ rest))) line → ⊥
no_late L B hs hidden rest events k line is d = by (earlier hs (starts B ++ rest) k d.late.place d.late.line d.late.there)
  where
    by : IsEarlier hs (starts B ++ rest) k d.late.place d.late.line → ⊥
    by (inl there) = d.late.event (hidden.are d.late.place d.late.line there)
    by (inr (j, at)) =
        let high : length (starts B) ≤ j = (event_high B j d.late.line d.late.event (line_at B rest events j d.late.line at.there)).0 in
        let low : k < length (starts B) = (start_low B k line d.start is).1 in
        let before : j < k = at.low in
        omega (arith, high, low, before)

-- Each bit that takes a value has its start.

record IsStarted (L : LinkedView) (list : List Line) (pin : PinBit) : Type 0 where
  place : ℕ
  line : Line
  there : slice_get list place ≡ Some line
  start : act_of line ≡ act.Start
  named : Names L (word_of line) pin

record HasPinPort (M : NetlistView) (pin : PinBit) : Type 0 where
  port : PortView
  there : slice_get M.ports pin.port.0 ≡ Some port
  net : NetId
  has : slice_get port.nets pin.bit ≡ Some net

pin_port : (M : NetlistView) (pin : PinBit) (net : NetId) → net_of M pin ≡ Some net → HasPinPort M pin
pin_port M pin net at = by (slice_get M.ports pin.port.0) refl
  where
    by : (o : Option PortView) → slice_get M.ports pin.port.0 ≡ o → HasPinPort M pin
    by None e = absurd (let no : None ≡ Some net = sym (ap (option_and_then (λ (p : PortView). slice_get p.nets pin.bit)) e) ∙ at in cc)
    by (Some port) e = record { port = port; there = e; net = net; has = sym (ap (option_and_then (λ (p : PortView). slice_get p.nets pin.bit)) e) ∙ at }

own_started : WordsNameBits → (L : LinkedView) (B : Device) → IsDescribed L B → (pin : PinBit) → is_straight L pin.port.0 ≡ false → TakesValue L.arena.lists pin → IsStarted L (starts B) pin
own_started law L B described pin own takes =
    let has = pin_port L.arena.lists pin takes.net takes.there in
    let inner = described.inner pin.port.0 has.port own has.there in
    let place = inner.place in
    let other = inner.other in
    let same = described.ports place other inner.there inner.inside in
    let here : slice_get L.arena.lists.ports (place_there L place) ≡ Some has.port = ap (slice_get L.arena.lists.ports) inner.at ∙ has.there in
    let one : has.port ≡ same.port = some_same has.port same.port (slice_get L.arena.lists.ports (place_there L place)) here same.there in
    let inside : pin.bit < length has.port.nets = slice_get_within has.port.nets pin.bit has.net has.has in
    let low : pin.bit < width_of has.port.range = subst (λ (n : ℕ). pin.bit < n) (described.wide pin.port.0 has.port has.there) inside in
    let within : pin.bit < width_of same.port.range = subst (λ (p : PortView). pin.bit < width_of p.range) one low in
    let index = index_from same.port.range pin.bit in
    let at : slice_get (indices other.range) pin.bit ≡ Some index =
    ap (λ (r : Option PortRange). slice_get (indices r) pin.bit) same.range ∙ index_there same.port.range pin.bit within in
    let follows : follows_pin (Some same.port.dir) ≡ true =
    ap (λ (p : PortView). follows_pin (Some p.dir)) (sym one)
    ∙ sym (ap (λ (o : Option PortView). follows_pin (option_map (λ (p : PortView). p.dir) o)) has.there) ∙ takes.side in
    let is_taken : takes_start other ≡ true = takes_by other.mode same.port.dir same.mode ∙ follows in
    let word = bit_word other.name index in
    let names : Names L (bit_word other.name index) (pin_at (place_there L place) pin.bit) = (word_named law L B described place other inner.there inner.inside pin.bit index at word refl).named in
    record {
      place = starts_before B.ports place + pin.bit;
      line = Start word (start_value B (0 + place) other);
      there = listed B place other pin.bit index inner.there is_taken at;
      start = refl;
      named = subst (λ (n : ℕ). Names L (bit_word other.name index) (pin_at n pin.bit)) inner.at names;
    }

-- among those of hidden bits or those of the program
record IsStartedIn (L : LinkedView) (list : List Line) (bound : ℕ) (pin : PinBit) : Type 0 where
  is : IsStarted L list pin
  low : is.place < bound

started : WordsNameBits → (L : LinkedView) (B : Device) → IsDescribed L B → (hs : List Line) → AreHiddenStarts L hs → (rest : List Line) (pin : PinBit) → TakesValue L.arena.lists pin
    → IsStartedIn L (hs ++ (starts B ++ rest)) (length hs + length (starts B)) pin
started law L B described hs hidden rest pin takes = by (is_straight L pin.port.0) refl
  where
    by : (b : Bool) → is_straight L pin.port.0 ≡ b → IsStartedIn L (hs ++ (starts B ++ rest)) (length hs + length (starts B)) pin
    by true e =
        let s = hidden.all pin e takes in
        let low : s.place < length hs = slice_get_within hs s.place s.line s.there in
        record {
          is = record { place = s.place; line = s.line; there = slice_get-append_left hs (starts B ++ rest) s.place low ∙ s.there; start = s.start; named = s.named };
          low = omega (arith, low);
        }
    by false e =
        let s = own_started law L B described pin e takes in
        let low : s.place < length (starts B) = slice_get_within (starts B) s.place s.line s.there in
        record {
          is = record {
            place = length hs + s.place;
            line = s.line;
            there = slice_get-append_right hs (starts B ++ rest) (length hs + s.place) s.place refl ∙ slice_get-append_left (starts B) rest s.place low ∙ s.there;
            start = s.start;
            named = s.named;
          };
          low = omega (arith, low);
        }

has_start : WordsNameBits → (L : LinkedView) (B : Device) → IsDescribed L B → (hs : List Line) → AreHiddenStarts L hs → (rest : List Line) (pin : PinBit) → TakesValue L.arena.lists pin
    → HasStart L (hs ++ (starts B ++ rest)) pin
has_start law L B described hs hidden rest pin takes =
    let s = (started law L B described hs hidden rest pin takes).is in
    record { place = s.place; line = s.line; there = s.there; start = s.start; named = s.named }

no_early : WordsNameBits → (L : LinkedView) (B : Device) → IsDescribed L B → (hs : List Line) → AreHiddenStarts L hs → (rest : List Line) → (k : ℕ) (line : Line) → IsLineOf B k line
    → RunsEarly L (take (length hs + k) (hs ++ (starts B ++ rest))) line → ⊥
no_early law L B described hs hidden rest k line is d =
    let of = started law L B described hs hidden rest d.lacks.pin d.lacks.takes in
    let s = of.is in
    let low : s.place < length hs + length (starts B) = of.low in
    let high : length (starts B) ≤ k = (event_high B k line d.event is).0 in
    let before : s.place < length hs + k = omega (arith, low, high) in
    d.lacks.none
    (record { place = s.place; line = s.line; there = in_front (hs ++ (starts B ++ rest)) (length hs + k) s.place s.line before s.there; start = s.start; named = s.named })

-- The whole.

-- a line of the program
own_unbroken : WordsNameBits → BitHasDirection → (L : LinkedView) (B : Device) → IsDescribed L B → (hs : List Line) → AreHiddenStarts L hs → (rest : List Line) → AreEvents B rest
    → (k : ℕ) (line : Line) → IsLineOf B k line → BreaksRule L (take (length hs + k) (hs ++ (starts B ++ rest))) line → ⊥
own_unbroken law directed L B described hs hidden rest events k line is (unknown none) = let names = line_named law L B described k line is in none names.0 names.1
own_unbroken law directed L B described hs hidden rest events k line is (output d) = no_output law L B described k line is d
own_unbroken law directed L B described hs hidden rest events k line is (control d) = no_control law directed L B described k line is d
own_unbroken law directed L B described hs hidden rest events k line is (input d) = no_input law L B described k line is d
own_unbroken law directed L B described hs hidden rest events k line is (again d) = no_again law L B described hs hidden rest events k line is d
own_unbroken law directed L B described hs hidden rest events k line is (late d) = no_late L B hs hidden rest events k line is d
own_unbroken law directed L B described hs hidden rest events k line is (early d) = no_early law L B described hs hidden rest k line is d

-- each line
unbroken : WordsNameBits → BitHasDirection → (L : LinkedView) (B : Device) → IsDescribed L B → (hs : List Line) → AreHiddenStarts L hs → (rest : List Line) → AreEvents B rest
    → IsUnbroken L (hs ++ (starts B ++ rest))
unbroken law directed L B described hs hidden rest events place b = by (cases_lt place (length hs))
  where
    own : List Line
    own = starts B ++ rest

    by : (place < length hs) ⊎ (length hs ≤ place) → ⊥
    by (inl low) =
        let at : take place (hs ++ own) ≡ take place hs = take-append-le place hs own (omega (arith, low)) in
        hidden.unbroken place (record {
          line = b.line;
          there = sym (slice_get-append_left hs own place low) ∙ b.there;
          rule = subst (λ (before : List Line). BreaksRule L before b.line) at b.rule;
        })
    by (inr high) =
        let k = place - length hs in
        let is : place ≡ length hs + (place - length hs) = omega (arith, high) in
        let there : slice_get (starts B ++ rest) k ≡ Some b.line = sym (slice_get-append_right hs own place k is) ∙ b.there in
        own_unbroken law directed L B described hs hidden rest events k b.line (line_at B rest events k b.line there)
        (subst (λ (n : ℕ). BreaksRule L (take n (hs ++ (starts B ++ rest))) b.line) is b.rule)

pub programs_are_legal : WordsNameBits → BitHasDirection → ProgramsAreLegal
programs_are_legal law directed L B described hs hidden lines program =
    let parts = split B in
    let whole : hs ++ (starts B ++ parts.rest) ≡ lines.list = sym (program ∙ ap (λ (own : List Line). hs ++ own) parts.whole) in
    record {
      unbroken = subst (IsUnbroken L) whole (unbroken law directed L B described hs hidden parts.rest parts.events);
      started = subst (λ (list : List Line). (pin : PinBit) → TakesValue L.arena.lists pin → HasStart L list pin) whole (λ pin takes. has_start law L B described hs hidden parts.rest pin takes);
    }
