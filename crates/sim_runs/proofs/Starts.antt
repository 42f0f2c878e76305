-- The start of a script, and that each of its lines can be played.
use Rattle.std.proofs.Common.{◌≡◌, ◌≢◌, ℕ, suc, ◌+◌, ◌<◌, ◌≤◌, true, List, [], ◌∷◌, ◌++◌, length, refl, sym, ◌∙◌, ap, arith, Option, Some, None, inl, inr}
use Rattle.std.specs.Option.{option_map, option_and_then}
use Rattle.std.specs.List.{slice_get, All, AllByRecursion}
use Rattle.std.proofs.lemmas.Bool.{cases_lt}
use Rattle.std.proofs.lemmas.Bool.Decides.{eqb_tells}
use Rattle.std.proofs.lemmas.List.Elements.{All-from_recursion}
use Rattle.std.proofs.lemmas.Option.{same_Some}
use Rattle.list_laws.proofs.Options.{some_there}
use Rattle.signal_values.specs.declared.Sig.{Sig}
use Rattle.signal_values.specs.declared.Sig.TheVariants.{Unknown}
use Rattle.cell_library.specs.Flops.{flop_start}
use Rattle.netlist_model.specs.declared.NetId.{NetId}
use Rattle.netlist_model.specs.declared.PinBit.{PinBit}
use Rattle.netlist_model.specs.declared.Dir.{Dir}
use Rattle.netlist_model.specs.declared.Dir.TheVariants.{Input, Output, Inout}
use Rattle.netlist_model.specs.Lists.{PortView, NetlistView, bit_net}
use Rattle.netlist_model.specs.Settled.{feed_values, follows_pin}
use Rattle.netlist_model.specs.Formed.{IsWellFormed}
use Rattle.netlist_model.specs.Runs.{Moment, IsLegal, IsStart}
use Rattle.netlist_model.specs.LawsRuns.{SameMoment}
use Rattle.netlist_model.proofs.LawsRuns.{run_exists, start_same}
use Rattle.scan_vectors.specs.declared.lines.Act.{Act}
use Rattle.scan_vectors.specs.declared.lines.Act.TheVariants.{Start, Set, Expect}
use Rattle.scan_vectors.specs.declared.scripts.script.ScriptLine.{ScriptLine}
use Rattle.scan_vectors.specs.Scripts.{IsPlayable, IsStartAt}
use Rattle.netlist_meaning.specs.Pins.{PinsView, ArePinsOf, AreFirstPins, SetsPin, net_of, outside}
use Rattle.sim_runs.specs.Runs.{net_number, event_of, events_at, events_of, IsRunOf}
use Rattle.sim_runs.specs.PlayedScript.{AreKnown, CanPlay, CanStart, IsFirst, TakesStart}

-- each line can be played
pub can_play : (N : NetlistView) (script : List ScriptLine) (place : ℕ) (line : ScriptLine) → IsPlayable N script → slice_get script place ≡ Some line → CanPlay line.act N line
can_play N script place line playable at = go line.act refl
  where
    go : (act : Act) → line.act ≡ act → CanPlay act N line
    go Start is = tt
    go Set is =
        let net = some_there (bit_net N line.pin.port.0 line.pin.bit) (playable.there place line at) in
        record { net = net.0; named = net.1; legal = playable.legal place line net.0 at (λ e. let no : Set ≡ Expect = sym is ∙ e in cc) net.1 }
    go Expect is = playable.there place line at

-- each start can be taken
side_taken : (found : Option PortView) (bit : ℕ) (net : NetId) → option_and_then (λ (port : PortView). slice_get port.nets bit) found ≡ Some net
    → option_map (λ (port : PortView). port.dir) found ≢ Some Output → follows_pin (option_map (λ (port : PortView). port.dir) found) ≡ true
side_taken None bit net named other = absurd (cc)
side_taken (Some port) bit net named other = go port.dir refl
  where
    go : (dir : Dir) → port.dir ≡ dir → follows_pin (Some dir) ≡ true
    go Input is = refl
    go Inout is = refl
    go Output is = absurd (other (ap (λ (d : Dir). Some d) is))

pub can_start : (N : NetlistView) (script : List ScriptLine) (ports : List PortView) (place : ℕ) (line : ScriptLine) → ports ≡ N.ports → IsPlayable N script → slice_get script place ≡ Some line
    → CanStart line.act ports line
can_start N script ports place line same playable at = rw same (go line.act refl)
  where
    go : (act : Act) → line.act ≡ act → CanStart act N.ports line
    go Start is =
        let net = some_there (bit_net N line.pin.port.0 line.pin.bit) (playable.there place line at) in
        record {
          net = net.0;
          named = net.1;
          taken = side_taken (slice_get N.ports line.pin.port.0) line.pin.bit net.0 net.1 (playable.outputs place line at (λ e. let no : Start ≡ Expect = sym is ∙ e in cc));
        }
    go Set is = tt
    go Expect is = tt

-- the starts among the first so many lines were taken
pub record AreTaken (N : NetlistView) (script : List ScriptLine) (count : ℕ) (pins : PinsView) : Type 0 where
  pub made : ArePinsOf N pins
  pub known : AreKnown N (outside pins)
  pub starts : (place : ℕ) (line : ScriptLine) → place < count → slice_get script place ≡ Some line → line.act ≡ Start → outside pins (net_number N line.pin) ≡ line.value

pub none_taken : (N : NetlistView) (script : List ScriptLine) (pins : PinsView) → ArePinsOf N pins → AreFirstPins N (outside pins) → AreTaken N script 0 pins
none_taken N script pins made first = record {
  made = made;
  known = λ net control. inl (first.controls net control);
  starts = λ place line below at start. absurd (omega arith);
}

net_is : (N : NetlistView) (pin : PinBit) (net : NetId) → bit_net N pin.port.0 pin.bit ≡ Some net → net_number N pin ≡ net.0
net_is N pin net named = rw named refl

-- no change
taken_over : (N : NetlistView) (script : List ScriptLine) (count : ℕ) (old new : PinsView) (line : ScriptLine) → slice_get script count ≡ Some line → line.act ≢ Start → ArePinsOf N new
    → ((net : ℕ) → outside new net ≡ outside old net) → AreTaken N script count old → AreTaken N script (count + 1) new
taken_over N script count old new line at other made same so_far = record {
  made = made;
  known = λ net control. rw (same net) (so_far.known net control);
  starts = λ place found below there start. same (net_number N found.pin) ∙ elim (cases_lt place count) [
    | inl early ↦ so_far.starts place found early there start
    | inr late ↦ (let here : place ≡ count = omega arith in
        let line_is : found ≡ line = same_Some found line (sym there ∙ ap (λ k. slice_get script k) here ∙ at) in
        absurd (other (ap (λ (l : ScriptLine). l.act) (sym line_is) ∙ start)))
  ];
}

pin_same : (a b : PinBit) → a.port.0 ≡ b.port.0 → a.bit ≡ b.bit → a ≡ b
pin_same a b p q = let make : ℕ → ℕ → PinBit = λ x y. record { port = record { 0 = x }; bit = y } in ap (λ x. make x a.bit) p ∙ ap (λ y. make b.port.0 y) q

net_same : (a b : NetId) → a.0 ≡ b.0 → a ≡ b
net_same a b e = let make : ℕ → NetId = λ x. record { 0 = x } in ap make e

-- two starts have two nets
starts_apart : (N : NetlistView) (script : List ScriptLine) (place count : ℕ) (found line : ScriptLine) (net : NetId) → IsWellFormed N → IsPlayable N script → place < count
    → slice_get script place ≡ Some found → slice_get script count ≡ Some line → found.act ≡ Start → line.act ≡ Start → net_of N.ports line.pin ≡ Some net → net_number N found.pin ≢ net.0
starts_apart N script place count found line net formed playable below there at start start' named is =
    let own = some_there (bit_net N found.pin.port.0 found.pin.bit) (playable.there place found there) in
    let nets : own.0 ≡ net = net_same own.0 net (sym (net_is N found.pin own.0 own.1) ∙ is) in
    let own_named : bit_net N found.pin.port.0 found.pin.bit ≡ Some net = own.1 ∙ ap (λ (n : NetId). Some n) nets in
    let bits = formed.bits_apart found.pin.port.0 line.pin.port.0 found.pin.bit line.pin.bit net own_named named in
    let pins = pin_same found.pin line.pin bits.0 bits.1 in
    let first : IsStartAt script place line.pin = record { line = found; there = there; start = start; pin_is = pins } in
    let second : IsStartAt script count line.pin = record { line = line; there = at; start = start'; pin_is = refl } in
    let one = playable.once place count line.pin first second in absurd (omega arith)

-- a start was taken
start_taken : (N : NetlistView) (script : List ScriptLine) (count : ℕ) (old new : PinsView) (line : ScriptLine) → IsWellFormed N → IsPlayable N script → slice_get script count ≡ Some line → line.act ≡ Start
    → ArePinsOf N new → SetsPin N.ports line.pin line.value (outside old) (outside new) → AreTaken N script count old → AreTaken N script (count + 1) new
start_taken N script count old new line formed playable at start made sets so_far = record {
  made = made;
  known = λ net control. elim (eqb_tells net sets.net.0) [
    | inl h ↦ (let legal = playable.legal count line sets.net at (λ e. let no : Start ≡ Expect = sym start ∙ e in cc) sets.named in
        let value : outside new net ≡ line.value = sets.each net ∙ rw h.0 refl in
        rw value (legal.control (rw h.1 at control)))
    | inr h ↦ (let value : outside new net ≡ outside old net = sets.each net ∙ rw h.0 refl in rw value (so_far.known net control))
  ];
  starts = λ place found below there begins. elim (cases_lt place count) [
    | inl early ↦ (let apart = starts_apart N script place count found line sets.net formed playable early there at begins start sets.named in
        elim (eqb_tells (net_number N found.pin) sets.net.0) [
          | inl h ↦ absurd (apart h.1)
          | inr h ↦ (let value : outside new (net_number N found.pin) ≡ outside old (net_number N found.pin) = sets.each (net_number N found.pin) ∙ rw h.0 refl in
              value ∙ so_far.starts place found early there begins)
        ])
    | inr late ↦ (let here : place ≡ count = omega arith in
        let line_is : found ≡ line = same_Some found line (sym there ∙ ap (λ k. slice_get script k) here ∙ at) in
        let net : net_number N found.pin ≡ sets.net.0 = ap (λ (l : ScriptLine). net_number N l.pin) line_is ∙ net_is N line.pin sets.net sets.named in
        elim (eqb_tells (net_number N found.pin) sets.net.0) [
          | inl h ↦ (let value : outside new (net_number N found.pin) ≡ line.value = sets.each (net_number N found.pin) ∙ rw h.0 refl in
              value ∙ ap (λ (l : ScriptLine). l.value) (sym line_is))
          | inr h ↦ absurd (h.1 net)
        ])
  ];
}

-- one line more
pub taken_next : (N : NetlistView) (script : List ScriptLine) (count : ℕ) (old new : PinsView) (line : ScriptLine) → IsWellFormed N → IsPlayable N script → slice_get script count ≡ Some line
    → new.ports ≡ old.ports → length new.values ≡ length old.values → TakesStart line.act old.ports line (outside old) (outside new) → AreTaken N script count old → AreTaken N script (count + 1) new
taken_next N script count old new line formed playable at ports long takes so_far = go line.act refl (rw so_far.made.ports at takes)
  where
    made : ArePinsOf N new
    made = record { ports = ports ∙ so_far.made.ports; count = long ∙ so_far.made.count }

    go : (act : Act) → line.act ≡ act → TakesStart act N.ports line (outside old) (outside new) → AreTaken N script (count + 1) new
    go Start is sets = start_taken N script count old new line formed playable at is made sets so_far
    go Set is same = taken_over N script count old new line at (λ e. let no : Set ≡ Start = sym is ∙ e in cc) made same so_far
    go Expect is same = taken_over N script count old new line at (λ e. let no : Expect ≡ Start = sym is ∙ e in cc) made same so_far

-- a start from flip-flops that are all unknown
pub first_is : (N : NetlistView) (given : ℕ → Sig) (m : Moment) → ((i : ℕ) → given i ≡ Unknown) → IsStart N given m → IsStart N (λ cell. Unknown) m
first_is N given m unknown start = record {
  controls = start.controls;
  settled = start.settled;
  flops = record {
    each = λ i cell kind live flop. start.flops.each i cell kind live flop ∙ ap (λ (x : Sig). flop_start kind (feed_values m.value cell.feeds) x) (unknown i);
  };
}

-- the events of a script are legal
events_legal : (N : NetlistView) (script : List ScriptLine) → ((place : ℕ) (line : ScriptLine) → slice_get script place ≡ Some line → line.act ≡ Set → IsLegal N (event_of N line))
    → AllByRecursion (IsLegal N) (events_of N script)
events_legal N [] each = tt
events_legal N (line ∷ script) each = go line.act refl (events_legal N script (λ place found at set. each (suc place) found at set))
  where
    go : (act : Act) → line.act ≡ act → AllByRecursion (IsLegal N) (events_of N script) → AllByRecursion (IsLegal N) (events_at act (event_of N line) ++ events_of N script)
    go Start is rest = rest
    go Set is rest = (each 0 line refl is, rest)
    go Expect is rest = rest

set_legal : (N : NetlistView) (script : List ScriptLine) → IsPlayable N script → (place : ℕ) (line : ScriptLine) → slice_get script place ≡ Some line → line.act ≡ Set → IsLegal N (event_of N line)
set_legal N script playable place line at set =
    let net = some_there (bit_net N line.pin.port.0 line.pin.bit) (playable.there place line at) in
    let legal = playable.legal place line net.0 at (λ e. let no : Set ≡ Expect = sym set ∙ e in cc) net.1 in
    rw (net_is N line.pin net.0 net.1) legal

-- the run of a script, from a moment that is its start
pub record HasRun (N : NetlistView) (script : List ScriptLine) (m : Moment) : Type 0 where
  pub moment : ℕ → Moment
  pub run : IsRunOf N script moment
  pub same : SameMoment N m (moment 0)

pub has_run : (N : NetlistView) (script : List ScriptLine) (m : Moment) → IsWellFormed N → IsPlayable N script → IsFirst N script m → HasRun N script m
has_run N script m formed playable first =
    let legal : All (IsLegal N) (events_of N script) = All-from_recursion (IsLegal N) (events_of N script) (events_legal N script (set_legal N script playable)) in
    let run = run_exists N formed m.pins (λ cell. Unknown) (events_of N script) first.start.controls legal in
    record {
      moment = run.0;
      run = record { starts = λ place line at start. run.2 (net_number N line.pin) ∙ first.starts place line at start; run = run.1 };
      same = start_same N (λ cell. Unknown) (λ cell. Unknown) m (run.0 0) formed first.start run.1.start (λ net g. sym (run.2 net)) (λ i cell kind live flop. refl);
    }
