-- The ports of a netlist that keeps another's, as the device of a plan describes them, and their numbers behind hidden ones.
use Rattle.std.proofs.Common.{◌≡◌, ◌≢◌, ◌⊎◌, ℕ, zero, suc, ◌+◌, ◌-◌, ◌<◌, ◌≤◌, nat_lt, nat_le, Bool, true, false, ◌&&◌, if◌then◌else◌, List, [], ◌++◌, map, length, slice_get, Option, Some, None, option_map, refl, sym, ap, ◌∙◌, subst, inl, inr, arith, length-append, ltb-true, leb-true, lt-ltb, le-ltb}
use Rattle.std.specs.Prelude.{unwrap_or}
use Rattle.std.specs.List.{AllByRecursion}
use Rattle.std.proofs.lemmas.Bool.{cases_lt, and_parts}
use Rattle.std.proofs.lemmas.List.{length-map}
use Rattle.std.proofs.lemmas.Option.{slice_get-map, slice_get_within}
use Rattle.list_laws.proofs.Lists.{slice_get_there, slice_get-append_left, slice_get-append_right, all_at}
use Rattle.list_laws.proofs.Options.{some_same}
use Rattle.link_model.specs.Denoted.{name_bytes}
use Rattle.netlist_model.specs.declared.Dir.{Dir}
use Rattle.netlist_model.specs.declared.Dir.TheVariants.{Input, Output}
use Rattle.netlist_model.specs.Lists.{PortView}
use Rattle.netlist_link.specs.declared.straight.Straight.{Straight}
use Rattle.netlist_link.specs.Linked.{LinkedView, is_hidden, is_straight}
use Rattle.netlist_link.specs.Hidden.{EndsHidden}
use Rattle.netlist_link.specs.WellNamed.{IsWellNamed}
use Rattle.bsdl_device.specs.declared.values.PortMode.{PortMode}
use Rattle.bsdl_device.specs.declared.values.PortMode.TheVariants as mode
use Rattle.bsdl_device.specs.declared.values.DevPort.{DevPort}
use Rattle.bsdl_device.specs.declared.values.Device.{Device}
use Rattle.bsdl_device.specs.IsDevice.{IsDevicePort}
use Rattle.test_logic.specs.declared.TapInput.{TapInput}
use Rattle.test_logic.specs.declared.TapInput.TheVariants.{Tck, Tms, Tdi, Trst}
use Rattle.wrapped_chip.specs.Realises.{PortText, port_text, tap_ports, tap_place}
use Rattle.plan_texts.specs.declared.plan.Plan.{Plan}
use Rattle.plan_texts.specs.declared.plan.TapLine.{TapLine}
use Rattle.plan_fitting.specs.Devices.{mode_of_side, port_range, scalar_port}
use Rattle.plan_fitting.specs.DevicesLaws.{HasPorts, HasTapPlaces}
use Rattle.plan_fitting.proofs.DevicePorts.{HasBytes, ports_have_bytes}
use Rattle.scan_programs.specs.Met.{input_place}
use Rattle.conformance_report.specs.Agreement.{IsSamePort, PortsAgree}
use Rattle.program_runs.specs.ScriptsWords.{IsPlain, ArePlain}
use Rattle.program_runs.specs.Beside.{place_there, HasPortAs, HasScalarPort, HasInnerPort}
use Rattle.program_runs.proofs.Pins.{side_is, place_own}
use Rattle.program_runs.proofs.Plain.{identifier_plain}
use Rattle.written_netlists.specs.Written.{spelt, tap_of}

-- What is known: L is well named, its ports are those of K and then the plan's test access port, the last of K's are
-- hidden in both, and B has K's own ports, that and linkage.
pub record Known (L K : LinkedView) (p : Plan) (B : Device) : Type 0 where
  pub named : IsWellNamed L.names L.arena.lists
  pub numbers : (number : ℕ) → is_straight L number ≡ is_straight K number
  pub ends : EndsHidden K
  pub keeps : map (port_text (spelt L.names)) L.arena.lists.ports ≡ map (port_text (spelt K.names)) K.arena.lists.ports ++ tap_ports (tap_of p)
  pub has : HasPorts K p B
  pub places : HasTapPlaces K B

-- Hidden ports.

hidden_from : (first count number : ℕ) → (nat_le first number && nat_lt number (first + count)) ≡ true → (first ≤ number) × (number < first + count)
hidden_from first count number h = let both = and_parts _ _ h in (leb-true first number both.0, ltb-true number (first + count) both.1)

is_within : (first count number : ℕ) → first ≤ number → number < first + count → (nat_le first number && nat_lt number (first + count)) ≡ true
is_within first count number from below = grind arith

record LiesWithin (one other : Straight) : Type 0 where
  first : other.first ≤ one.first
  last : one.first + one.count ≤ other.first + other.count

-- what is hidden lies within what is hidden in the other
lies_within : (one other : Straight) → ((number : ℕ) → is_hidden one number ≡ is_hidden other number) → 0 < one.count → LiesWithin one other
lies_within one other same some =
    let last = one.first + one.count - 1 in
    let begin : (other.first ≤ one.first) × (one.first < other.first + other.count) =
    hidden_from other.first other.count one.first (sym (same one.first) ∙ is_within one.first one.count one.first (omega arith) (omega (arith, some))) in
    let end : (other.first ≤ last) × (last < other.first + other.count) =
    hidden_from other.first other.count last (sym (same last) ∙ is_within one.first one.count last (omega (arith, some)) (omega (arith, some))) in
    let low : other.first ≤ one.first = begin.0 in
    let high : one.first + one.count - 1 < other.first + other.count = end.1 in
    record { first = low; last = omega (arith, high, some) }

-- the one hides some where the other does
some_too : (one other : Straight) → ((number : ℕ) → is_hidden one number ≡ is_hidden other number) → 0 < one.count → 0 < other.count
some_too one other same some =
    let begin : (other.first ≤ one.first) × (one.first < other.first + other.count) =
    hidden_from other.first other.count one.first (sym (same one.first) ∙ is_within one.first one.count one.first (omega arith) (omega (arith, some))) in
    let from : other.first ≤ one.first = begin.0 in
    let below : one.first < other.first + other.count = begin.1 in
    omega (arith, from, below)

record IsSameStretch (one other : Straight) : Type 0 where
  count : one.count ≡ other.count
  first : 0 < other.count → one.first ≡ other.first

same_stretch : (one other : Straight) → ((number : ℕ) → is_hidden one number ≡ is_hidden other number) → IsSameStretch one other
same_stretch one other same = by (cases_lt 0 one.count) (cases_lt 0 other.count)
  where
    back : (number : ℕ) → is_hidden other number ≡ is_hidden one number
    back number = sym (same number)

    by : (0 < one.count) ⊎ (one.count ≤ 0) → (0 < other.count) ⊎ (other.count ≤ 0) → IsSameStretch one other
    by (inl some) (inl more) =
        let a = lies_within one other same some in
        let b = lies_within other one back more in
        let first : one.first ≡ other.first = omega (arith, a.first, b.first) in
        record { count = omega (arith, first, a.last, b.last); first = λ h. first }
    by (inl some) (inr none) = let more = some_too one other same some in absurd (omega (arith, more, none))
    by (inr none) (inl some) = let more = some_too other one back some in absurd (omega (arith, more, none))
    by (inr none) (inr nor) = record { count = omega (arith, none, nor); first = λ h. absurd (omega (arith, h, nor)) }

-- the same numbers stand behind the hidden ones
there_by : (one other : Straight) → IsSameStretch one other → (place : ℕ)
    → (if nat_lt place one.first then place else place + one.count) ≡ (if nat_lt place other.first then place else place + other.count)
there_by one other same place = by (cases_lt 0 other.count)
  where
    plain : (first count : ℕ) (b : Bool) → count ≡ 0 → (if b then place else place + count) ≡ place
    plain first count true none = refl
    plain first count false none = omega (arith, none)

    by : (0 < other.count) ⊎ (other.count ≤ 0) → (if nat_lt place one.first then place else place + one.count) ≡ (if nat_lt place other.first then place else place + other.count)
    by (inl some) =
        ap (λ (n : ℕ). if nat_lt place n then place else place + one.count) (same.first some)
        ∙ ap (λ (n : ℕ). if nat_lt place other.first then place else place + n) same.count
    by (inr none) =
        let count : one.count ≡ other.count = same.count in
        plain one.first one.count (nat_lt place one.first) (omega (arith, count, none)) ∙ sym (plain other.first other.count (nat_lt place other.first) (omega (arith, none)))

there_is : (L K : LinkedView) → ((number : ℕ) → is_straight L number ≡ is_straight K number) → (place : ℕ) → place_there L place ≡ place_there K place
there_is L K same place = there_by L.straight K.straight (same_stretch L.straight K.straight same) place

below_there : (K : LinkedView) (place : ℕ) → place < K.straight.first → place_there K place ≡ place
below_there K place low = ap (λ (b : Bool). if b then place else place + K.straight.count) (lt-ltb place K.straight.first low)

behind_there : (K : LinkedView) (k : ℕ) → EndsHidden K → place_there K (K.straight.first + k) ≡ length K.arena.lists.ports + k
behind_there K k ends =
    let place = K.straight.first + k in
    let e : K.straight.first + k + K.straight.count ≡ length K.arena.lists.ports + k = omega (arith, ends) in
    ap (λ (b : Bool). if b then place else place + K.straight.count) (le-ltb (K.straight.first + k) K.straight.first (omega arith)) ∙ e

-- an own port of K keeps its number
pub own_place : (L K : LinkedView) (p : Plan) (B : Device) → Known L K p B → (place : ℕ) → place < K.straight.first → place_there L place ≡ place
own_place L K p B known place low = there_is L K known.numbers place ∙ below_there K place low

-- a port of the test access port stands behind those of K
pub tap_number : (L K : LinkedView) (p : Plan) (B : Device) → Known L K p B → (k : ℕ) → place_there L (K.straight.first + k) ≡ length K.arena.lists.ports + k
tap_number L K p B known k = there_is L K known.numbers (K.straight.first + k) ∙ behind_there K k known.ends

-- a port of K that isn't hidden is an own one
pub own_below : (K : LinkedView) → EndsHidden K → (number : ℕ) → number < length K.arena.lists.ports → is_straight K number ≡ false → number < K.straight.first
own_below K ends number low own = by (cases_lt number K.straight.first)
  where
    by : (number < K.straight.first) ⊎ (K.straight.first ≤ number) → number < K.straight.first
    by (inl less) = less
    by (inr more) =
        let yes : is_straight K number ≡ true = is_within K.straight.first K.straight.count number more (omega (arith, ends, low)) in
        absurd (let no : true ≡ false = sym yes ∙ own in cc)

pub hidden_high : (L : LinkedView) (number : ℕ) → is_straight L number ≡ true → L.straight.first ≤ number
hidden_high L number hidden = (hidden_from L.straight.first L.straight.count number hidden).0

-- One port.

-- the port of L that reads so
record IsText (L : LinkedView) (place : ℕ) (text : PortText) : Type 0 where
  port : PortView
  there : slice_get L.arena.lists.ports place ≡ Some port
  is : port_text (spelt L.names) port ≡ text

text_by : (L : LinkedView) (place : ℕ) (text : PortText) (o : Option PortView) → slice_get L.arena.lists.ports place ≡ o → option_map (port_text (spelt L.names)) o ≡ Some text → IsText L place text
text_by L place text None e h = absurd (cc)
text_by L place text (Some port) e h =
    record { port = port; there = e; is = some_same (port_text (spelt L.names) port) text (Some (port_text (spelt L.names) port)) refl h }

text_at : (L : LinkedView) (texts : List PortText) → map (port_text (spelt L.names)) L.arena.lists.ports ≡ texts → (place : ℕ) (text : PortText) → slice_get texts place ≡ Some text → IsText L place text
text_at L texts keeps place text there =
    text_by L place text (slice_get L.arena.lists.ports place) refl (sym (slice_get-map (port_text (spelt L.names)) L.arena.lists.ports place) ∙ ap (λ (ts : List PortText). slice_get ts place) keeps ∙ there)

-- its name, in bytes
name_is : (L : LinkedView) → IsWellNamed L.names L.arena.lists → (place : ℕ) (port : PortView) (name : List ℕ) → slice_get L.arena.lists.ports place ≡ Some port → spelt L.names port.name ≡ name
    → name_bytes L.names port.name ≡ Some name
name_is L named place port name there is =
    let bytes = all_at (HasBytes L) L.arena.lists.ports place port (ports_have_bytes L named) there in
    let same : bytes.bytes ≡ name = sym (ap (λ (o : Option (List ℕ)). unwrap_or o []) bytes.is) ∙ is in
    bytes.is ∙ ap (λ (b : List ℕ). Some b) same

-- the device's port at this place is the netlist's with this number
pub record IsShared (L : LinkedView) (B : Device) (place number : ℕ) : Type 0 where
  pub other : DevPort
  pub there : slice_get B.ports place ≡ Some other
  pub same : IsSamePort L number other

shared : (L : LinkedView) (B : Device) → IsWellNamed L.names L.arena.lists → (place number : ℕ) (other : DevPort) (text : PortText) → slice_get B.ports place ≡ Some other → IsText L number text
    → text.name ≡ other.name → other.mode ≡ mode_of_side text.dir → other.range ≡ option_map port_range text.range → IsShared L B place number
shared L B named place number other text there is name side range = record {
  other = other;
  there = there;
  same = record {
    port = is.port;
    there = is.there;
    name = name_is L named number is.port other.name is.there (ap (λ (t : PortText). t.name) is.is ∙ name);
    mode = side ∙ ap (λ (t : PortText). mode_of_side t.dir) (sym is.is);
    range = range ∙ ap (λ (t : PortText). option_map port_range t.range) (sym is.is);
  };
}

-- The ports of K.

own_text : (L K : LinkedView) (p : Plan) (B : Device) → Known L K p B → (place : ℕ) (port : PortView) → slice_get K.arena.lists.ports place ≡ Some port → IsText L place (port_text (spelt K.names) port)
own_text L K p B known place port there =
    let own = map (port_text (spelt K.names)) K.arena.lists.ports in
    let at : slice_get own place ≡ Some (port_text (spelt K.names) port) = slice_get-map (port_text (spelt K.names)) K.arena.lists.ports place ∙ ap (option_map (port_text (spelt K.names))) there in
    text_at L (own ++ tap_ports (tap_of p)) known.keeps place (port_text (spelt K.names) port)
    (slice_get-append_left own (tap_ports (tap_of p)) place (slice_get_within own place (port_text (spelt K.names) port) at) ∙ at)

own_shared : (L K : LinkedView) (p : Plan) (B : Device) → Known L K p B → (place : ℕ) (port : PortView) → place < K.straight.first → slice_get K.arena.lists.ports place ≡ Some port
    → IsShared L B place place
own_shared L K p B known place port low there =
    let q = known.has.own place port low there in
    let spelled : spelt K.names port.name ≡ q.q.name = ap (λ (o : Option (List ℕ)). unwrap_or o []) q.name in
    shared L B known.named place place q.q (port_text (spelt K.names) port) q.there (own_text L K p B known place port there) spelled q.side q.range

pub own_port : (L K : LinkedView) (p : Plan) (B : Device) → Known L K p B → (place : ℕ) (port : PortView) → slice_get K.arena.lists.ports place ≡ Some port → HasPortAs L.arena.lists place port
own_port L K p B known place port there =
    let is = own_text L K p B known place port there in
    record { image = is.port; there = is.there; dir = ap (λ (t : PortText). t.dir) is.is; range = ap (λ (t : PortText). t.range) is.is }

-- The test access port.

tap_shared : (L K : LinkedView) (p : Plan) (B : Device) → Known L K p B → (place k : ℕ) (dir : Dir) (line : TapLine)
    → slice_get (tap_ports (tap_of p)) k ≡ Some (record { name = line.name; dir = dir; range = None }) → slice_get B.ports place ≡ Some (scalar_port (mode_of_side dir) line)
    → IsShared L B place (length K.arena.lists.ports + k)
tap_shared L K p B known place k dir line tap there =
    let own = map (port_text (spelt K.names)) K.arena.lists.ports in
    let number = length K.arena.lists.ports + k in
    let many : length own ≡ length K.arena.lists.ports = length-map K.arena.lists.ports (port_text (spelt K.names)) in
    let text : PortText = record { name = line.name; dir = dir; range = None } in
    let is : IsText L number text =
    text_at L (own ++ tap_ports (tap_of p)) known.keeps number text (slice_get-append_right own (tap_ports (tap_of p)) number k (ap (λ (n : ℕ). n + k) (sym many)) ∙ tap) in
    shared L B known.named place number (scalar_port (mode_of_side dir) line) text there is refl refl refl

five : (L K : LinkedView) (p : Plan) (B : Device) → Known L K p B → (k : ℕ) → k < 5 → IsShared L B (K.straight.first + k) (length K.arena.lists.ports + k)
five L K p B known zero low =
    tap_shared L K p B known (K.straight.first + 0) 0 Input p.tck refl
    (ap (slice_get B.ports) (let e : K.straight.first + 0 ≡ K.straight.first = omega arith in e) ∙ known.has.tck)
five L K p B known (suc zero) low = tap_shared L K p B known (K.straight.first + 1) 1 Input p.tms refl known.has.tms
five L K p B known (suc (suc zero)) low = tap_shared L K p B known (K.straight.first + 2) 2 Input p.tdi refl known.has.tdi
five L K p B known (suc (suc (suc zero))) low = tap_shared L K p B known (K.straight.first + 3) 3 Output p.tdo refl known.has.tdo
five L K p B known (suc (suc (suc (suc zero)))) low = tap_shared L K p B known (K.straight.first + 4) 4 Input p.trst refl known.has.trst
five L K p B known (suc (suc (suc (suc (suc k))))) low = absurd (omega (arith, low))

-- The ports of the device.

shared_at : (L K : LinkedView) (p : Plan) (B : Device) → Known L K p B → (place : ℕ) → place < K.straight.first + 5 → IsShared L B place (place_there L place)
shared_at L K p B known place low = by (cases_lt place K.straight.first)
  where
    by : (place < K.straight.first) ⊎ (K.straight.first ≤ place) → IsShared L B place (place_there L place)
    by (inl less) =
        let inside : place < length K.arena.lists.ports = omega (arith, less, known.ends) in
        let at = slice_get_there K.arena.lists.ports place inside in
        subst (IsShared L B place) (sym (own_place L K p B known place less)) (own_shared L K p B known place at.0 less at.1)
    by (inr more) =
        let k = place - K.straight.first in
        let at : K.straight.first + (place - K.straight.first) ≡ place = omega (arith, more) in
        let few : place - K.straight.first < 5 = omega (arith, low, more) in
        let number : length K.arena.lists.ports + (place - K.straight.first) ≡ place_there L place = sym (tap_number L K p B known k) ∙ ap (place_there L) at in
        subst (λ (n : ℕ). IsShared L B n (place_there L place)) at (subst (IsShared L B (K.straight.first + (place - K.straight.first))) number (five L K p B known k few))

linkage_mode : (K : LinkedView) (p : Plan) (B : Device) → HasPorts K p B → (place : ℕ) (other : DevPort) → slice_get B.ports place ≡ Some other → K.straight.first + 5 ≤ place → other.mode ≡ mode.Linkage
linkage_mode K p B has place other there high =
    let within : place < length B.ports = slice_get_within B.ports place other there in
    let count : length B.ports ≡ K.straight.first + (5 + length p.linkage) = has.count in
    let k = place - (K.straight.first + 5) in
    let low : place - (K.straight.first + 5) < length p.linkage = omega (arith, within, count, high) in
    let line = slice_get_there p.linkage k low in
    let at : place ≡ K.straight.first + (5 + (place - (K.straight.first + 5))) = omega (arith, high) in
    let is : slice_get B.ports place ≡ Some (scalar_port mode.Linkage line.0) = ap (slice_get B.ports) at ∙ has.linkage k line.0 line.1 in
    ap (λ (q : DevPort). q.mode) (some_same other (scalar_port mode.Linkage line.0) (slice_get B.ports place) there is)

pub device_port : (L K : LinkedView) (p : Plan) (B : Device) → Known L K p B → (place : ℕ) (other : DevPort) → slice_get B.ports place ≡ Some other → other.mode ≢ mode.Linkage
    → IsSamePort L (place_there L place) other
device_port L K p B known place other there inside = by (cases_lt place (K.straight.first + 5))
  where
    by : (place < K.straight.first + 5) ⊎ (K.straight.first + 5 ≤ place) → IsSamePort L (place_there L place) other
    by (inl low) = let s = shared_at L K p B known place low in subst (IsSamePort L (place_there L place)) (some_same s.other other (slice_get B.ports place) s.there there) s.same
    by (inr high) = absurd (inside (linkage_mode K p B known.has place other there high))

count_is : (L K : LinkedView) (p : Plan) (B : Device) → Known L K p B → length L.arena.lists.ports ≡ length K.arena.lists.ports + 5
count_is L K p B known =
    let own = map (port_text (spelt K.names)) K.arena.lists.ports in
    sym (length-map L.arena.lists.ports (port_text (spelt L.names))) ∙ ap length known.keeps ∙ length-append own (tap_ports (tap_of p))
    ∙ ap (λ (n : ℕ). n + 5) (length-map K.arena.lists.ports (port_text (spelt K.names)))

-- a port of L that isn't hidden is one of the device
record IsInner (L : LinkedView) (B : Device) (number : ℕ) : Type 0 where
  place : ℕ
  at : place_there L place ≡ number
  shared : IsShared L B place number

inner : (L K : LinkedView) (p : Plan) (B : Device) → Known L K p B → (number : ℕ) → number < length L.arena.lists.ports → is_straight L number ≡ false → IsInner L B number
inner L K p B known number low own = by (cases_lt number (length K.arena.lists.ports))
  where
    by : (number < length K.arena.lists.ports) ⊎ (length K.arena.lists.ports ≤ number) → IsInner L B number
    by (inl less) =
        let below = own_below K known.ends number less (sym (known.numbers number) ∙ own) in
        let at = slice_get_there K.arena.lists.ports number less in
        record { place = number; at = own_place L K p B known number below; shared = own_shared L K p B known number at.0 below at.1 }
    by (inr more) =
        let k = number - length K.arena.lists.ports in
        let is : length K.arena.lists.ports + (number - length K.arena.lists.ports) ≡ number = omega (arith, more) in
        let count = count_is L K p B known in
        let few : number - length K.arena.lists.ports < 5 = omega (arith, low, count, more) in
        record {
          place = K.straight.first + k;
          at = tap_number L K p B known k ∙ is;
          shared = subst (IsShared L B (K.straight.first + (number - length K.arena.lists.ports))) is (five L K p B known k few);
        }

pub inner_port : (L K : LinkedView) (p : Plan) (B : Device) → Known L K p B → (number : ℕ) (port : PortView) → is_straight L number ≡ false → slice_get L.arena.lists.ports number ≡ Some port
    → HasInnerPort L B number
inner_port L K p B known number port own there =
    let i = inner L K p B known number (slice_get_within L.arena.lists.ports number port there) own in
    let s = i.shared in
    record { place = i.place; at = i.at; other = s.other; there = s.there; inside = λ e. side_is s.same.port.dir (sym s.same.mode ∙ e) }

pub ports_agree : (L K : LinkedView) (p : Plan) (B : Device) → Known L K p B → PortsAgree L B
ports_agree L K p B known = record {
  of_device = λ number low own.
      let i = inner L K p B known number low own in
      record { place = i.place; other = i.shared.other; there = i.shared.there; same = i.shared.same };
  of_netlist = λ place other there inside.
      record { number = place_there L place; own = place_own L place; same = device_port L K p B known place other there inside };
}

-- Names.

pub are_plain : (L K : LinkedView) (p : Plan) (B : Device) → Known L K p B → AllByRecursion IsDevicePort B.ports → ArePlain L
are_plain L K p B known each number port name own is =
    let i = inner L K p B known number (slice_get_within L.arena.lists.ports number port is.there) own in
    let s = i.shared in
    let one : s.same.port ≡ port = some_same s.same.port port (slice_get L.arena.lists.ports number) s.same.there is.there in
    let same : name ≡ s.other.name = some_same name s.other.name (name_bytes L.names port.name) is.named (ap (λ (q : PortView). name_bytes L.names q.name) (sym one) ∙ s.same.name) in
    subst IsPlain (sym same) (identifier_plain s.other.name (all_at IsDevicePort B.ports i.place s.other each s.there).name.identifier)

-- Places.

input_first : (K : LinkedView) (B : Device) → HasTapPlaces K B → (input : TapInput) → input_place B input ≡ K.straight.first + tap_place input
input_first K B places Tck = places.tck ∙ (let e : K.straight.first ≡ K.straight.first + 0 = omega arith in e)
input_first K B places Tms = places.tms
input_first K B places Tdi = places.tdi
input_first K B places Trst = places.trst

pub input_at : (L K : LinkedView) (p : Plan) (B : Device) → Known L K p B → (input : TapInput) → place_there L (input_place B input) ≡ length K.arena.lists.ports + tap_place input
input_at L K p B known input = ap (place_there L) (input_first K B known.places input) ∙ tap_number L K p B known (tap_place input)

pub tdo_at : (L K : LinkedView) (p : Plan) (B : Device) → Known L K p B → place_there L B.tdo ≡ length K.arena.lists.ports + 3
tdo_at L K p B known = ap (place_there L) known.places.tdo ∙ tap_number L K p B known 3

scalar_at : (B : Device) (place at : ℕ) (side : PortMode) (line : TapLine) → place ≡ at → slice_get B.ports at ≡ Some (scalar_port side line) → HasScalarPort B place side
scalar_at B place at side line e there = record { port = scalar_port side line; there = ap (slice_get B.ports) e ∙ there; mode_is = refl; scalar = refl }

pub input_is : (K : LinkedView) (p : Plan) (B : Device) → HasPorts K p B → HasTapPlaces K B → (input : TapInput) → HasScalarPort B (input_place B input) mode.Input
input_is K p B has places Tck = scalar_at B B.tck K.straight.first mode.Input p.tck places.tck has.tck
input_is K p B has places Tms = scalar_at B B.tms (K.straight.first + 1) mode.Input p.tms places.tms has.tms
input_is K p B has places Tdi = scalar_at B B.tdi (K.straight.first + 2) mode.Input p.tdi places.tdi has.tdi
input_is K p B has places Trst = scalar_at B B.trst (K.straight.first + 4) mode.Input p.trst places.trst has.trst

pub tdo_is : (K : LinkedView) (p : Plan) (B : Device) → HasPorts K p B → HasTapPlaces K B → HasScalarPort B B.tdo mode.Output
tdo_is K p B has places = scalar_at B B.tdo (K.straight.first + 3) mode.Output p.tdo places.tdo has.tdo
