-- The starts of a program's script are a start of the netlist by the program.
use Rattle.std.proofs.Common.{◌≡◌, ◌≢◌, ◌⊎◌, ℕ, ◌+◌, ◌-◌, ◌<◌, ◌≤◌, ◌==◌, Bool, true, false, List, ◌++◌, length, slice_get, if◌then◌else◌, Option, Some, None, option_map, refl, sym, ap, ◌∙◌, subst, inl, inr, arith, ne_eqb}
use Rattle.std.specs.Prelude.{option_and_then}
use Rattle.std.proofs.lemmas.Bool.{cases_lt}
use Rattle.std.proofs.lemmas.Option.{slice_get_within}
use Rattle.list_laws.proofs.Lists.{slice_get-append_left, slice_get-append_right}
use Rattle.list_laws.proofs.Numbers.{eqb_same}
use Rattle.list_laws.proofs.Options.{some_same}
use Rattle.signal_values.specs.declared.PinSig.TheVariants as pin
use Rattle.signal_values.specs.Values.{bit, pin_of}
use Rattle.netlist_model.specs.declared.Dir.{Dir}
use Rattle.netlist_model.specs.declared.Dir.TheVariants.{Input, Inout}
use Rattle.netlist_model.specs.declared.NetId.{NetId}
use Rattle.netlist_model.specs.declared.PinBit.{PinBit}
use Rattle.netlist_model.specs.Lists.{PortView, NetlistView, bit_net, direction}
use Rattle.netlist_model.specs.Settled.{follows_pin}
use Rattle.netlist_model.specs.Formed.{IsWellFormed, width_of}
use Rattle.netlist_model.specs.Cones.{IsControlPort}
use Rattle.netlist_model.specs.Runs.{Moment, IsKnownPin}
use Rattle.netlist_model.specs.Ports.{BitHasDirection}
use Rattle.netlist_link.specs.Linked.{LinkedView, is_straight}
use Rattle.netlist_link.specs.PinWords.{pin_at}
use Rattle.bsdl_device.specs.declared.values.PortMode.{PortMode}
use Rattle.bsdl_device.specs.declared.values.PortMode.TheVariants as mode
use Rattle.bsdl_device.specs.declared.values.PortRange.{PortRange}
use Rattle.bsdl_device.specs.declared.values.DevPort.{DevPort}
use Rattle.bsdl_device.specs.declared.values.Device.{Device}
use Rattle.bsdl_device.specs.Ports.{indices, is_mode}
use Rattle.test_logic.specs.declared.TapInput.{TapInput}
use Rattle.test_logic.specs.declared.TapInput.TheVariants.{Tck, Tms, Tdi, Trst}
use Rattle.wrapped_chip.specs.Cells.{Numbered, bit_place, row_of}
use Rattle.wrapped_chip.specs.ChipRuns.{level_of}
use Rattle.wrapped_chip.specs.Realises.{SameBit, tap_place, IsTapNet}
use Rattle.plan_fitting.specs.Devices.{mode_of_side}
use Rattle.scan_vectors.specs.declared.lines.Line.{Line}
use Rattle.scan_vectors.specs.Grammar.{pin_of as word_of, value_of}
use Rattle.scan_vectors.specs.declared.scripts.script.ScriptLine.{ScriptLine}
use Rattle.scan_vectors.specs.Pins.{Names, TakesValue, HasStart}
use Rattle.sim_runs.specs.Runs.{net_number, HasStarts}
use Rattle.scan_programs.specs.Pins.{start_value, takes_start}
use Rattle.scan_programs.specs.Met.{input_place, first_levels}
use Rattle.program_runs.specs.Lines.{IsStartOf, NamePins}
use Rattle.program_runs.specs.There.{IsStartThere}
use Rattle.program_runs.specs.ScriptsWords.{WordsNameBits}
use Rattle.program_runs.specs.Beside.{place_there, IsBeside}
use Rattle.program_runs.specs.ScriptsLaws.{AreHiddenStarts}
use Rattle.program_runs.proofs.Found.{AreFound, found_there, start_there}
use Rattle.program_runs.proofs.Pins.{index_at_bit, index_within, side_of_input, start_is_inside, number_is, place_own, place_once, names_bit, scalar_pin}

-- What is known of the starts: those of hidden bits come first, then those of the program.

pub record HaveStarted (L : LinkedView) (B : Device) (N : NetlistView) (hs lines : List Line) (script : List ScriptLine) (m : Moment) : Type 0 where
  pub beside : IsBeside L B N
  pub hidden : AreHiddenStarts L hs
  pub names : NamePins B lines
  pub found : AreFound L (hs ++ lines) script
  pub all : (pin : PinBit) → TakesValue L.arena.lists pin → HasStart L (hs ++ lines) pin
  pub starts : HasStarts L.arena.lists script m
  pub known : (net : ℕ) → IsControlPort L.arena.lists net → IsKnownPin (m.pins net)

-- the pin of a bit has the value that its port starts with
record HasItsStart (L : LinkedView) (B : Device) (m : Moment) (place bit : ℕ) : Type 0 where
  other : DevPort
  there : slice_get B.ports place ≡ Some other
  takes : takes_start other ≡ true
  value : m.pins (net_number L.arena.lists (pin_at (place_there L place) bit)) ≡ start_value B place other

-- a start of a bit of the device is one of the program
own_start : (L : LinkedView) (B : Device) (N : NetlistView) (hs lines : List Line) (script : List ScriptLine) (m : Moment) → HaveStarted L B N hs lines script m
    → (pin : PinBit) → is_straight L pin.port.0 ≡ false → (had : HasStart L (hs ++ lines) pin) → IsStartOf B (word_of had.line) (value_of had.line)
own_start L B N hs lines script m have pin own had = by (cases_lt had.place (length hs))
  where
    by : (had.place < length hs) ⊎ (length hs ≤ had.place) → IsStartOf B (word_of had.line) (value_of had.line)
    by (inl low) =
        let is : is_straight L pin.port.0 ≡ true = have.hidden.hidden had.place had.line pin (sym (slice_get-append_left hs lines had.place low) ∙ had.there) had.named in
        absurd (let no : false ≡ true = sym own ∙ is in cc)
    by (inr high) =
        let k = had.place - length hs in
        let at : had.place ≡ length hs + (had.place - length hs) = omega (arith, high) in
        start_there B lines have.names k had.line (sym (slice_get-append_right hs lines had.place k at) ∙ had.there) had.start

start_at : WordsNameBits → (L : LinkedView) (B : Device) (N : NetlistView) (hs lines : List Line) (script : List ScriptLine) (m : Moment) → HaveStarted L B N hs lines script m
    → (place bit : ℕ) → TakesValue L.arena.lists (pin_at (place_there L place) bit) → HasItsStart L B m place bit
start_at law L B N hs lines script m have place bit takes =
    let number = place_there L place in
    let had = have.all (pin_at (place_there L place) bit) takes in
    let one : IsStartOf B (word_of had.line) (value_of had.line) = own_start L B N hs lines script m have (pin_at (place_there L place) bit) (place_own L place) had in
    let found = found_there L (hs ++ lines) script have.found had.place had.line had.there in
    let same = have.beside.described.ports one.place one.port one.there (start_is_inside one.port one.takes) in
    let within : bit_place same.port.range one.index < width_of same.port.range =
    index_within same.port.range one.bit one.index (index_at_bit same.port.range one.bit one.index (subst (λ (r : Option PortRange). slice_get (indices r) one.bit ≡ Some one.index) same.range one.at)) in
    let this : (pin : PinBit) → Names L (word_of had.line) pin → pin ≡ pin_at (place_there L one.place) (bit_place same.port.range one.index) =
    names_bit law L B have.beside.described one.place one.port same.port same same.there one.index within (word_of had.line) one.named in
    let here : pin_at number bit ≡ pin_at (place_there L one.place) (bit_place same.port.range one.index) = this (pin_at number bit) had.named in
    let at : one.place ≡ place = place_once L one.place place (sym (ap (λ (p : PinBit). p.port.0) here)) in
    let pins : pin_at number bit ≡ found.found.pin = here ∙ sym (this found.found.pin found.is.pin) in
    record {
      other = one.port;
      there = ap (slice_get B.ports) (sym at) ∙ one.there;
      takes = one.takes;
      value = ap (λ (p : PinBit). m.pins (net_number L.arena.lists p)) pins
          ∙ have.starts had.place found.found found.there (found.is.act ∙ had.start)
          ∙ found.is.value ∙ one.value_is ∙ ap (λ (n : ℕ). start_value B n one.port) at;
    }

-- Values.

pub input_value : (B : Device) (place : ℕ) (other : DevPort) (b : Bool) → other.mode ≡ mode.Input → place == B.tms ≡ b → start_value B place other ≡ (if b then pin.One else pin.Zero)
input_value B place other b side tms =
    ap (λ (m : PortMode). if is_mode mode.Inout m then pin.HighZ else (if place == B.tms then pin.One else pin.Zero)) side
    ∙ ap (λ (c : Bool). if c then pin.One else pin.Zero) tms

inout_value : (B : Device) (place : ℕ) (other : DevPort) → other.mode ≡ mode.Inout → start_value B place other ≡ pin.HighZ
inout_value B place other side = ap (λ (m : PortMode). if is_mode mode.Inout m then pin.HighZ else (if place == B.tms then pin.One else pin.Zero)) side

-- The bits of N.

-- the port of N with a bit, and the one of the netlist
record HasBit (L : LinkedView) (N : NetlistView) (place : ℕ) (dir : Dir) : Type 0 where
  port : PortView
  there : slice_get N.ports place ≡ Some port
  image : PortView
  same : slice_get L.arena.lists.ports place ≡ Some image
  side : image.dir ≡ dir

has_bit : BitHasDirection → (L : LinkedView) (B : Device) (N : NetlistView) → IsWellFormed N → IsBeside L B N → (net there : ℕ) (s : SameBit L.arena.lists N net there) (dir : Dir)
    → direction N.ports net ≡ Some dir → HasBit L N s.port dir
has_bit directed L B N formed beside net there s dir side = by (slice_get N.ports s.port) refl
  where
    by : (o : Option PortView) → slice_get N.ports s.port ≡ o → HasBit L N s.port dir
    by None e = absurd (let no : None ≡ Some (let n : NetId = record { 0 = net } in n) = sym (ap (option_and_then (λ (p : PortView). slice_get p.nets s.place)) e) ∙ s.here in cc)
    by (Some port) e =
        let has : slice_get port.nets s.place ≡ Some (record { 0 = net }) = sym (ap (option_and_then (λ (p : PortView). slice_get p.nets s.place)) e) ∙ s.here in
        let is : direction N.ports net ≡ Some port.dir =
        directed N formed port.dir (record { 0 = net }) (record { number = s.port; port = port; bit = s.place; stands = e; has = has; same = refl }) in
        let own = beside.own s.port port e in
        record { port = port; there = e; image = own.image; same = own.there; side = own.dir ∙ some_same port.dir dir (direction N.ports net) is side }

-- a bit that takes a value there
takes_there : (M : NetlistView) (place bit there : ℕ) (image : PortView) → bit_net M place bit ≡ Some (record { 0 = there }) → slice_get M.ports place ≡ Some image → follows_pin (Some image.dir) ≡ true
    → TakesValue M (pin_at place bit)
takes_there M place bit there image at same follows =
    record { net = record { 0 = there }; there = at; side = ap (λ (o : Option PortView). follows_pin (option_map (λ (p : PortView). p.dir) o)) same ∙ follows }

-- its port of the device has the same side
side_there : (L : LinkedView) (B : Device) (N : NetlistView) → IsBeside L B N → (place : ℕ) (image : PortView) (other : DevPort) → slice_get L.arena.lists.ports (place_there L place) ≡ Some image
    → slice_get B.ports place ≡ Some other → takes_start other ≡ true → other.mode ≡ mode_of_side image.dir
side_there L B N beside place image other there has takes =
    let same = beside.described.ports place other has (start_is_inside other takes) in
    same.mode ∙ ap (λ (p : PortView). mode_of_side p.dir) (some_same same.port image (slice_get L.arena.lists.ports (place_there L place)) same.there there)

-- what a bit of an own port starts with
record HasBitStart (B : Device) (m : Moment) (place there : ℕ) (dir : Dir) : Type 0 where
  other : DevPort
  side : other.mode ≡ mode_of_side dir
  value : m.pins there ≡ start_value B place other

-- one of N's has its number in the device
place_of : BitHasDirection → (L : LinkedView) (B : Device) (N : NetlistView) → IsWellFormed N → IsBeside L B N → (net there : ℕ) (s : SameBit L.arena.lists N net there) (dir : Dir)
    → direction N.ports net ≡ Some dir → is_straight L s.port ≡ false → (place_there L s.port ≡ s.port) × (s.port < length N.ports)
place_of directed L B N formed beside net there s dir side own =
    let has = has_bit directed L B N formed beside net there s dir side in
    let inside : s.port < length N.ports = slice_get_within N.ports s.port has.port has.there in
    (beside.places s.port inside own, inside)

bit_starts : WordsNameBits → BitHasDirection → (L : LinkedView) (B : Device) (N : NetlistView) (hs lines : List Line) (script : List ScriptLine) (m : Moment) → IsWellFormed N
    → HaveStarted L B N hs lines script m → (net there : ℕ) (s : SameBit L.arena.lists N net there) (dir : Dir) → direction N.ports net ≡ Some dir → follows_pin (Some dir) ≡ true
    → is_straight L s.port ≡ false → HasBitStart B m s.port there dir
bit_starts law directed L B N hs lines script m formed have net there s dir side follows own =
    let has = has_bit directed L B N formed have.beside net there s dir side in
    let at : place_there L s.port ≡ s.port = (place_of directed L B N formed have.beside net there s dir side own).0 in
    let image : slice_get L.arena.lists.ports (place_there L s.port) ≡ Some has.image = ap (slice_get L.arena.lists.ports) at ∙ has.same in
    let bit : bit_net L.arena.lists (place_there L s.port) s.place ≡ Some (record { 0 = there }) = ap (λ (n : ℕ). bit_net L.arena.lists n s.place) at ∙ s.there in
    let takes = takes_there L.arena.lists (place_there L s.port) s.place there has.image bit image (ap (λ (d : Dir). follows_pin (Some d)) has.side ∙ follows) in
    let start = start_at law L B N hs lines script m have s.port s.place takes in
    record {
      other = start.other;
      side = side_there L B N have.beside s.port has.image start.other image start.there start.takes ∙ ap mode_of_side has.side;
      value = ap m.pins (sym (number_is L.arena.lists (pin_at (place_there L s.port) s.place) there bit)) ∙ start.value;
    }

-- The test access port.

tap_starts : WordsNameBits → (L : LinkedView) (B : Device) (N : NetlistView) (hs lines : List Line) (script : List ScriptLine) (m : Moment) → HaveStarted L B N hs lines script m
    → (input : TapInput) (there : ℕ) → IsTapNet L.arena.lists N (tap_place input) there → HasBitStart B m (input_place B input) there Input
tap_starts law L B N hs lines script m have input there tap =
    let place = input_place B input in
    let number = place_there L place in
    let at : bit_net L.arena.lists number 0 ≡ Some (record { 0 = there }) = ap (λ (n : ℕ). bit_net L.arena.lists n 0) (have.beside.input_at input) ∙ tap in
    let is = scalar_pin L B have.beside.described place mode.Input (λ e. cc) (have.beside.described.input_is input) in
    let dir : is.port.dir ≡ Input = side_of_input is.port.dir (sym is.dir) in
    let takes = takes_there L.arena.lists number 0 there is.port at is.there (ap (λ (d : Dir). follows_pin (Some d)) dir) in
    let start = start_at law L B N hs lines script m have place 0 takes in
    record {
      other = start.other;
      side = side_there L B N have.beside place is.port start.other is.there start.there start.takes ∙ sym is.dir;
      value = ap m.pins (sym (number_is L.arena.lists (pin_at number 0) there at)) ∙ start.value;
    }

-- another port than TMS
no_tms : (L : LinkedView) (B : Device) (N : NetlistView) → IsBeside L B N → (place : ℕ) → place_there L place ≢ length N.ports + 1 → place == B.tms ≡ false
no_tms L B N beside place other = ne_eqb place B.tms (λ e. other (ap (place_there L) e ∙ beside.input_at Tms))

tap_value : (L : LinkedView) (B : Device) (N : NetlistView) → IsBeside L B N → (input : TapInput) (other : DevPort) → other.mode ≡ mode.Input
    → start_value B (input_place B input) other ≡ pin_of (bit (level_of first_levels input))
tap_value L B N beside Tck other side =
    input_value B B.tck other false side (no_tms L B N beside B.tck (λ e. let at : place_there L B.tck ≡ length N.ports + 0 = beside.input_at Tck in omega (arith, e, at)))
tap_value L B N beside Tms other side = input_value B B.tms other true side (eqb_same B.tms)
tap_value L B N beside Tdi other side =
    input_value B B.tdi other false side (no_tms L B N beside B.tdi (λ e. let at : place_there L B.tdi ≡ length N.ports + 2 = beside.input_at Tdi in omega (arith, e, at)))
tap_value L B N beside Trst other side =
    input_value B B.trst other false side (no_tms L B N beside B.trst (λ e. let at : place_there L B.trst ≡ length N.ports + 4 = beside.input_at Trst in omega (arith, e, at)))

-- The whole.

pub starts_there : WordsNameBits → BitHasDirection → (L : LinkedView) (B : Device) (N : NetlistView) (hs lines : List Line) (script : List ScriptLine) (m : Moment) → IsWellFormed N
    → HaveStarted L B N hs lines script m → IsStartThere L.arena.lists B N m
starts_there law directed L B N hs lines script m formed have = record {
  inputs = λ net there r s side row. input net there s side r row (is_straight L s.port) refl;
  controls = λ net there s control. known net there s control (is_straight L s.port) refl;
  inouts = λ net there s side. inout net there s side (is_straight L s.port) refl;
  tap = λ input there at.
      let start = tap_starts law L B N hs lines script m have input there at in
      start.value ∙ tap_value L B N have.beside input start.other start.side;
}
  where
    low : (net there : ℕ) (s : SameBit L.arena.lists N net there) → direction N.ports net ≡ Some Input → is_straight L s.port ≡ false → m.pins there ≡ pin.Zero
    low net there s side own =
        let start = bit_starts law directed L B N hs lines script m formed have net there s Input side refl own in
        let at = place_of directed L B N formed have.beside net there s Input side own in
        let same : place_there L s.port ≡ s.port = at.0 in
        let inside : s.port < length N.ports = at.1 in
        start.value ∙ input_value B s.port start.other false start.side (no_tms L B N have.beside s.port (λ e. omega (arith, e, same, inside)))

    input : (net there : ℕ) (s : SameBit L.arena.lists N net there) → direction N.ports net ≡ Some Input → (r : Numbered) → row_of B N net ≡ Some r
        → (b : Bool) → is_straight L s.port ≡ b → m.pins there ≡ pin.Zero
    input net there s side r row false own = low net there s side own
    input net there s side r row true hidden =
        absurd (let no : None ≡ Some r = sym (have.beside.hidden net there s hidden).none ∙ row in cc)

    known : (net there : ℕ) (s : SameBit L.arena.lists N net there) → IsControlPort N net → (b : Bool) → is_straight L s.port ≡ b → IsKnownPin (m.pins there)
    known net there s control false own = inl (low net there s control.0 own)
    known net there s control true hidden = have.known there ((have.beside.hidden net there s hidden).controls control)

    inout : (net there : ℕ) (s : SameBit L.arena.lists N net there) → direction N.ports net ≡ Some Inout → (b : Bool) → is_straight L s.port ≡ b → m.pins there ≡ pin.HighZ
    inout net there s side true hidden = absurd ((have.beside.hidden net there s hidden).way side)
    inout net there s side false own =
        let start = bit_starts law directed L B N hs lines script m formed have net there s Inout side refl own in
        start.value ∙ inout_value B s.port start.other start.side
