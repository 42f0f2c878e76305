-- What is read by the program is what the expectations of its script find.
use Rattle.std.proofs.Common.{◌≡◌, ℕ, suc, ◌<◌, ◌==◌, Bool, true, false, not, List, [], ◌∷◌, ◌++◌, length, slice_get, if◌then◌else◌, Option, Some, None, refl, sym, ap, ◌∙◌, subst, inl, inr, eq-eqb}
use Rattle.std.specs.Prelude.{option_and_then, filter}
use Rattle.std.proofs.lemmas.Option.{slice_get_within}
use Rattle.signal_values.specs.declared.PinSig.{PinSig}
use Rattle.signal_values.specs.Values.{show_byte}
use Rattle.netlist_model.specs.declared.NetId.{NetId}
use Rattle.netlist_model.specs.declared.PinBit.{PinBit}
use Rattle.netlist_model.specs.declared.Range.{Range}
use Rattle.netlist_model.specs.Lists.{PortView, NetlistView, bit_net}
use Rattle.netlist_model.specs.Formed.{IsWellFormed, width_of}
use Rattle.netlist_model.specs.Runs.{Moment, reading_at}
use Rattle.netlist_link.specs.Linked.{LinkedView, is_straight}
use Rattle.netlist_link.specs.PinWords.{pin_at}
use Rattle.bsdl_device.specs.declared.values.PortMode.TheVariants as mode
use Rattle.bsdl_device.specs.declared.values.Device.{Device}
use Rattle.wrapped_chip.specs.Cells.{Numbered, bit_place, row_of}
use Rattle.wrapped_chip.specs.Realises.{SameBit}
use Rattle.scan_vectors.specs.declared.lines.Act.{Act}
use Rattle.scan_vectors.specs.declared.lines.Act.TheVariants as act
use Rattle.scan_vectors.specs.declared.lines.Line.{Line}
use Rattle.scan_vectors.specs.declared.lines.Line.TheVariants.{Start, Set, Expect}
use Rattle.scan_vectors.specs.Grammar.{act_of}
use Rattle.scan_vectors.specs.declared.scripts.script.ScriptLine.{ScriptLine}
use Rattle.scan_vectors.specs.Pins.{Names}
use Rattle.sim_runs.specs.Runs.{net_number}
use Rattle.sim_runs.specs.Outputs.{sets_with}
use Rattle.program_runs.specs.Readings.{AreReadFrom, IsBitWord, BitReadsThere, TdoReadsThere, ReadsThere}
use Rattle.conformance_report.specs.declared.verdict.Missed.{Missed}
use Rattle.conformance_report.specs.Verdicts.{expectation, expected_by, expected, is_missed}
use Rattle.program_runs.specs.ScriptsWords.{WordsNameBits}
use Rattle.program_runs.specs.Beside.{place_there, IsBeside}
use Rattle.program_runs.proofs.Found.{AreFound}
use Rattle.program_runs.proofs.Pins.{number_is, names_bit, names_scalar}

-- Where an expectation is read.

-- the port of N that has this bit
record HasPortBit (N : NetlistView) (place : ℕ) (index : Option ℕ) (net : ℕ) : Type 0 where
  port : PortView
  there : slice_get N.ports place ≡ Some port
  has : slice_get port.nets (bit_place port.range index) ≡ Some (record { 0 = net })

port_bit : (B : Device) (N : NetlistView) (word : List ℕ) (net : ℕ) (b : IsBitWord B N word net) → HasPortBit N b.place b.index net
port_bit B N word net b = by (slice_get N.ports b.place) refl
  where
    by : (o : Option PortView) → slice_get N.ports b.place ≡ o → HasPortBit N b.place b.index net
    by None e =
        absurd (let no : None ≡ Some (let n : NetId = record { 0 = net } in n) = sym (ap (option_and_then (λ (p : PortView). slice_get p.nets (bit_place p.range b.index))) e) ∙ b.at in cc)
    by (Some port) e =
        record { port = port; there = e; has = sym (ap (option_and_then (λ (p : PortView). slice_get p.nets (bit_place p.range b.index))) e) ∙ b.at }

-- the bit's net there, by its number
same_number : (N M : NetlistView) → IsWellFormed N → (place at port bit net there : ℕ) (pin : PinBit) → bit_net N place at ≡ Some (record { 0 = net }) → bit_net N port bit ≡ Some (record { 0 = net })
    → bit_net M port bit ≡ Some (record { 0 = there }) → pin ≡ pin_at place at → net_number M pin ≡ there
same_number N M formed place at port bit net there pin one other is pin_is =
    let apart = formed.bits_apart place port at bit (record { 0 = net }) one other in
    let same : bit_net M place at ≡ Some (record { 0 = there }) = ap (λ (p : ℕ). bit_net M p at) apart.0 ∙ ap (bit_net M port) apart.1 ∙ is in
    ap (net_number M) pin_is ∙ number_is M (pin_at place at) there same

-- a bit with a cell is no hidden port's
own_bit : (L : LinkedView) (B : Device) (N : NetlistView) → IsBeside L B N → (net there : ℕ) (s : SameBit L.arena.lists N net there) (row : Numbered) → row_of B N net ≡ Some row
    → is_straight L s.port ≡ false
own_bit L B N beside net there s row found = by (is_straight L s.port) refl
  where
    by : (b : Bool) → is_straight L s.port ≡ b → b ≡ false
    by false e = refl
    by true e = absurd (let no : None ≡ Some row = sym (beside.hidden net there s e).none ∙ found in cc)

bit_read : WordsNameBits → (L : LinkedView) (B : Device) (N : NetlistView) → IsWellFormed N → IsBeside L B N → (m : Moment) (word : List ℕ) (value : PinSig) (pin : PinBit)
    → Names L word pin → BitReadsThere L.arena.lists B N m word value → reading_at L.arena.lists m (net_number L.arena.lists pin) ≡ value
bit_read law L B N formed beside m word value pin names read =
    let M = L.arena.lists in
    let b = read.bit in
    let has = port_bit B N word read.net b in
    let same = beside.described.ports b.place b.port b.there b.inside in
    let own = beside.own b.place has.port has.there in
    let wide : length has.port.nets ≡ width_of has.port.range = beside.wide b.place has.port has.there in
    let inside : bit_place has.port.range b.index < length has.port.nets = slice_get_within has.port.nets (bit_place has.port.range b.index) (record { 0 = read.net }) has.has in
    let low : bit_place has.port.range b.index < width_of has.port.range = subst (λ (n : ℕ). bit_place has.port.range b.index < n) wide inside in
    let within : bit_place own.image.range b.index < width_of own.image.range = subst (λ (r : Option Range). bit_place r b.index < width_of r) (sym own.range) low in
    let at : bit_net N b.place (bit_place has.port.range b.index) ≡ Some (record { 0 = read.net }) =
    ap (option_and_then (λ (p : PortView). slice_get p.nets (bit_place has.port.range b.index))) has.there ∙ has.has in
    let s = read.reads.same in
    let apart = formed.bits_apart b.place s.port (bit_place has.port.range b.index) s.place (record { 0 = read.net }) at s.here in
    let none : is_straight L b.place ≡ false = ap (is_straight L) apart.0 ∙ own_bit L B N beside read.net read.reads.there s b.row b.found in
    let number : place_there L b.place ≡ b.place = beside.places b.place (slice_get_within N.ports b.place has.port has.there) none in
    let image : slice_get M.ports (place_there L b.place) ≡ Some own.image = ap (slice_get M.ports) number ∙ own.there in
    let here : pin ≡ pin_at (place_there L b.place) (bit_place own.image.range b.index) =
    names_bit law L B beside.described b.place b.port own.image same image b.index within word b.named pin names in
    let pin_is : pin ≡ pin_at b.place (bit_place has.port.range b.index) =
    here ∙ ap (λ (n : ℕ). pin_at n (bit_place own.image.range b.index)) number ∙ ap (λ (r : Option Range). pin_at b.place (bit_place r b.index)) own.range in
    ap (reading_at M m) (same_number N M formed b.place (bit_place has.port.range b.index) s.port s.place read.net read.reads.there pin at s.here s.there pin_is)
    ∙ read.reads.reads

tdo_read : WordsNameBits → (L : LinkedView) (B : Device) (N : NetlistView) → IsBeside L B N → (m : Moment) (word : List ℕ) (value : PinSig) (pin : PinBit)
    → Names L word pin → TdoReadsThere L.arena.lists B N m word value → reading_at L.arena.lists m (net_number L.arena.lists pin) ≡ value
tdo_read law L B N beside m word value pin names read =
    let M = L.arena.lists in
    let number = place_there L B.tdo in
    let pin_is : pin ≡ pin_at number 0 = names_scalar law L B beside.described B.tdo mode.Output (λ e. cc) beside.described.tdo_is word read.named pin names in
    let at : bit_net M number 0 ≡ Some (record { 0 = read.reads.there }) = ap (λ (n : ℕ). bit_net M n 0) beside.tdo_at ∙ read.reads.tap in
    ap (reading_at M m) (ap (net_number M) pin_is ∙ number_is M (pin_at number 0) read.reads.there at) ∙ read.reads.reads

line_read : WordsNameBits → (L : LinkedView) (B : Device) (N : NetlistView) → IsWellFormed N → IsBeside L B N → (m : Moment) (word : List ℕ) (value : PinSig) (pin : PinBit)
    → Names L word pin → ReadsThere L.arena.lists B N m word value → reading_at L.arena.lists m (net_number L.arena.lists pin) ≡ value
line_read law L B N formed beside m word value pin names (inl read) = tdo_read law L B N beside m word value pin names read
line_read law L B N formed beside m word value pin names (inr read) = bit_read law L B N formed beside m word value pin names read

-- Expectations.

not_missed : (want got : PinSig) → want ≡ got → not (show_byte want == show_byte got) ≡ false
not_missed want got e = ap not (eq-eqb (show_byte want) (show_byte got) (ap show_byte e))

-- the missed ones of a line and of those behind it
missed_by : (M : NetlistView) (moment : ℕ → Moment) (t : ℕ) (found : ScriptLine) (script : List ScriptLine) (a : Act) → found.act ≡ a
    → filter is_missed (expected M moment t (found ∷ script)) ≡ filter is_missed (expected_by a M found (moment t) ++ expected M moment (sets_with a t) script)
missed_by M moment t found script a is = ap (λ (b : Act). filter is_missed (expected_by b M found (moment t) ++ expected M moment (sets_with b t) script)) is

one_met : (M : NetlistView) (m : Moment) (found : ScriptLine) (rest : List Missed) → found.value ≡ reading_at M m (net_number M found.pin)
    → filter is_missed (expectation found (reading_at M m (net_number M found.pin)) ∷ rest) ≡ filter is_missed rest
one_met M m found rest e =
    let one : Missed = expectation found (reading_at M m (net_number M found.pin)) in
    ap (λ (b : Bool). if b then one ∷ filter is_missed rest else filter is_missed rest) (not_missed found.value (reading_at M m (net_number M found.pin)) e)

none_missed : WordsNameBits → (L : LinkedView) (B : Device) (N : NetlistView) → IsWellFormed N → IsBeside L B N → (moment : ℕ → Moment) (t : ℕ) (lines : List Line)
    → (script : List ScriptLine) → AreFound L lines script → AreReadFrom (λ n. ReadsThere L.arena.lists B N (moment n)) t lines → filter is_missed (expected L.arena.lists moment t script) ≡ []
none_missed law L B N formed beside moment t [] [] are read = refl
none_missed law L B N formed beside moment t [] (found ∷ script) are read = absurd are
none_missed law L B N formed beside moment t (line ∷ lines) [] are read = absurd are
none_missed law L B N formed beside moment t (Start word value ∷ lines) (found ∷ script) are read =
    missed_by L.arena.lists moment t found script act.Start are.0.act ∙ none_missed law L B N formed beside moment t lines script are.1 read
none_missed law L B N formed beside moment t (Set word value ∷ lines) (found ∷ script) are read =
    missed_by L.arena.lists moment t found script act.Set are.0.act ∙ none_missed law L B N formed beside moment (suc t) lines script are.1 read
none_missed law L B N formed beside moment t (Expect word value ∷ lines) (found ∷ script) are read =
    let M = L.arena.lists in
    let reads = line_read law L B N formed beside (moment t) word value found.pin are.0.pin read.0 in
    missed_by M moment t found script act.Expect are.0.act
    ∙ one_met M (moment t) found (expected M moment t script) (are.0.value ∙ sym reads)
    ∙ none_missed law L B N formed beside moment t lines script are.1 read.1

-- starts in front expect nothing
pub none_missed_behind : WordsNameBits → (L : LinkedView) (B : Device) (N : NetlistView) → IsWellFormed N → IsBeside L B N → (moment : ℕ → Moment) (front lines : List Line)
    → ((place : ℕ) (line : Line) → slice_get front place ≡ Some line → act_of line ≡ act.Start) → (script : List ScriptLine) → AreFound L (front ++ lines) script
    → AreReadFrom (λ n. ReadsThere L.arena.lists B N (moment n)) 0 lines → filter is_missed (expected L.arena.lists moment 0 script) ≡ []
none_missed_behind law L B N formed beside moment [] lines are script found read = none_missed law L B N formed beside moment 0 lines script found read
none_missed_behind law L B N formed beside moment (line ∷ front) lines are [] found read = absurd found
none_missed_behind law L B N formed beside moment (line ∷ front) lines are (one ∷ script) found read =
    missed_by L.arena.lists moment 0 one script act.Start (found.0.act ∙ are 0 line refl)
    ∙ none_missed_behind law L B N formed beside moment front lines (λ place. are (suc place)) script found.1 read
