-- A run by a program of a netlist that realises the chip has a run of the chip beside it.
use Rattle.std.proofs.Common.{◌≡◌, ℕ, zero, suc, true, List, [], ◌∷◌, length, slice_get, Option, Some, None, refl, sym, ap, ◌∙◌, subst, inl, arith}
use Rattle.std.specs.Prelude.{All, option_and_then}
use Rattle.std.specs.Option.{option_map_or}
use Rattle.std.proofs.lemmas.List.Elements.{All-nil, All-cons}
use Rattle.signal_values.specs.declared.Sig.{Sig}
use Rattle.signal_values.specs.declared.PinSig.{PinSig}
use Rattle.signal_values.specs.declared.PinSig.TheVariants as pin
use Rattle.signal_values.specs.Values.{bit, pin_of}
use Rattle.netlist_model.specs.declared.Dir.{Dir}
use Rattle.netlist_model.specs.declared.Dir.TheVariants.{Input, Output, Inout}
use Rattle.netlist_model.specs.declared.NetId.{NetId}
use Rattle.netlist_model.specs.Lists.{PortView, NetlistView, bit_net, direction}
use Rattle.netlist_model.specs.Cones.{IsControlPort}
use Rattle.netlist_model.specs.Formed.{IsWellFormed}
use Rattle.netlist_model.specs.Ports.{IsBitOf, DirectionHasBit}
use Rattle.netlist_model.specs.Settled.{follows_pin}
use Rattle.netlist_model.specs.Runs.{Moment, PinEvent, IsKnownPin, IsRun}
use Rattle.test_logic.specs.declared.Levels.{Levels}
use Rattle.bsdl_device.specs.declared.values.Device.{Device}
use Rattle.wrapped_chip.specs.Cells.{Numbered, row_of}
use Rattle.wrapped_chip.specs.ChipRuns.{ChipMoment, ChipEvent, at_pin, at_tap, level_of, IsChipLegal}
use Rattle.wrapped_chip.specs.Realises.{SameBit, SameOutside, IsSameEvent, SameEvents}
use Rattle.wrapped_chip.specs.Laws.{ChipRunExists}
use Rattle.scan_vectors.specs.declared.lines.Line.{Line}
use Rattle.scan_vectors.specs.declared.lines.Line.TheVariants.{Start, Set, Expect}
use Rattle.scan_programs.specs.Program.{program_of}
use Rattle.scan_programs.specs.Met.{first_levels}
use Rattle.program_runs.specs.Played.{AreSets, IsProgramStart, IsProgramRun}
use Rattle.program_runs.specs.There.{IsStartThere, AreSetsThere}
use Rattle.program_runs.specs.Laws.{KnowsControls, RealisingMeetsProgram, RunBesideProgramExists, NetlistMeetsProgram, ProgramRunThereExists}
use Rattle.program_runs.proofs.Sets.{pins_of, at_row, at_none, at_inout, at_control}

-- Events of the chip that are those of M.

record HasChipEvents (M : NetlistView) (B : Device) (N : NetlistView) (lines : List Line) (there : List PinEvent) : Type 0 where
  events : List ChipEvent
  sets : AreSets B lines events
  legal : All (IsChipLegal N) events
  same : SameEvents M N events there

each_same : (M N : NetlistView) (event : ChipEvent) (other : PinEvent) (events : List ChipEvent) (there : List PinEvent) → IsSameEvent M N event other → SameEvents M N events there → (t : ℕ)
    → (e : ChipEvent) (o : PinEvent) → slice_get (event ∷ events) t ≡ Some e → slice_get (other ∷ there) t ≡ Some o → IsSameEvent M N e o
each_same M N event other events there one same zero e o h k =
    let here : event ≡ e = cc in
    let alike : other ≡ o = cc in
    subst (λ (x : ChipEvent). IsSameEvent M N x o) here (subst (λ (y : PinEvent). IsSameEvent M N event y) alike one)
each_same M N event other events there one same (suc t) e o h k = same.each t e o h k

events_same : (M N : NetlistView) (event : ChipEvent) (other : PinEvent) (events : List ChipEvent) (there : List PinEvent) → IsSameEvent M N event other → SameEvents M N events there
    → SameEvents M N (event ∷ events) (other ∷ there)
events_same M N event other events there one same = record { count = ap suc same.count; each = each_same M N event other events there one same }

none_same : (M N : NetlistView) → SameEvents M N [] []
none_same M N = record { count = refl; each = λ t event other h k. absurd (by t event h) }
  where
    by : (t : ℕ) (event : ChipEvent) → slice_get [] t ≡ Some event → ⊥
    by t event h = cc

chip_events : (M : NetlistView) (B : Device) (N : NetlistView) (lines : List Line) (there : List PinEvent) → AreSetsThere M B N lines there → HasChipEvents M B N lines there
chip_events M B N [] [] sets = record { events = []; sets = tt; legal = All-nil (IsChipLegal N); same = none_same M N }
chip_events M B N [] (event ∷ there) sets = absurd sets
chip_events M B N (Start word value ∷ lines) there sets = let more = chip_events M B N lines there sets in record { events = more.events; sets = more.sets; legal = more.legal; same = more.same }
chip_events M B N (Expect word value ∷ lines) there sets = let more = chip_events M B N lines there sets in record { events = more.events; sets = more.sets; legal = more.legal; same = more.same }
chip_events M B N (Set word value ∷ lines) [] sets = absurd sets
chip_events M B N (Set word value ∷ lines) (event ∷ there) sets =
    let more = chip_events M B N lines there sets.1 in
    let one = sets.0 in
    let head = at_tap one.input one.level in
    record {
      events = head ∷ more.events;
      sets = (one.set, more.sets);
      legal = All-cons (IsChipLegal N) head more.events tt more.legal;
      same = events_same M N head event more.events there (one.tap, one.value_is ∙ one.set.value_is) more.same;
    }

-- What is outside.

-- the pin of M at a net's bit, if M has it, and else 0
abbrev there_by : DirectionHasBit → (M N : NetlistView) (m : Moment) (net : ℕ) (o : Option Dir) → direction N.ports net ≡ o → PinSig
there_by back M N m net None e = pin.Zero
there_by back M N m net (Some d) e =
    let bit = back N d (record { 0 = net }) e in option_map_or (λ (n : NetId). m.pins n.0) (bit_net M bit.number bit.bit) pin.Zero

abbrev pin_there : DirectionHasBit → NetlistView → NetlistView → Moment → ℕ → PinSig
pin_there back M N m net = there_by back M N m net (direction N.ports net) refl

there_is : (back : DirectionHasBit) (M N : NetlistView) → IsWellFormed N → (m : Moment) (net there : ℕ) → SameBit M N net there → (o : Option Dir) (e : direction N.ports net ≡ o) (d : Dir) → o ≡ Some d
    → there_by back M N m net o e ≡ m.pins there
there_is back M N formed m net there same None e d is = absurd (cc)
there_is back M N formed m net there same (Some side) e d is =
    let id : NetId = record { 0 = net } in
    let bit = back N side id e in
    let at : bit_net N bit.number bit.bit ≡ Some id = ap (option_and_then (λ (q : PortView). slice_get q.nets bit.bit)) bit.stands ∙ bit.has in
    let one = formed.bits_apart bit.number same.port bit.bit same.place id at same.here in
    ap (λ (o : Option NetId). option_map_or (λ (n : NetId). m.pins n.0) o pin.Zero)
    (ap (λ (p : ℕ). bit_net M p bit.bit) one.0 ∙ ap (bit_net M same.port) one.1 ∙ same.there)

known_by : (back : DirectionHasBit) (M : NetlistView) (B : Device) (N : NetlistView) (m : Moment) → IsStartThere M B N m → (net : ℕ) → IsControlPort N net → (o : Option Dir)
    (e : direction N.ports net ≡ o) → IsKnownPin (there_by back M N m net o e)
known_by back M B N m starts net control None e = inl refl
known_by back M B N m starts net control (Some d) e = by (bit_net M bit.number bit.bit) refl
  where
    id : NetId
    id = record { 0 = net }

    bit : IsBitOf N d id
    bit = back N d id e

    at : bit_net N bit.number bit.bit ≡ Some id
    at = ap (option_and_then (λ (q : PortView). slice_get q.nets bit.bit)) bit.stands ∙ bit.has

    by : (o : Option NetId) → bit_net M bit.number bit.bit ≡ o → IsKnownPin (option_map_or (λ (n : NetId). m.pins n.0) o pin.Zero)
    by None h = inl refl
    by (Some n) h = starts.controls net n.0 (record { port = bit.number; place = bit.bit; here = at; there = h }) control

known_there : (back : DirectionHasBit) (M : NetlistView) (B : Device) (N : NetlistView) (m : Moment) → IsStartThere M B N m → KnowsControls N (pin_there back M N m)
known_there back M B N m starts net control = known_by back M B N m starts net control (direction N.ports net) refl

input_there : (back : DirectionHasBit) (M : NetlistView) (B : Device) (N : NetlistView) → IsWellFormed N → (m : Moment) → IsStartThere M B N m → (net there : ℕ) → SameBit M N net there
    → direction N.ports net ≡ Some Input → (o : Option Numbered) → row_of B N net ≡ o → m.pins there ≡ pins_of B N (pin_there back M N m) net
input_there back M B N formed m starts net there same side None none =
    sym (there_is back M N formed m net there same (direction N.ports net) refl Input side) ∙ sym (at_none B N (pin_there back M N m) net side none)
input_there back M B N formed m starts net there same side (Some r) row = starts.inputs net there r same side row ∙ sym (at_row B N (pin_there back M N m) net r side row)

left_there : (back : DirectionHasBit) (M : NetlistView) (B : Device) (N : NetlistView) → IsWellFormed N → (m : Moment) → IsStartThere M B N m → (net there : ℕ) → SameBit M N net there
    → (o : Option Dir) → direction N.ports net ≡ o → follows_pin o ≡ true → m.pins there ≡ pins_of B N (pin_there back M N m) net
left_there back M B N formed m starts net there same None e h = absurd (cc)
left_there back M B N formed m starts net there same (Some Input) e h = input_there back M B N formed m starts net there same e (row_of B N net) refl
left_there back M B N formed m starts net there same (Some Inout) e h = starts.inouts net there same e ∙ sym (at_inout B N (pin_there back M N m) net e)
left_there back M B N formed m starts net there same (Some Output) e h = absurd (cc)

outside_there : (back : DirectionHasBit) (M : NetlistView) (B : Device) (N : NetlistView) → IsWellFormed N → (m : Moment) (w : ChipMoment) → IsStartThere M B N m → w.levels ≡ first_levels
    → ((net : ℕ) → w.pins net ≡ pins_of B N (pin_there back M N m) net) → SameOutside M N w m.pins
outside_there back M B N formed m w starts levels pins = record {
  bits = λ net there same follows. left_there back M B N formed m starts net there same (direction N.ports net) refl follows ∙ sym (pins net);
  tap = λ input net at. starts.tap input net at ∙ ap (λ (l : Levels). pin_of (bit (level_of l input))) (sym levels);
}

pub netlist_meets_program : RealisingMeetsProgram → ChipRunExists → DirectionHasBit → NetlistMeetsProgram
netlist_meets_program meets exists back M B N formed suits around realises start there moment plays =
    let has = chip_events M B N (program_of B) there plays.sets in
    let outside : ℕ → PinSig = pin_there back M N (moment 0) in
    let run = exists B N formed first_levels (pins_of B N outside) start has.events refl (at_control B N outside (known_there back M B N (moment 0) plays.starts)) has.legal in
    let chip = run.0 in
    let play : IsProgramRun B N start has.events chip = record {
      run = run.1;
      start = record {
        levels = run.2;
        inputs = λ net r side row. run.3 net ∙ at_row B N outside net r side row;
        inouts = λ net side. run.3 net ∙ at_inout B N outside net side;
      };
      sets = has.sets;
    } in
    meets M B N formed suits around realises start has.events chip moment play (record {
      start = start;
      same_flops = λ i cell kind live is. refl;
      same_pins = outside_there back M B N formed (moment 0) (chip 0) plays.starts run.2 run.3;
      there = there;
      same_events = has.same;
      run = plays.run;
    })

-- A run.

tail_same : (M N : NetlistView) (event : ChipEvent) (other : PinEvent) (events : List ChipEvent) (there : List PinEvent) → SameEvents M N (event ∷ events) (other ∷ there)
    → SameEvents M N events there
tail_same M N event other events there same = record { count = let c : suc (length there) ≡ suc (length events) = same.count in let e : length there ≡ length events = omega arith in e; each = λ t e o h k. same.each (suc t) e o h k }

sets_there : (M : NetlistView) (B : Device) (N : NetlistView) (lines : List Line) (events : List ChipEvent) (there : List PinEvent) → AreSets B lines events → SameEvents M N events there
    → AreSetsThere M B N lines there
sets_there M B N [] [] [] sets same = tt
sets_there M B N [] [] (other ∷ there) sets same = absurd (let no : suc (length there) ≡ 0 = same.count in cc)
sets_there M B N [] (event ∷ events) there sets same = absurd sets
sets_there M B N (Start word value ∷ lines) events there sets same = sets_there M B N lines events there sets same
sets_there M B N (Expect word value ∷ lines) events there sets same = sets_there M B N lines events there sets same
sets_there M B N (Set word value ∷ lines) [] there sets same = absurd sets
sets_there M B N (Set word value ∷ lines) (at_pin event ∷ events) there sets same = absurd sets
sets_there M B N (Set word value ∷ lines) (at_tap input level ∷ events) [] sets same = absurd (let no : 0 ≡ suc (length events) = same.count in cc)
sets_there M B N (Set word value ∷ lines) (at_tap input level ∷ events) (other ∷ there) sets same =
    let one = same.each 0 (at_tap input level) other refl refl in (
      record { input = input; level = level; set = sets.0; tap = one.0; value_is = one.1 ∙ sym sets.0.value_is },
      sets_there M B N lines events there sets.1 (tail_same M N (at_tap input level) other events there same),
    )

starts_there : (M : NetlistView) (B : Device) (N : NetlistView) (m : Moment) (w : ChipMoment) → IsProgramStart B N w → KnowsControls N w.pins → SameOutside M N w m.pins → IsStartThere M B N m
starts_there M B N m w start known same = record {
  inputs = λ net there r bits side row. same.bits net there bits (ap follows_pin side) ∙ start.inputs net r side row;
  controls = λ net there bits control. subst (λ (p : PinSig). IsKnownPin p) (sym (same.bits net there bits (ap follows_pin control.0))) (known net control);
  inouts = λ net there bits side. same.bits net there bits (ap follows_pin side) ∙ start.inouts net side;
  tap = λ input there at. same.tap input there at ∙ ap (λ (l : Levels). pin_of (bit (level_of l input))) start.levels;
}

pub some_run_by_program : RunBesideProgramExists → ProgramRunThereExists
some_run_by_program exists M B N formed realises start outside known =
    let has = exists M B N formed realises start outside known in
    let beside = has.beside in
    record {
      events = beside.there;
      moment = has.moment;
      plays = record {
        run = subst (λ (s : ℕ → Sig). IsRun M s beside.there has.moment) has.starts beside.run;
        starts = starts_there M B N (has.moment 0) (has.chip 0) has.plays.start has.plays.run.start.controls beside.same_pins;
        sets = sets_there M B N (program_of B) has.events beside.there has.plays.sets beside.same_events;
      };
      straight = λ net there bits side none. beside.same_pins.bits net there bits (ap follows_pin side) ∙ has.straight net side none;
    }
