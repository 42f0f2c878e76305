-- Five rising edges of TCK with TMS at 1, and a falling edge: the parts then hold a machine in Test-Logic-Reset, whatever they held before.
use Rattle.std.proofs.Common.{◌≡◌, ℕ, zero, suc, ◌+◌, ◌-◌, ◌≤◌, ◌&&◌, not, Bool, true, false, if◌then◌else◌, List, [], ◌∷◌, length, drop, refl, ap, sym, ◌∙◌, subst, Option, Some, None, inl, inr, arith}
use Rattle.std.proofs.lemmas.Bool.{cases_lt}
use Rattle.std.proofs.lemmas.List.{length-drop}
use Rattle.std.specs.Prelude.{slice_get}
use Rattle.std.specs.Option.{option_map_or}
use Rattle.list_laws.proofs.Lists.{slice_get_there}
use Rattle.netlist_model.proofs.Repeats.{run_rests}
use Rattle.signal_values.specs.declared.Sig.{Sig}
use Rattle.signal_values.specs.declared.Sig.TheVariants.{Zero}
use Rattle.signal_values.specs.declared.PinSig.TheVariants.{HighZ}
use Rattle.signal_values.specs.Values.{bit}
use Rattle.cell_library.specs.declared.Edge.TheVariants.{Fall}
use Rattle.netlist_model.specs.declared.Feed.{Feed}
use Rattle.netlist_model.specs.declared.NetId.{NetId}
use Rattle.netlist_model.specs.Lists.{NetlistView}
use Rattle.netlist_model.specs.Settled.{IsSettled}
use Rattle.netlist_model.specs.Runs.{Moment, PinEvent, IsStep, FlopsStart}
use Rattle.bsdl_device.specs.declared.values.CellRow.{CellRow}
use Rattle.bsdl_device.specs.declared.values.Device.{Device}
use Rattle.test_logic.specs.declared.Codes.{Codes}
use Rattle.test_logic.specs.declared.Levels.{Levels}
use Rattle.test_logic.specs.declared.TapState.{TapState}
use Rattle.test_logic.specs.declared.TapState.TheVariants.{TestLogicReset}
use Rattle.test_logic.specs.Instructions.{bits_of, pattern, reset_opcode}
use Rattle.test_logic.specs.Registers.{latched_after}
use Rattle.test_logic.specs.Rises.{is_rise, rises, RisesWithOnes}
use Rattle.test_logic.specs.Machine.{Machine, TestLogic, reset, edge_of, clocked, step_under, machine_step, test_logic_of, code_bits}
use Rattle.tap_gates.specs.Laws.{HoldsState}
use Rattle.tap_gates.specs.Home.{IsCourse, HoldsBits, TapFindsHome}
use Rattle.register_gates.specs.Chains.{chain_values}
use Rattle.register_gates.specs.Constants.{ConstantsAreBits}
use Rattle.register_gates.specs.Registers.{user_size}
use Rattle.register_gates.specs.Laws.{IdentFollows}
use Rattle.register_gates.specs.Tdo.{TdoLetsGo}
use Rattle.instruction_gates.specs.Register.{pattern_bits, held_shift, held_opcode}
use Rattle.instruction_gates.specs.RegisterLaws.{FitTheRegister}
use Rattle.instruction_gates.specs.Steps.{HoldsStages}
use Rattle.boundary_cells.specs.MachineRows.{bit_at}
use Rattle.surrounded_core.specs.Rows.{BoundaryRow, observe_row, input_row, output_row, control_row, bidir_row, HoldsUpdate}
use Rattle.surrounded_core.proofs.ChipRows.{kinds_long}
use Rattle.wrapped_chip.specs.ChipRuns.{ChipMoment, ChipEvent}
use Rattle.wrapped_chip.specs.Home.{IsOutside, OutsideGoesOn, IsRunFromBits, FallsHome, IsHome}
use Rattle.wrapped_chip.specs.Realises.{SameOutside, SameEvents}
use Rattle.surrounded_core.specs.Places.{Places, controller_nets, selection_nets, bypass_bit, code_values, ident_bit}
use Rattle.surrounded_core.specs.Open.{HoldsAsChip}
use Rattle.surrounded_core.specs.Surrounds.{SurroundsBy}
use Rattle.surrounded_core.specs.Home.{IsControllerAdded, SurroundedFindsHome, SurroundedFollowsFromHome}
use Rattle.surrounded_core.proofs.Outside.{outside_always}
use Rattle.surrounded_core.proofs.Parts.{RunLaws, HoldsMachine, Scene, Levelled, levelled_by, levelled, carried_by, carried, moded_by, state_shown, instruction_followed, bypass_held}
use Rattle.surrounded_core.proofs.Along.{seen_at, is_chip_run, tdo_begins, tdo_moves, bit_read, reads_then}

-- the laws that it stands on
pub record HomeLaws : Type 0 where
  pub by : RunLaws
  pub home : TapFindsHome
  pub goes : OutsideGoesOn
  pub lets_go : TdoLetsGo
  pub constants : ConstantsAreBits

-- A machine that is read from the parts.

abbrev bits_from : (ℕ → Sig) → ℕ → List CellRow → List Sig
bits_from f first [] = []
bits_from f first (row ∷ rows) = f first ∷ bits_from f (suc first) rows

bit_from : (f : ℕ → Sig) (rows : List CellRow) (place first : ℕ) (row : CellRow) → slice_get rows place ≡ Some row → bit_at (bits_from f first rows) place ≡ f (first + place)
bit_from f [] place first row at = absurd (cc)
bit_from f (r ∷ rows) zero first row at = let e : first ≡ first + 0 = omega arith in ap f e
bit_from f (r ∷ rows) (suc place) first row at = let e : suc first + place ≡ first + suc place = omega arith in bit_from f rows place (suc first) row at ∙ ap f e

long_from : (f : ℕ → Sig) (rows : List CellRow) (first : ℕ) → length (bits_from f first rows) ≡ length rows
long_from f [] first = refl
long_from f (r ∷ rows) first = ap (λ (n : ℕ). suc n) (long_from f rows (suc first))

abbrev update_from : BoundaryRow → ℕ → (ℕ → Sig) → Sig
update_from (observe_row pin) first value = Zero
update_from (input_row pin into) first value = value (first + 3)
update_from (output_row cell core into) first value = value (first + 3)
update_from (control_row cell core active_high into) first value = value (first + 3)
update_from (bidir_row core enable active_high pin into) first value = value (first + 3)

holds_update : (b : BoundaryRow) (first : ℕ) (value : ℕ → Sig) (upd : Sig) → upd ≡ update_from b first value → HoldsUpdate b first upd value
holds_update (observe_row pin) first value upd e = e
holds_update (input_row pin into) first value upd e = sym e
holds_update (output_row cell core into) first value upd e = sym e
holds_update (control_row cell core active_high into) first value upd e = sym e
holds_update (bidir_row core enable active_high pin into) first value upd e = sym e

abbrev read_machine : Device → Places → Moment → Machine
read_machine B S m = record {
  state = TestLogicReset;
  shift = held_shift m.value S.instruction S.codes;
  latched = reset_opcode (test_logic_of B).opcodes;
  bypass = m.value (bypass_bit S).0;
  ident = option_map_or (code_values S m.value) S.code [];
  boundary = bits_from (λ place. m.value (S.row place)) 0 B.cells;
  update = bits_from (λ place. update_from (S.gates place) (S.row place) m.value) 0 B.cells;
  tdo = HighZ;
}

-- Its lists are as long as the registers.

chain_long : (value : ℕ → Sig) (first : ℕ) (xs : List Feed) → length (chain_values value first xs) ≡ length xs
chain_long value first [] = refl
chain_long value first (x ∷ xs) = ap (λ (n : ℕ). suc n) (chain_long value first xs)

bits_long : (count value : ℕ) → length (bits_of count value) ≡ count
unfolding bits_of
bits_long zero value = refl
bits_long (suc count) value = ap (λ (n : ℕ). suc n) (bits_long count _)

ident_long : IdentFollows → (S : Places) (value : ℕ → Sig) (o : Option ℕ) → length (option_map_or (code_values S value) o []) ≡ length (code_bits o)
ident_long ident S value None = refl
ident_long ident S value (Some code) =
    let laws = ident S.ident S.ident_number (controller_nets S) (selection_nets S).ident_on (selection_nets S).user_on S.tdi S.user code in
    chain_long value (S.ident + user_size S.user + 2) _ ∙ laws.long ∙ sym (bits_long 32 code)

shift_long : ConstantsAreBits → (value : ℕ → Sig) (first : ℕ) (codes : Codes) → FitTheRegister codes → length (held_shift value first codes) ≡ length (pattern codes.capture)
shift_long constants value first codes fit =
    chain_long value (first + 1) (pattern_bits codes codes.capture) ∙ (constants codes.length codes.capture.value).counted ∙ sym fit.capture
    ∙ sym (bits_long codes.capture.len codes.capture.value)

machine_is_home : HomeLaws → (M N : NetlistView) (B : Device) (S : Places) {shown : NetId} → SurroundsBy M N B S shown → (m : Moment) → IsHome (test_logic_of B) (read_machine B S m)
machine_is_home laws M N B S around m = record {
  state = refl;
  latched = refl;
  tdo = refl;
  shift = shift_long laws.constants m.value S.instruction S.codes around.codes.fit ∙ ap (λ (xs : List Sig). length xs) (sym around.codes.codes.capture);
  ident = ident_long laws.by.ident S m.value S.code ∙ ap (λ (o : Option ℕ). length (code_bits o)) around.codes.code;
  boundary = long_from (λ place. m.value (S.row place)) B.cells 0 ∙ sym (kinds_long B.cells);
  update = long_from (λ place. update_from (S.gates place) (S.row place) m.value) B.cells 0 ∙ sym (kinds_long B.cells);
}

-- The falling edge.

latches_home : (L : TestLogic) (before after : Levels) (caught : List Sig) (machine : Machine) → machine.state ≡ TestLogicReset → edge_of before.tck after.tck ≡ Some Fall
    → (machine_step L before after caught machine).latched ≡ reset_opcode L.opcodes
latches_home L before after caught machine home falls = by_trst after.trst
  where
    by_trst : (high : Bool) → (step_under high L before after caught machine).latched ≡ reset_opcode L.opcodes
    by_trst false = refl
    by_trst true =
        ap (λ e. (clocked L e before.tms (bit before.tdi) caught machine).latched) falls
        ∙ ap (λ (w : TapState). latched_after (reset_opcode L.opcodes) w machine.shift machine.latched) home

no_rise : (a b : Bool) → edge_of a b ≡ Some Fall → (not a && b) ≡ false
no_rise true b e = refl
no_rise false true e = absurd (cc)
no_rise false false e = refl

-- A run from bits, up to the falling edge and past it.

record Fallen (M N : NetlistView) (B : Device) (S : Places) (shown : NetId) (events : List ChipEvent) (outside : ℕ → ChipMoment) (moment : ℕ → Moment) (t : ℕ) : Type 0 where
  around : SurroundsBy M N B S shown
  added : IsControllerAdded M N S
  is_outside : IsOutside N events outside
  from : IsRunFromBits M N events outside moment
  within : suc t ≤ length events
  falls : FallsHome (λ u. (outside u).levels) t

there_within : (M N : NetlistView) (events : List ChipEvent) (outside : ℕ → ChipMoment) (moment : ℕ → Moment) (from : IsRunFromBits M N events outside moment) (u : ℕ)
    → u ≤ length events → u ≤ length from.there
there_within M N events outside moment from u h = let count : length from.there ≡ length events = from.same_events.count in omega arith

course_of : (M N : NetlistView) (events : List ChipEvent) (outside : ℕ → ChipMoment) (moment : ℕ → Moment) (from : IsRunFromBits M N events outside moment) → IsCourse M from.there moment
course_of M N events outside moment from = record { settled = from.run.start.settled; steps = from.run.steps }

record AtMoment (M N : NetlistView) (S : Places) (outside : ℕ → ChipMoment) (moment : ℕ → Moment) (u : ℕ) : Type 0 where
  settled : IsSettled M (moment u).pins (moment u).state (moment u).value
  same : SameOutside M N (outside u) (moment u).pins
  levelled : Levelled S (outside u).levels (moment u)

settled_in : (M : NetlistView) (there : List PinEvent) (moment : ℕ → Moment) → IsCourse M there moment → (u : ℕ) → u ≤ length there
    → IsSettled M (moment u).pins (moment u).state (moment u).value
settled_in M there moment course zero h = course.settled
settled_in M there moment course (suc u) h = let other = slice_get_there there u (omega arith) in (course.steps u other.0 other.1).settled

at_moment : (M N : NetlistView) (B : Device) (S : Places) (shown : NetId) (events : List ChipEvent) (outside : ℕ → ChipMoment) (moment : ℕ → Moment) (t : ℕ) → Fallen M N B S shown events outside moment t
    → (u : ℕ) → u ≤ length events → AtMoment M N S outside moment u
at_moment M N B S shown events outside moment t f u h =
    let from = f.from in
    let course = course_of M N events outside moment from in
    let settled = settled_in M from.there moment course u (there_within M N events outside moment from u h) in
    let same = outside_always M N f.around.pins events outside from.there moment f.is_outside from.same_pins from.same_events course u h in
    record { settled = settled; same = same; levelled = levelled_by M N B S f.around (outside u) (moment u) settled same }

-- in Test-Logic-Reset after five rising edges
in_reset : HomeLaws → (M N : NetlistView) (B : Device) (S : Places) (shown : NetId) (events : List ChipEvent) (outside : ℕ → ChipMoment) (moment : ℕ → Moment) (t : ℕ) → Fallen M N B S shown events outside moment t
    → (u : ℕ) → u ≤ length events → RisesWithOnes (λ v. (outside v).levels) u → 5 ≤ rises (λ v. (outside v).levels) u → HoldsState S.controller TestLogicReset (moment u)
in_reset laws M N B S shown events outside moment t f u h ones five =
    let from = f.from in
    let home = laws.home S.controller S.controller_number S.tck S.tms S.trst in
    let moded = λ (v : ℕ) (g : v ≤ length events). moded_by S (outside v).levels (moment v) (at_moment M N B S shown events outside moment t f v g).levelled in
    let bits : HoldsBits S.controller (moment 0)
    = home.starts M from.start (outside 0).levels (moment 0) f.around.formed f.around.registers.controller from.run.start (moded 0 (omega arith))
    (λ s i cell kind live flop out. from.bits i cell kind live flop (f.added s i cell live out)) in
    home.home M from.there moment (λ v. (outside v).levels) f.around.formed f.around.registers.controller (course_of M N events outside moment from) bits
    (λ v g. moded v (let count : length from.there ≡ length events = from.same_events.count in omega arith)) u (there_within M N events outside moment from u h) ones five

past_fall : (levels : ℕ → Levels) (t : ℕ) → FallsHome levels t → RisesWithOnes levels (suc t) × (5 ≤ rises levels (suc t))
past_fall levels t f =
    let none : is_rise (levels t) (levels (suc t)) ≡ false = no_rise (levels t).tck (levels (suc t)).tck f.falls in
    let same : rises levels (suc t) ≡ rises levels t = ap (λ (b : Bool). if b then suc (rises levels t) else rises levels t) none in
    let five : 5 ≤ rises levels t = f.five in (
      (λ u h e. elim (cases_lt u t) [
        | inl less ↦ f.ones u less e
        | inr more ↦ (let here : u ≡ t = omega arith in
            let bad : false ≡ true = sym none ∙ ap (λ (v : ℕ). is_rise (levels v) (levels (suc v))) (sym here) ∙ e in absurd (cc))
      ]),
      subst (λ (n : ℕ). 5 ≤ n) (sym same) five,
    )

-- the parts hold the machine that is read from them
holds_home : HomeLaws → (M N : NetlistView) (B : Device) (S : Places) (shown : NetId) (events : List ChipEvent) (outside : ℕ → ChipMoment) (moment : ℕ → Moment) (t : ℕ) → Fallen M N B S shown events outside moment t
    → HoldsMachine B S (read_machine B S (moment (suc t))) (moment (suc t))
holds_home laws M N B S shown events outside moment t f =
    let by = laws.by in
    let around = f.around in
    let L : TestLogic = test_logic_of B in
    let levels : ℕ → Levels = λ u. (outside u).levels in
    let within : suc t ≤ length events = f.within in
    let before : t ≤ length events = omega arith in
    let there : suc t ≤ length f.from.there = there_within M N events outside moment f.from (suc t) within in
    let now = at_moment M N B S shown events outside moment t f t before in
    let next_moment = at_moment M N B S shown events outside moment t f (suc t) within in
    let m : Moment = moment t in
    let m' : Moment = moment (suc t) in
    let event = slice_get_there f.from.there t (omega arith) in
    let step : IsStep M event.0 m m' = f.from.run.steps t event.0 event.1 in
    let carries = carried_by S (levels t) m now.levelled in
    let carries' = carried_by S (levels (suc t)) m' next_moment.levelled in
    let tap = by.tap S.controller S.controller_number S.tck S.tms S.trst in
    let shows = tap.shows TestLogicReset m (in_reset laws M N B S shown events outside moment t f t before f.falls.ones f.falls.five) in
    let past = past_fall levels t f.falls in
    let machine : Machine = record (reset L) { shift = held_shift m.value S.instruction S.codes; latched = held_opcode m.value S.instruction S.codes } in
    let held : HoldsStages S.instruction S.codes machine m = record { shift = refl; latched = refl } in
    let next = (by.instruction S.instruction S.instruction_number (controller_nets S) S.tdi S.codes M L around.formed around.registers.instruction around.codes.codes around.codes.fit).step event.0
    (levels t) (levels (suc t)) [] machine m m' now.settled step (record { carries = carries; shows = shows; data_in = now.levelled.tdi }) carries' held in
    record {
      controller = in_reset laws M N B S shown events outside moment t f (suc t) within past.0 past.1;
      stages = record { shift = refl; latched = next.latched ∙ latches_home L (levels t) (levels (suc t)) [] machine refl f.falls.falls };
      legible = (by.legible S.codes L around.codes.codes).reset (read_machine B S m') refl refl;
      bypass = refl;
      ident = λ code e. sym (ap (λ (o : Option ℕ). option_map_or (code_values S m'.value) o []) e);
      tdo = laws.lets_go S.driver S.driver_number (controller_nets S) (selection_nets S) shown (ident_bit S) S.nearest S.tdo M event.0 (levels t) (levels (suc t)) m m' around.formed
          around.registers.tdo now.settled step carries carries' shows f.falls.falls;
      rows = λ place row there_row. record {
        shift = sym (bit_from (λ p. m'.value (S.row p)) B.cells place 0 row there_row ∙ ap (λ (p : ℕ). m'.value (S.row p)) (let z : 0 + place ≡ place = omega arith in z));
        update = holds_update (S.gates place) (S.row place) m'.value _
            (bit_from (λ p. update_from (S.gates p) (S.row p) m'.value) B.cells place 0 row there_row
            ∙ ap (λ (p : ℕ). update_from (S.gates p) (S.row p) m'.value) (let z : 0 + place ≡ place = omega arith in z));
      };
      long = record {
        boundary = (machine_is_home laws M N B S around m').boundary;
        update = (machine_is_home laws M N B S around m').update;
      };
    }

-- What is left from a moment on.

drop_get : {A : Type 0} (xs : List A) (first k : ℕ) → slice_get (drop first xs) k ≡ slice_get xs (first + k)
drop_get xs zero k = let e : 0 + k ≡ k = omega arith in rw e refl
drop_get [] (suc first) k = refl
drop_get (x ∷ xs) (suc first) k = let e : suc first + k ≡ suc (first + k) = omega arith in rw e (drop_get xs first k)

course_from : (M : NetlistView) (there : List PinEvent) (moment : ℕ → Moment) (first : ℕ) → first ≤ length there → IsCourse M there moment
    → IsCourse M (drop first there) (λ u. moment (first + u))
course_from M there moment first within course = record {
  settled = let e : first ≡ first + 0 = omega arith in
      subst (λ (u : ℕ). IsSettled M (moment u).pins (moment u).state (moment u).value) e (settled_in M there moment course first within);
  steps = λ u event at. let e : suc (first + u) ≡ first + suc u = omega arith in
      subst (λ (v : ℕ). IsStep M event (moment (first + u)) (moment v)) e (course.steps (first + u) event (sym (drop_get there first u) ∙ at));
}

events_from : (M N : NetlistView) (events : List ChipEvent) (there : List PinEvent) (first : ℕ) → SameEvents M N events there → SameEvents M N (drop first events) (drop first there)
events_from M N events there first same = record {
  count = length-drop first there ∙ ap (λ (n : ℕ). n - first) same.count ∙ sym (length-drop first events);
  each = λ t event other here at. same.each (first + t) event other (sym (drop_get events first t) ∙ here) (sym (drop_get there first t) ∙ at);
}

home_scene : HomeLaws → (M N : NetlistView) (B : Device) (S : Places) (shown : NetId) (events : List ChipEvent) (outside : ℕ → ChipMoment) (moment : ℕ → Moment) (t : ℕ) → Fallen M N B S shown events outside moment t
    → Scene
home_scene laws M N B S shown events outside moment t f =
    let home : ℕ = suc t in
    let from = f.from in
    let there : home ≤ length from.there = there_within M N events outside moment from home f.within in
    let e : home ≡ home + 0 = omega arith in
    let rest : FlopsStart M (moment home).state (moment home).value (moment home).state = record { each = run_rests M from.start from.there moment from.run home there } in record {
      outer = M;
      inner = N;
      device = B;
      places = S;
      shown = shown;
      around = f.around;
      events = drop home events;
      outside = λ u. outside (home + u);
      is_outside = laws.goes N events outside home f.within f.is_outside;
      there = drop home from.there;
      same_events = events_from M N events from.there home from.same_events;
      moment = λ u. moment (home + u);
      same_pins = subst (λ (u : ℕ). SameOutside M N (outside u) (moment u).pins) e (at_moment M N B S shown events outside moment t f home f.within).same;
      course = course_from M from.there moment home there (course_of M N events outside moment from);
      given = (moment home).state;
      rests = subst (λ (u : ℕ). FlopsStart M (moment home).state (moment u).value (moment u).state) e rest;
      begun = read_machine B S (moment home);
      holds = subst (λ (u : ℕ). HoldsMachine B S (read_machine B S (moment home)) (moment u)) e (holds_home laws M N B S shown events outside moment t f);
    }

pub finds_home : HomeLaws → SurroundedFindsHome
unfolding home_scene
finds_home laws = λ M N B S around added events outside moment is from t within falls.
    let shown : NetId = bypass_bit S in
    let f : Fallen M N B S shown events outside moment t = record { around = around; added = added; is_outside = is; from = from; within = within; falls = falls } in
    let r : Scene = home_scene laws M N B S shown events outside moment t f in record {
      machine = read_machine B S (moment (suc t));
      is_home = machine_is_home laws M N B S around (moment (suc t));
      held = [];
      long = refl;
      chip = seen_at r;
      run = is_chip_run laws.by r;
      levels = λ u. refl;
      pins = λ u net. refl;
      reads = λ u h. reads_then laws.by r (λ v g. bypass_held laws.by r v g) u h;
    }

-- Whatever is shown in the place of the bypass bit.

seen_holds : RunLaws → (r : Scene) (t : ℕ) → t ≤ length r.events → HoldsAsChip r.outer r.device r.inner r.places (r.moment t) (seen_at r t)
seen_holds by r t below = record {
  bits = λ net read. bit_read by r t below net read;
  kept = λ i cell kind live flop. refl;
  core = λ net. refl;
  levels = carried r t below;
  data_in = (levelled r t below).tdi;
  shows = state_shown by r t below;
  instruction = instruction_followed by r t below;
  bypass = bypass_held by r t below;
}

pub follows_from_home : HomeLaws → SurroundedFollowsFromHome
unfolding home_scene
follows_from_home laws = λ M N B S shown around added events outside moment is from t within falls.
    let f : Fallen M N B S shown events outside moment t = record { around = around; added = added; is_outside = is; from = from; within = within; falls = falls } in
    let r : Scene = home_scene laws M N B S shown events outside moment t f in record {
      machine = read_machine B S (moment (suc t));
      is_home = machine_is_home laws M N B S around (moment (suc t));
      chip = seen_at r;
      run = is_chip_run laws.by r;
      levels = λ u. refl;
      pins = λ u net. refl;
      follows = record {
        holds = λ u h. seen_holds laws.by r u h;
        tap = around.ports.tdo;
        off = tdo_begins laws.by r;
        tdo = λ u h. tdo_moves laws.by r u h;
      };
    }
