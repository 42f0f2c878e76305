-- A device meets its program: the test logic is at each moment above the one that knows nothing of the core.
use Rattle.std.proofs.Common.{◌≡◌, ℕ, zero, suc, ◌+◌, Bool, true, false, List, [], ◌∷◌, ◌++◌, map, Option, Some, None, if◌then◌else◌, refl, sym, ap, ◌∙◌, subst, inl, inr, arith}
use Rattle.std.specs.Prelude.{slice_get, slice_index_or, ⊤}
use Rattle.std.specs.List.{enumerate_from, flat_map}
use Rattle.std.specs.Option.{option_map_or, option_map}
use Rattle.std.proofs.lemmas.List.{append_assoc, append-nil}
use Rattle.signal_values.specs.declared.Sig.{Sig}
use Rattle.signal_values.specs.declared.Sig.TheVariants.{Unknown}
use Rattle.signal_values.specs.declared.PinSig.{PinSig}
use Rattle.signal_values.specs.declared.PinSig.TheVariants as pin
use Rattle.signal_values.specs.Knowledge.{IsBelow, IsPinBelow}
use Rattle.bsdl_device.specs.declared.values.DevPort.{DevPort}
use Rattle.bsdl_device.specs.declared.values.CellRow.{CellRow}
use Rattle.bsdl_device.specs.declared.values.Disable.{Disable}
use Rattle.bsdl_device.specs.declared.values.Device.{Device}
use Rattle.bsdl_device.specs.Ports.{indices}
use Rattle.test_logic.specs.declared.Levels.{Levels}
use Rattle.test_logic.specs.declared.TapInput.{TapInput}
use Rattle.test_logic.specs.declared.TapInput.TheVariants.{Tck, Tms, Tdi, Trst}
use Rattle.test_logic.specs.Instructions.{instruction_of}
use Rattle.test_logic.specs.Machine.{Machine, machine_step, test_logic_of, in_effect}
use Rattle.test_logic.specs.Order.{CellsKeepOrder, StepsKeepOrder, AreControlsBelow, IsCellBelow, AreBelow, IsMachineBelow}
use Rattle.scan_vectors.specs.declared.lines.Line.{Line}
use Rattle.scan_vectors.specs.declared.lines.Line.TheVariants.{Start, Set, Expect}
use Rattle.scan_programs.specs.declared.clocks.Clock.{Clock}
use Rattle.scan_programs.specs.declared.pins.Reader.{Reader}
use Rattle.scan_programs.specs.Scans.{all_clocks}
use Rattle.scan_programs.specs.Cells.{Core, unknown_core, cell_at, control_at, captured_at, captured, reading_at, reading}
use Rattle.scan_programs.specs.Pins.{bit_word, port_word, start_value, takes_start, starts_of, starts, cell_of, is_read_port, reader_at, readers_of, readers}
use Rattle.scan_programs.specs.Program.{expected, tdo_lines, reader_value, pin_lines, look, is_update, look_after, set_line, set_if, Bench, machine_after, bench_after, clock_lines, scan_lines, in_reset, first_bench, program_of}
use Rattle.scan_programs.specs.Met.{Moment, input_place, with_level, first_levels, IsStart, IsStep, IsRunFrom, Reads, AreMetFrom, ProgramsAreMet}

-- the two laws of test logic that this rests on
pub record KeepOrder : Type 0 where
  pub cells : CellsKeepOrder
  pub steps : StepsKeepOrder

-- What a cell captures and what its pin reads.

index_below : (xs ys : List Sig) (n : ℕ) → AreBelow xs ys → IsBelow (slice_index_or xs n Unknown) (slice_index_or ys n Unknown)
index_below [] [] n h = inl refl
index_below [] (y ∷ ys) n h = absurd h
index_below (x ∷ xs) [] n h = absurd h
index_below (x ∷ xs) (y ∷ ys) zero h = h.0
index_below (x ∷ xs) (y ∷ ys) (suc n) h = index_below xs ys n h.1

controls_below : (m m' : Machine) (core : Core) (number : ℕ) (d : Option Disable) → IsMachineBelow m m'
    → AreControlsBelow (option_map (control_at m unknown_core number) d) (option_map (control_at m' core number) d)
controls_below m m' core number None h = tt
controls_below m m' core number (Some d) h = record { disable = refl; upd = index_below m.update m'.update d.control h.update; core = inl refl }

cell_below : (m m' : Machine) (core : Core) (number : ℕ) (row : CellRow) → IsMachineBelow m m' → IsCellBelow (cell_at m unknown_core number row) (cell_at m' core number row)
cell_below m m' core number row h = record {
  upd = index_below m.update m'.update number h.update;
  core = inl refl;
  control = controls_below m m' core number row.disable h;
  outside = inr refl;
}

same_effect : (B : Device) (m m' : Machine) → IsMachineBelow m m' → in_effect (test_logic_of B) m ≡ in_effect (test_logic_of B) m'
same_effect B m m' h = ap (instruction_of B.opcodes) h.latched

captured_each : KeepOrder → (B : Device) (m m' : Machine) (core : Core) → IsMachineBelow m m' → (rows : List (ℕ × CellRow))
    → AreBelow (map (captured_at B m unknown_core) rows) (map (captured_at B m' core) rows)
captured_each laws B m m' core h [] = tt
captured_each laws B m m' core h ((number, row) ∷ rows) =
    let one : IsBelow (captured_at B m unknown_core (number, row)) (captured_at B m' core (number, row))
    = rw (same_effect B m m' h) (laws.cells row.cell row.function (in_effect (test_logic_of B) m') _ _ (cell_below m m' core number row h)).captured in
    (one, captured_each laws B m m' core h rows)

captured_below : KeepOrder → (B : Device) (m m' : Machine) (core : Core) → IsMachineBelow m m' → AreBelow (captured B m unknown_core) (captured B m' core)
unfolding captured
captured_below laws B m m' core h = captured_each laws B m m' core h (enumerate_from 0 B.cells)

reading_of : KeepOrder → (B : Device) (m m' : Machine) (core : Core) (number : ℕ) (row : Option CellRow) → IsMachineBelow m m'
    → IsPinBelow (option_map_or (reading_at B m unknown_core number) row pin.Unknown) (option_map_or (reading_at B m' core number) row pin.Unknown)
reading_of laws B m m' core number None h = inl refl
reading_of laws B m m' core number (Some row) h =
    rw (same_effect B m m' h) (laws.cells row.cell row.function (in_effect (test_logic_of B) m') _ _ (cell_below m m' core number row h)).reads

reading_below : KeepOrder → (B : Device) (m m' : Machine) (core : Core) (number : ℕ) → IsMachineBelow m m' → IsPinBelow (reading B m unknown_core number) (reading B m' core number)
reading_below laws B m m' core number h = reading_of laws B m m' core number (slice_get B.cells number) h

-- Runs of lines.

-- a moment of the run has these levels, and its test logic is above the one that knows nothing of the core
record IsAbove (levels : Levels) (m : Machine) (w : Moment) : Type 0 where
  levels_are : w.levels ≡ levels
  machine : IsMachineBelow m w.machine

-- from such a moment on the lines are met
abbrev Goes : Device → (ℕ → Moment) → List Line → Levels → Machine → Type 0
Goes B moment lines levels m = (t : ℕ) → IsAbove levels m (moment t) → IsRunFrom B moment t lines → AreMetFrom B moment t lines

same_lines : (B : Device) (moment : ℕ → Moment) (levels : Levels) (m : Machine) (xs ys : List Line) → xs ≡ ys → Goes B moment ys levels m → Goes B moment xs levels m
same_lines B moment levels m xs ys e go = subst (λ (lines : List Line). Goes B moment lines levels m) (sym e) go

-- each known value is read
abbrev IsRead : Device → (ℕ → Moment) → Levels → Machine → List ℕ → PinSig → Type 0
IsRead B moment levels m word value = (t : ℕ) → IsAbove levels m (moment t) → (value ≡ pin.Unknown → ⊥) → Reads B (moment t) word value

expected_met : (B : Device) (moment : ℕ → Moment) (levels : Levels) (m : Machine) (word : List ℕ) (value : PinSig) (rest : List Line) → IsRead B moment levels m word value
    → Goes B moment rest levels m → Goes B moment (expected word value ++ rest) levels m
expected_met B moment levels m word pin.Unknown rest read go = go
expected_met B moment levels m word pin.Zero rest read go = λ t above run. (read t above (λ e. cc), go t above run)
expected_met B moment levels m word pin.One rest read go = λ t above run. (read t above (λ e. cc), go t above run)
expected_met B moment levels m word pin.HighZ rest read go = λ t above run. (read t above (λ e. cc), go t above run)

known_is : (a b : PinSig) → IsPinBelow a b → (a ≡ pin.Unknown → ⊥) → b ≡ a
known_is a b (inl e) known = absurd (known e)
known_is a b (inr e) known = sym e

tdo_met : (B : Device) (moment : ℕ → Moment) (levels : Levels) (m : Machine) (rest : List Line) → Goes B moment rest levels m → Goes B moment (tdo_lines B m ++ rest) levels m
tdo_met B moment levels m rest go =
    expected_met B moment levels m (port_word B B.tdo) m.tdo rest
    (λ t above known. inl (record { named = refl; reads = known_is m.tdo (moment t).machine.tdo above.machine.tdo known })) go

-- a reader is of a bit, and of the cell there
pub record IsReader (B : Device) (r : Reader) : Type 0 where
  pub place : ℕ
  pub port : DevPort
  pub bit : ℕ
  pub index : Option ℕ
  pub there : slice_get B.ports place ≡ Some port
  pub read : is_read_port B (place, port) ≡ true
  pub at : slice_get (indices port.range) bit ≡ Some index
  pub named : r.word ≡ bit_word port.name index
  pub cell : cell_of B.cells (record { port = place; index = index }) ≡ r.number

abbrev pub AreReaders : Device → List Reader → Type 0
AreReaders B [] = ⊤
AreReaders B (r ∷ rs) = IsReader B r × AreReaders B rs

joined_readers : (B : Device) (xs ys : List Reader) → AreReaders B xs → AreReaders B ys → AreReaders B (xs ++ ys)
joined_readers B [] ys h k = k
joined_readers B (x ∷ xs) ys h k = (h.0, joined_readers B xs ys h.1 k)

port_readers : (B : Device) (place : ℕ) (p : DevPort) (is : List (Option ℕ)) → slice_get B.ports place ≡ Some p → is_read_port B (place, p) ≡ true
    → ((k : ℕ) (i : Option ℕ) → slice_get is k ≡ Some i → (bit : ℕ) × (slice_get (indices p.range) bit ≡ Some i)) → AreReaders B (map (reader_at B.cells place p.name) is)
port_readers B place p [] there read are = tt
port_readers B place p (i ∷ is) there read are =
    let at = are 0 i refl in (
      record { place = place; port = p; bit = at.0; index = i; there = there; read = read; at = at.1; named = refl; cell = refl },
      port_readers B place p is there read (λ k j h. are (suc k) j h),
    )

readers_if : (B : Device) (place : ℕ) (p : DevPort) (b : Bool) → slice_get B.ports place ≡ Some p → is_read_port B (place, p) ≡ b
    → AreReaders B (if b then map (reader_at B.cells place p.name) (indices p.range) else [])
readers_if B place p true there read = port_readers B place p (indices p.range) there read (λ k i h. (k, h))
readers_if B place p false there read = tt

readers_from : (B : Device) (place : ℕ) (ps : List DevPort) → ((k : ℕ) → slice_get ps k ≡ slice_get B.ports (place + k)) → AreReaders B (flat_map (readers_of B) (enumerate_from place ps))
readers_from B place [] same = tt
readers_from B place (p ∷ ps) same =
    let here : slice_get B.ports place ≡ Some p = ap (slice_get B.ports) (let e : place ≡ place + 0 = omega arith in e) ∙ sym (same 0) in
    joined_readers B (readers_of B (place, p)) (flat_map (readers_of B) (enumerate_from (place + 1) ps))
    (readers_if B place p (is_read_port B (place, p)) here refl)
    (readers_from B (place + 1) ps (λ k. same (suc k) ∙ ap (slice_get B.ports) (let e : place + suc k ≡ place + 1 + k = omega arith in e)))

pub readers_are : (B : Device) → AreReaders B (readers B)
unfolding readers
readers_are B = readers_from B 0 B.ports (λ k. ap (slice_get B.ports) (let e : k ≡ 0 + k = omega arith in e))

reader_by : KeepOrder → (B : Device) (moment : ℕ → Moment) (levels : Levels) (m : Machine) (r : Reader) (is : IsReader B r) (number : Option ℕ) → r.number ≡ number
    → IsRead B moment levels m r.word (option_map_or (reading B m unknown_core) number pin.Unknown)
reader_by laws B moment levels m r is None e = λ t above known. absurd (known refl)
reader_by laws B moment levels m r is (Some n) e = λ t above known. inr (record {
  place = is.place;
  port = is.port;
  index = is.index;
  number = n;
  there = is.there;
  read = is.read;
  named = is.named;
  cell = is.cell ∙ e;
  reads = known_is (reading B m unknown_core n) (reading B (moment t).machine (moment t).core n) (reading_below laws B m (moment t).machine (moment t).core n above.machine) known;
})

pins_met : KeepOrder → (B : Device) (moment : ℕ → Moment) (levels : Levels) (m : Machine) (rs : List Reader) (rest : List Line) → AreReaders B rs → Goes B moment rest levels m
    → Goes B moment (flat_map (λ (r : Reader). expected r.word (reader_value B m r)) rs ++ rest) levels m
pins_met laws B moment levels m [] rest are go = go
pins_met laws B moment levels m (r ∷ rs) rest are go =
    let more = flat_map (λ (r : Reader). expected r.word (reader_value B m r)) rs in
    same_lines B moment levels m ((expected r.word (reader_value B m r) ++ more) ++ rest) (expected r.word (reader_value B m r) ++ (more ++ rest)) (append_assoc (expected r.word (reader_value B m r)) more rest)
    (expected_met B moment levels m r.word (reader_value B m r) (more ++ rest) (reader_by laws B moment levels m r are.0 r.number refl) (pins_met laws B moment levels m rs rest are.1 go))

look_met : KeepOrder → (B : Device) (moment : ℕ → Moment) (levels : Levels) (m : Machine) (rest : List Line) → Goes B moment rest levels m → Goes B moment (look B m ++ rest) levels m
look_met laws B moment levels m rest go =
    same_lines B moment levels m (look B m ++ rest) (tdo_lines B m ++ (pin_lines B m ++ rest)) (append_assoc (tdo_lines B m) (pin_lines B m) rest)
    (tdo_met B moment levels m (pin_lines B m ++ rest) (pins_met laws B moment levels m (readers B) rest (readers_are B) go))

pins_if : KeepOrder → (B : Device) (moment : ℕ → Moment) (levels : Levels) (m : Machine) (b : Bool) (rest : List Line) → Goes B moment rest levels m
    → Goes B moment ((if b then pin_lines B m else []) ++ rest) levels m
pins_if laws B moment levels m true rest go = pins_met laws B moment levels m (readers B) rest (readers_are B) go
pins_if laws B moment levels m false rest go = go

look_after_met : KeepOrder → (B : Device) (moment : ℕ → Moment) (levels : Levels) (m : Machine) (rest : List Line) → Goes B moment rest levels m → Goes B moment (look_after B m ++ rest) levels m
look_after_met laws B moment levels m rest go =
    let pins = if is_update m.state then pin_lines B m else [] in
    same_lines B moment levels m (look_after B m ++ rest) (tdo_lines B m ++ (pins ++ rest)) (append_assoc (tdo_lines B m) pins rest)
    (tdo_met B moment levels m (pins ++ rest) (pins_if laws B moment levels m (is_update m.state) rest go))

-- Sets.

-- the test logic after a set, where nothing is known of the core
abbrev set_machine : Device → Levels → TapInput → Bool → Machine → Machine
set_machine B levels input level m = machine_step (test_logic_of B) levels (with_level levels input level) (captured B m unknown_core) m

step_above : KeepOrder → (B : Device) (levels : Levels) (m : Machine) (input : TapInput) (level : Bool) (w w' : Moment) → IsAbove levels m w → IsStep B input level w w'
    → IsAbove (with_level levels input level) (set_machine B levels input level m) w'
step_above laws B levels m input level w w' above step =
    let now : w'.levels ≡ with_level levels input level = step.levels ∙ ap (λ (l : Levels). with_level l input level) above.levels_are in
    let same : w'.machine ≡ machine_step (test_logic_of B) levels (with_level levels input level) (captured B w.machine w.core) w.machine
    = step.machine ∙ ap (λ (l : Levels). machine_step (test_logic_of B) l w'.levels (captured B w.machine w.core) w.machine) above.levels_are
    ∙ ap (λ (l : Levels). machine_step (test_logic_of B) levels l (captured B w.machine w.core) w.machine) now in
    record {
      levels_are = now;
      machine = subst (λ (n : Machine). IsMachineBelow (set_machine B levels input level m) n) (sym same)
          (laws.steps (test_logic_of B) levels (with_level levels input level) (captured B m unknown_core) (captured B w.machine w.core) m w.machine
          (captured_below laws B m w.machine w.core above.machine) above.machine);
    }

set_met : KeepOrder → (B : Device) (moment : ℕ → Moment) (levels : Levels) (m : Machine) (input : TapInput) (level : Bool) (rest : List Line)
    → Goes B moment rest (with_level levels input level) (set_machine B levels input level m) → Goes B moment (set_line B (input_place B input) level ∷ rest) levels m
set_met laws B moment levels m input level rest go =
    λ t above run. go (suc t) (step_above laws B levels m input level (moment t) (moment (suc t)) above (run.0 input level refl refl)) run.1

-- the levels between two cycles
abbrev between : Bool → Bool → Levels
between tms tdi = record { tck = false; tms = tms; tdi = tdi; trst = true }

tms_met : KeepOrder → (B : Device) (moment : ℕ → Moment) (m : Machine) (before level tdi : Bool) (rest : List Line) → Goes B moment rest (between level tdi) m
    → Goes B moment (set_if B B.tms before level ++ rest) (between before tdi) m
tms_met laws B moment m true true tdi rest go = go
tms_met laws B moment m false false tdi rest go = go
tms_met laws B moment m true false tdi rest go = set_met laws B moment (between true tdi) m Tms false rest go
tms_met laws B moment m false true tdi rest go = set_met laws B moment (between false tdi) m Tms true rest go

tdi_met : KeepOrder → (B : Device) (moment : ℕ → Moment) (m : Machine) (tms before level : Bool) (rest : List Line) → Goes B moment rest (between tms level) m
    → Goes B moment (set_if B B.tdi before level ++ rest) (between tms before) m
tdi_met laws B moment m tms true true rest go = go
tdi_met laws B moment m tms false false rest go = go
tdi_met laws B moment m tms true false rest go = set_met laws B moment (between tms true) m Tdi false rest go
tdi_met laws B moment m tms false true rest go = set_met laws B moment (between tms false) m Tdi true rest go

clock_met : KeepOrder → (B : Device) (moment : ℕ → Moment) (c : Clock) (w : Bench) (rest : List Line) → Goes B moment rest (between c.tms c.tdi) (machine_after B c w.machine)
    → Goes B moment (clock_lines B c w ++ rest) (between w.tms w.tdi) w.machine
clock_met laws B moment c w rest go =
    let m = w.machine in
    let after = look_after B (machine_after B c m) in
    let edges = set_line B B.tck true ∷ set_line B B.tck false ∷ after in
    let high : Levels = record { tck = true; tms = c.tms; tdi = c.tdi; trst = true } in
    let parts = append_assoc (set_if B B.tms w.tms c.tms) (set_if B B.tdi w.tdi c.tdi ++ edges) rest
    ∙ ap (λ (l : List Line). set_if B B.tms w.tms c.tms ++ l) (append_assoc (set_if B B.tdi w.tdi c.tdi) edges rest) in
    let end : Goes B moment (after ++ rest) (between c.tms c.tdi) (machine_after B c m) = look_after_met laws B moment (between c.tms c.tdi) (machine_after B c m) rest go in
    let falls = set_met laws B moment high (set_machine B (between c.tms c.tdi) Tck true m) Tck false (after ++ rest) end in
    let rises = set_met laws B moment (between c.tms c.tdi) m Tck true (set_line B B.tck false ∷ (after ++ rest)) falls in
    same_lines B moment (between w.tms w.tdi) m _ _ parts
    (tms_met laws B moment m w.tms c.tms w.tdi _ (tdi_met laws B moment m c.tms w.tdi c.tdi _ rises))

abbrev bench_at_end : Device → List Clock → Bench → Bench
bench_at_end B [] w = w
bench_at_end B (c ∷ clocks) w = bench_at_end B clocks (bench_after B c w)

scan_met : KeepOrder → (B : Device) (moment : ℕ → Moment) (clocks : List Clock) (w : Bench) (rest : List Line)
    → ((end : Bench) → Goes B moment rest (between end.tms end.tdi) end.machine) → Goes B moment (scan_lines B clocks w ++ rest) (between w.tms w.tdi) w.machine
unfolding scan_lines
scan_met laws B moment [] w rest go = go w
scan_met laws B moment (c ∷ clocks) w rest go =
    same_lines B moment (between w.tms w.tdi) w.machine _ _ (append_assoc (clock_lines B c w) (scan_lines B clocks (bench_after B c w)) rest)
    (clock_met laws B moment c w (scan_lines B clocks (bench_after B c w) ++ rest) (scan_met laws B moment clocks (bench_after B c w) rest go))

-- Starts.

abbrev AreStarts : List Line → Type 0
AreStarts [] = ⊤
AreStarts (Start word value ∷ lines) = AreStarts lines
AreStarts (Set word value ∷ lines) = ⊥
AreStarts (Expect word value ∷ lines) = ⊥

starts_met : (B : Device) (moment : ℕ → Moment) (levels : Levels) (m : Machine) (lines rest : List Line) → AreStarts lines → Goes B moment rest levels m → Goes B moment (lines ++ rest) levels m
starts_met B moment levels m [] rest are go = go
starts_met B moment levels m (Start word value ∷ lines) rest are go = λ t above run. starts_met B moment levels m lines rest are go t above run
starts_met B moment levels m (Set word value ∷ lines) rest are go = absurd are
starts_met B moment levels m (Expect word value ∷ lines) rest are go = absurd are

joined_starts : (xs ys : List Line) → AreStarts xs → AreStarts ys → AreStarts (xs ++ ys)
joined_starts [] ys h k = k
joined_starts (Start word value ∷ xs) ys h k = joined_starts xs ys h k
joined_starts (Set word value ∷ xs) ys h k = absurd h
joined_starts (Expect word value ∷ xs) ys h k = absurd h

port_starts : (name : List ℕ) (value : PinSig) (is : List (Option ℕ)) → AreStarts (map (λ index. Start (bit_word name index) value) is)
port_starts name value [] = tt
port_starts name value (i ∷ is) = port_starts name value is

starts_if : (b : Bool) (lines : List Line) → AreStarts lines → AreStarts (if b then lines else [])
starts_if true lines h = h
starts_if false lines h = tt

starts_from : (B : Device) (place : ℕ) (ps : List DevPort) → AreStarts (flat_map (starts_of B) (enumerate_from place ps))
starts_from B place [] = tt
starts_from B place (p ∷ ps) =
    joined_starts (starts_of B (place, p)) (flat_map (starts_of B) (enumerate_from (place + 1) ps))
    (starts_if (takes_start p) _ (port_starts p.name (start_value B place p) (indices p.range))) (starts_from B (place + 1) ps)

starts_are : (B : Device) → AreStarts (starts B)
unfolding starts
starts_are B = starts_from B 0 B.ports

machine_itself : (m : Machine) → AreBelow m.boundary m.boundary × AreBelow m.update m.update
machine_itself m = (itself m.boundary, itself m.update)
  where
    itself : (xs : List Sig) → AreBelow xs xs
    itself [] = tt
    itself (x ∷ xs) = (inr refl, itself xs)

start_above : (B : Device) (w : Moment) → IsStart B w → IsAbove first_levels (in_reset B) w
start_above B w start = record {
  levels_are = start.levels;
  machine = subst (λ (n : Machine). IsMachineBelow (in_reset B) n) (sym start.machine) (record {
    state = refl;
    shift = refl;
    latched = refl;
    bypass = refl;
    ident = refl;
    boundary = (machine_itself (in_reset B)).0;
    update = (machine_itself (in_reset B)).1;
    tdo = inr refl;
  });
}

program_goes : KeepOrder → (B : Device) (moment : ℕ → Moment) → Goes B moment (program_of B) first_levels (in_reset B)
unfolding program_of
program_goes laws B moment =
    let m = in_reset B in
    let low : Bench → Levels = λ end. record { tck = false; tms = end.tms; tdi = end.tdi; trst = false } in
    let last : (end : Bench) → Goes B moment (look B m) (low end) m
    = λ end. same_lines B moment (low end) m (look B m) (look B m ++ []) (sym (append-nil (look B m))) (look_met laws B moment (low end) m [] (λ t above run. tt)) in
    let down : (end : Bench) → Goes B moment (set_line B B.trst false ∷ look B m) (between end.tms end.tdi) end.machine
    = λ end. set_met laws B moment (between end.tms end.tdi) end.machine Trst false (look B m) (last end) in
    let end = set_line B B.trst false ∷ look B m in
    let cycles = scan_lines B (all_clocks B) (first_bench B) ++ end in
    let scans = scan_met laws B moment (all_clocks B) (first_bench B) end down in
    let up = set_met laws B moment first_levels m Trst true (look B m ++ cycles) (look_met laws B moment (between true false) m cycles scans) in
    starts_met B moment first_levels m (starts B) (look B m ++ (set_line B B.trst true ∷ (look B m ++ cycles))) (starts_are B)
    (look_met laws B moment first_levels m (set_line B B.trst true ∷ (look B m ++ cycles)) up)

pub programs_are_met : KeepOrder → ProgramsAreMet
programs_are_met laws B moment start run = program_goes laws B moment 0 (start_above B (moment 0) start) run
