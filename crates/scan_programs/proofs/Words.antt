-- The pins of a program are words.
use Rattle.std.proofs.Common.{codes, ◌≡◌, ◌≢◌, ℕ, zero, suc, ◌+◌, ◌%◌, ◌≤◌, ◌<◌, ◌^◌, Bool, true, false, cond, ◌&&◌, List, [], ◌∷◌, ◌++◌, map, Option, Some, None, is_none, Result, Ok, Err, refl, sym, ap, ◌∙◌, subst, arith}
use Rattle.std.specs.Prelude.{All, slice_get, IfSome, IfOk}
use Rattle.std.specs.Fmt.{decimal}
use Rattle.std.specs.List.{flat_map, enumerate_from, AllByRecursion}
use Rattle.std.specs.Option.{option_map_or}
use Rattle.std.proofs.lemmas.Bool.Decides.{nat_tests}
use Rattle.std.proofs.lemmas.Fmt.{decimal_by_steps}
use Rattle.std.proofs.lemmas.List.Elements.{All-nil, All-cons, All-append}
use Rattle.signal_values.specs.declared.PinSig.{PinSig}
use Rattle.signal_values.specs.declared.PinSig.TheVariants as pin
use Rattle.bsdl_lexicon.specs.Bytes.{is_letter, is_name_byte}
use Rattle.bsdl_lexicon.specs.Pieces.{IsIdentifier}
use Rattle.bsdl_device.specs.declared.values.PortMode.{PortMode}
use Rattle.bsdl_device.specs.declared.values.PortMode.TheVariants as mode
use Rattle.bsdl_device.specs.declared.values.PortRange.{PortRange}
use Rattle.bsdl_device.specs.declared.values.DevPort.{DevPort}
use Rattle.bsdl_device.specs.declared.values.Device.{Device}
use Rattle.bsdl_device.specs.Ports.{width, indices, index_at, counted_from, is_mode}
use Rattle.bsdl_device.specs.IsDevice.{IsDevice, IsDevicePort, IsDeviceRange, is_scalar_at}
use Rattle.test_logic.specs.Machine.{Machine}
use Rattle.word_cutter.specs.Rows.{IsWordByte, IsWord}
use Rattle.scan_vectors.specs.declared.lines.Line.{Line}
use Rattle.scan_vectors.specs.declared.lines.Line.TheVariants.{Start, Expect}
use Rattle.scan_vectors.specs.Grammar.{pin_of}
use Rattle.scan_vectors.specs.declared.lines.Lines.{Lines}
use Rattle.scan_vectors.specs.Canonical.{canonical_lines, IsLines}
use Rattle.texts.specs.declared.text.OutOfMemory.{OutOfMemory}
use Rattle.scan_programs.specs.declared.clocks.Clock.{Clock}
use Rattle.scan_programs.specs.declared.pins.Reader.{Reader}
use Rattle.scan_programs.specs.Scans.{all_clocks}
use Rattle.scan_programs.specs.Pins.{bit_word, port_word, start_value, takes_start, starts_of, starts, is_read_port, reader_at, readers_of, readers}
use Rattle.scan_programs.specs.Program.{expected, tdo_lines, reader_value, pin_lines, look, is_update, look_after, set_line, set_if, Bench, machine_after, bench_after, clock_lines, scan_lines, in_reset, first_bench, program_of}
use Rattle.scan_programs.proofs.Bounds.{few_lines}

-- Bytes of words.

word_byte : (b : ℕ) → 48 ≤ b → IsWordByte b
word_byte b h = record { no_blank = grind (arith, nat_tests); no_end = grind (arith, nat_tests) }

name_byte : (b : ℕ) → is_name_byte b ≡ true → IsWordByte b
name_byte b h = word_byte b (let k : 48 ≤ b = grind (arith, nat_tests) in k)

letter_byte : (b : ℕ) → is_letter b ≡ true → IsWordByte b
letter_byte b h = word_byte b (let k : 48 ≤ b = grind (arith, nat_tests) in k)

name_bytes : (bytes : List ℕ) → AllByRecursion (λ c. is_name_byte c ≡ true) bytes → All IsWordByte bytes
name_bytes [] h = All-nil IsWordByte
name_bytes (b ∷ bytes) h = All-cons IsWordByte b bytes (name_byte b h.0) (name_bytes bytes h.1)

name_is_word : (name : List ℕ) → IsIdentifier name → IsWord name
name_is_word [] h = absurd h
name_is_word (b ∷ bytes) h = record { some = λ e. cc; each = All-cons IsWordByte b bytes (letter_byte b h.0) (name_bytes bytes h.1) }

digits_are : (n : ℕ) → n < 2 ^ 64 → All IsWordByte (decimal n)
digits_are = decimal_by_steps (λ n ds. All IsWordByte ds)
    (λ n h. All-cons IsWordByte (48 + n) [] (word_byte (48 + n) (omega arith)) (All-nil IsWordByte))
    (λ n ds h each. All-append IsWordByte ds ((48 + n % 10) ∷ []) each (All-cons IsWordByte (48 + n % 10) [] (word_byte (48 + n % 10) (omega arith)) (All-nil IsWordByte)))

no_empty : (name more : List ℕ) → name ≢ [] → name ++ more ≢ []
no_empty [] more h e = h refl
no_empty (b ∷ name) more h e = cc

-- an index that a decimal can tell
abbrev IsShort : Option ℕ → Type 0
IsShort index = IfSome index (λ (i : ℕ). i < 2 ^ 64)

bit_is_word : (name : List ℕ) (index : Option ℕ) → IsWord name → IsShort index → IsWord (bit_word name index)
bit_is_word name None word short = word
bit_is_word name (Some index) word short = record {
  some = no_empty name (codes "[" ++ (decimal index ++ codes "]")) word.some;
  each = All-append IsWordByte name (codes "[" ++ (decimal index ++ codes "]")) word.each
      (All-cons IsWordByte 91 (decimal index ++ codes "]") (word_byte 91 (omega arith))
      (All-append IsWordByte (decimal index) (codes "]") (digits_are index short) (All-cons IsWordByte 93 [] (word_byte 93 (omega arith)) (All-nil IsWordByte))));
}

-- Indices of ports.

abbrev AreShort : List (Option ℕ) → Type 0
AreShort indices = AllByRecursion IsShort indices

index-le : (r : PortRange) (place : ℕ) → index_at r place ≤ r.left + place
index-le r place = grind (arith, nat_tests)

short_index : (left index place : ℕ) → index ≤ left + place → left < 10 ^ 9 → place ≤ 2 ^ 32 → index < 2 ^ 64
short_index left index place k h l = omega (arith, k, h, l)

short_counted : (r : PortRange) (first n : ℕ) → r.left < 10 ^ 9 → first + n ≤ 2 ^ 32 → AreShort (map (λ place. Some (index_at r place)) (counted_from first n))
short_counted r first zero h l = tt
short_counted r first (suc n) h l = (short_index r.left (index_at r first) first (index-le r first) h (omega (arith, l)), short_counted r (suc first) n h (omega (arith, l)))

short_indices : (range : Option PortRange) → IfSome range IsDeviceRange → AreShort (indices range)
short_indices None h = (tt, tt)
short_indices (Some r) h = let left : r.left < 10 ^ 9 = h.left in let right : r.right < 10 ^ 9 = h.right in short_counted r 0 (width (Some r)) left (omega (arith, left, right))

-- Lines with words.

abbrev HasWord : Line → Type 0
HasWord line = IsWord (pin_of line)

port_of : (ps : List DevPort) (place : ℕ) (p : DevPort) → AllByRecursion IsDevicePort ps → slice_get ps place ≡ Some p → IsDevicePort p
port_of [] place p each e = absurd (cc)
port_of (q ∷ ps) zero p each e = let same : q ≡ p = cc in subst IsDevicePort same each.0
port_of (q ∷ ps) (suc place) p each e = port_of ps place p each.1 e

port_word_is : (B : Device) (place : ℕ) (wanted : PortMode) → IsDevice B → is_scalar_at B.ports wanted place ≡ true → IsWord (port_word B place)
port_word_is B place wanted is scalar = by (slice_get B.ports place) refl
  where
    by : (o : Option DevPort) → slice_get B.ports place ≡ o → IsWord (port_word B place)
    by None e = absurd (let no : false ≡ true = sym (ap (λ (o : Option DevPort). option_map_or (λ (p : DevPort). is_none p.range && is_mode wanted p.mode) o false) e) ∙ scalar in cc)
    by (Some p) e =
        subst IsWord (sym (ap (λ (o : Option DevPort). option_map_or (λ (q : DevPort). q.name) o []) e)) (name_is_word p.name (port_of B.ports place p is.ports.each e).name.identifier)

-- each piece of the ports has words
pieces_have : (f : ℕ × DevPort → List Line) → ((place : ℕ) (p : DevPort) → IsDevicePort p → All HasWord (f (place, p))) → (place : ℕ) (ps : List DevPort) → AllByRecursion IsDevicePort ps
    → All HasWord (flat_map f (enumerate_from place ps))
pieces_have f have place [] each = All-nil HasWord
pieces_have f have place (p ∷ ps) each =
    All-append HasWord (f (place, p)) (flat_map f (enumerate_from (place + 1) ps)) (have place p each.0) (pieces_have f have (place + 1) ps each.1)

lines_if : (b : Bool) (lines : List Line) → All HasWord lines → All HasWord (cond b lines [])
lines_if true lines h = h
lines_if false lines h = All-nil HasWord

port_starts : (name : List ℕ) (value : PinSig) (is : List (Option ℕ)) → IsWord name → AreShort is → All HasWord (map (λ index. Start (bit_word name index) value) is)
port_starts name value [] word short = All-nil HasWord
port_starts name value (i ∷ is) word short =
    All-cons HasWord (Start (bit_word name i) value) (map (λ index. Start (bit_word name index) value) is) (bit_is_word name i word short.0) (port_starts name value is word short.1)

starts_have : (B : Device) → IsDevice B → All HasWord (starts B)
unfolding starts
starts_have B is = pieces_have (starts_of B)
    (λ place p port. lines_if (takes_start p) _ (port_starts p.name (start_value B place p) (indices p.range) (name_is_word p.name port.name.identifier) (short_indices p.range port.range)))
    0 B.ports is.ports.each

-- Readers.

abbrev AreWords : List Reader → Type 0
AreWords rs = AllByRecursion (λ (r : Reader). IsWord r.word) rs

words-append : (xs ys : List Reader) → AreWords xs → AreWords ys → AreWords (xs ++ ys)
words-append [] ys h k = k
words-append (x ∷ xs) ys h k = (h.0, words-append xs ys h.1 k)

port_readers : (B : Device) (place : ℕ) (name : List ℕ) (is : List (Option ℕ)) → IsWord name → AreShort is → AreWords (map (reader_at B.cells place name) is)
port_readers B place name [] word short = tt
port_readers B place name (i ∷ is) word short = (bit_is_word name i word short.0, port_readers B place name is word short.1)

readers_if : (b : Bool) (rs : List Reader) → AreWords rs → AreWords (cond b rs [])
readers_if true rs h = h
readers_if false rs h = tt

readers_from : (B : Device) (place : ℕ) (ps : List DevPort) → AllByRecursion IsDevicePort ps → AreWords (flat_map (readers_of B) (enumerate_from place ps))
readers_from B place [] each = tt
readers_from B place (p ∷ ps) each =
    words-append (readers_of B (place, p)) (flat_map (readers_of B) (enumerate_from (place + 1) ps))
    (readers_if (is_read_port B (place, p)) _ (port_readers B place p.name (indices p.range) (name_is_word p.name each.0.name.identifier) (short_indices p.range each.0.range)))
    (readers_from B (place + 1) ps each.1)

readers_have : (B : Device) → IsDevice B → AreWords (readers B)
unfolding readers
readers_have B is = readers_from B 0 B.ports is.ports.each

-- The parts of a program.

expected_has : (word : List ℕ) (value : PinSig) → IsWord word → All HasWord (expected word value)
expected_has word pin.Unknown h = All-nil HasWord
expected_has word pin.Zero h = All-cons HasWord (Expect word pin.Zero) [] h (All-nil HasWord)
expected_has word pin.One h = All-cons HasWord (Expect word pin.One) [] h (All-nil HasWord)
expected_has word pin.HighZ h = All-cons HasWord (Expect word pin.HighZ) [] h (All-nil HasWord)

pins_have : (B : Device) (m : Machine) (rs : List Reader) → AreWords rs → All HasWord (flat_map (λ (r : Reader). expected r.word (reader_value B m r)) rs)
pins_have B m [] h = All-nil HasWord
pins_have B m (r ∷ rs) h = All-append HasWord (expected r.word (reader_value B m r)) _ (expected_has r.word (reader_value B m r) h.0) (pins_have B m rs h.1)

-- the words of the test access port
record HasTap (B : Device) : Type 0 where
  tck : IsWord (port_word B B.tck)
  tms : IsWord (port_word B B.tms)
  tdi : IsWord (port_word B B.tdi)
  tdo : IsWord (port_word B B.tdo)
  trst : IsWord (port_word B B.trst)
  pins : AreWords (readers B)

look_has : (B : Device) (m : Machine) → HasTap B → All HasWord (look B m)
look_has B m tap = All-append HasWord (tdo_lines B m) (pin_lines B m) (expected_has (port_word B B.tdo) m.tdo tap.tdo) (pins_have B m (readers B) tap.pins)

look_after_has : (B : Device) (m : Machine) → HasTap B → All HasWord (look_after B m)
look_after_has B m tap =
    All-append HasWord (tdo_lines B m) _ (expected_has (port_word B B.tdo) m.tdo tap.tdo) (lines_if (is_update m.state) (pin_lines B m) (pins_have B m (readers B) tap.pins))

set_if_has : (B : Device) (place : ℕ) (before level : Bool) → IsWord (port_word B place) → All HasWord (set_if B place before level)
set_if_has B place true true h = All-nil HasWord
set_if_has B place false false h = All-nil HasWord
set_if_has B place true false h = All-cons HasWord (set_line B place false) [] h (All-nil HasWord)
set_if_has B place false true h = All-cons HasWord (set_line B place true) [] h (All-nil HasWord)

clock_has : (B : Device) (c : Clock) (w : Bench) → HasTap B → All HasWord (clock_lines B c w)
clock_has B c w tap =
    let after = look_after B (machine_after B c w.machine) in
    All-append HasWord (set_if B B.tms w.tms c.tms) _ (set_if_has B B.tms w.tms c.tms tap.tms)
    (All-append HasWord (set_if B B.tdi w.tdi c.tdi) _ (set_if_has B B.tdi w.tdi c.tdi tap.tdi)
    (All-cons HasWord (set_line B B.tck true) (set_line B B.tck false ∷ after) tap.tck
    (All-cons HasWord (set_line B B.tck false) after tap.tck (look_after_has B (machine_after B c w.machine) tap))))

scan_has : (B : Device) (clocks : List Clock) (w : Bench) → HasTap B → All HasWord (scan_lines B clocks w)
unfolding scan_lines
scan_has B [] w tap = All-nil HasWord
scan_has B (c ∷ clocks) w tap = All-append HasWord (clock_lines B c w) (scan_lines B clocks (bench_after B c w)) (clock_has B c w tap) (scan_has B clocks (bench_after B c w) tap)

tap_has : (B : Device) → IsDevice B → HasTap B
tap_has B is = record {
  tck = port_word_is B B.tck mode.Input is is.tap.tck;
  tms = port_word_is B B.tms mode.Input is is.tap.tms;
  tdi = port_word_is B B.tdi mode.Input is is.tap.tdi;
  tdo = port_word_is B B.tdo mode.Output is is.tap.tdo;
  trst = port_word_is B B.trst mode.Input is is.tap.trst;
  pins = readers_have B is;
}

program_has : (B : Device) → IsDevice B → All HasWord (program_of B)
unfolding program_of
program_has B is =
    let m = in_reset B in
    let tap = tap_has B is in
    let end = set_line B B.trst false ∷ look B m in
    let scans = scan_lines B (all_clocks B) (first_bench B) in
    let up = set_line B B.trst true ∷ (look B m ++ (scans ++ end)) in
    All-append HasWord (starts B) (look B m ++ up) (starts_have B is)
    (All-append HasWord (look B m) up (look_has B m tap)
    (All-cons HasWord (set_line B B.trst true) (look B m ++ (scans ++ end)) tap.trst
    (All-append HasWord (look B m) (scans ++ end) (look_has B m tap)
    (All-append HasWord scans end (scan_has B (all_clocks B) (first_bench B) tap)
    (All-cons HasWord (set_line B B.trst false) (look B m) tap.trst (look_has B m tap))))))

pub program_is_lines : (B : Device) → IsDevice B → IsLines (program_of B)
program_is_lines B is = record { pins = program_has B is; few = few_lines B is }

-- so are the lines that were numbered
pub printable : (B : Device) (list : List Line) (r : Result Lines OutOfMemory) → IsDevice B → list ≡ program_of B → IfOk r (λ lines. lines ≡ canonical_lines list) → IfOk r (λ lines. IsLines lines.list)
printable B list (Ok lines) is e same = subst IsLines (sym (ap (λ (l : Lines). l.list) same ∙ e)) (program_is_lines B is)
printable B list (Err x) is e same = tt
