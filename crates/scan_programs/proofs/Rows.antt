-- How many ports, cells and opcodes a device has at most.
use Rattle.std.proofs.Common.{◌≡◌, ◌≢◌, ◌⊎◌, inl, inr, ℕ, zero, suc, ◌+◌, ◌-◌, ◌≤◌, ◌<◌, Bool, true, false, cond, not, ◌&&◌, ◌||◌, List, [], ◌∷◌, ◌++◌, map, length, length-append, count_by, Option, Some, None, is_some, is_none, refl, sym, ap, ◌∙◌, arith}
use Rattle.std.specs.Prelude.{◌==◌, slice_get, sum_by, IfSome}
use Rattle.std.specs.List.{list_any, flat_map, enumerate_from, AllByRecursion}
use Rattle.std.specs.Option.{option_map_or}
use Rattle.std.proofs.lemmas.List.{length-map}
use Rattle.std.proofs.lemmas.List.Sums.{sum_by-cons}
use Rattle.std.proofs.lemmas.List.Folds.{list_any-append}
use Rattle.std.proofs.lemmas.Bool.{cases_lt}
use Rattle.std.proofs.lemmas.Bool.Decides.{eqb_tells, nat_tests}
use Rattle.list_laws.proofs.Tests.{and_left, and_right, not_true, both_false}
use Rattle.list_laws.proofs.Numbers.{eqb_same, eqb_less}
use Rattle.list_laws.proofs.Lists.{length-counted_from, any_map}
use Rattle.cell_library.specs.declared.codes.Function.{Function}
use Rattle.cell_library.specs.declared.codes.Function.TheVariants as function
use Rattle.cell_library.specs.declared.codes.Instr.{Instr}
use Rattle.cell_library.specs.declared.codes.Instr.TheVariants as instr
use Rattle.cell_library.specs.declared.codes.Opcode.{Opcode}
use Rattle.bsdl_lexicon.specs.Names.{is_same_name}
use Rattle.bsdl_device.specs.declared.values.PortMode.{PortMode}
use Rattle.bsdl_device.specs.declared.values.PortMode.TheVariants as mode
use Rattle.bsdl_device.specs.declared.values.PortRange.{PortRange}
use Rattle.bsdl_device.specs.declared.values.DevPort.{DevPort}
use Rattle.bsdl_device.specs.declared.values.DevBit.{DevBit}
use Rattle.bsdl_device.specs.declared.values.Disable.{Disable}
use Rattle.bsdl_device.specs.declared.values.CellRow.{CellRow}
use Rattle.bsdl_device.specs.declared.values.Device.{Device}
use Rattle.bsdl_device.specs.declared.entries.OpcodeEntry.{OpcodeEntry}
use Rattle.bsdl_device.specs.declared.entries.Register.TheVariants as register
use Rattle.bsdl_device.specs.Ports.{width, has_bit, is_within, indices, index_at, counted_from, same_index, is_mode}
use Rattle.bsdl_device.specs.Checks.{any_pair}
use Rattle.bsdl_device.specs.RowRules.{is_function}
use Rattle.bsdl_device.specs.Instructions.{instruction_word, all_instructions, selected_register, is_register, is_instruction}
use Rattle.bsdl_device.specs.IsDevice.{IsDevice, IsDeviceRow, is_tap_place, is_bit_of, stands_right, wanted_mode, is_disabled, is_control_at, names_control, own_bits_at, own_bits, is_at, opcode_entry}
use Rattle.scan_programs.specs.Fits.{IsInRange, AreInRange}
use Rattle.scan_programs.proofs.Pairs.{one_if, count, count_is, count_all, count_le, AreMatched, MatchOnce, no_more}

-- Ports and their bits.

pub length-indices : (range : Option PortRange) → length (indices range) ≡ width range
length-indices None = refl
length-indices (Some r) = length-map (counted_from 0 (width (Some r))) (λ place. Some (index_at r place)) ∙ length-counted_from 0 (width (Some r))

abbrev pub bits_in : List DevPort → ℕ
bits_in ports = sum_by (λ (p : DevPort). width p.range) ports

-- as many pieces as ports have bits, at most
pub few_pieces : {X : Type 0} (f : ℕ × DevPort → List X) → ((place : ℕ) (p : DevPort) → length (f (place, p)) ≤ width p.range) → (place : ℕ) (ports : List DevPort)
    → length (flat_map f (enumerate_from place ports)) ≤ bits_in ports
few_pieces f few place [] = omega arith
few_pieces f few place (p ∷ ps) =
    let e = length-append (f (place, p)) (flat_map f (enumerate_from (place + 1) ps)) in
    let s = sum_by-cons (λ (q : DevPort). width q.range) p ps in
    let one = few place p in
    let more = few_pieces f few (place + 1) ps in
    omega (arith, e, s, one, more)

some_bits : (range : Option PortRange) → 1 ≤ width range
some_bits None = omega arith
some_bits (Some r) = omega arith

ports-le-bits : (ports : List DevPort) → length ports ≤ bits_in ports
ports-le-bits [] = omega arith
ports-le-bits (p ∷ ps) =
    let s = sum_by-cons (λ (q : DevPort). width q.range) p ps in let one = some_bits p.range in let more = ports-le-bits ps in omega (arith, s, one, more)

pub few_ports : (d : Device) → IsDevice d → length d.ports ≤ 4096
few_ports d is = let few : bits_in d.ports ≤ 4096 = is.ports.few in let less = ports-le-bits d.ports in omega (arith, few, less)

-- Bits of ports among the device's own.

any_here : {A : Type 0} (test : A → Bool) (x : A) (xs : List A) → test x ≡ true → list_any test (x ∷ xs) ≡ true
any_here test x xs e = ap (λ (b : Bool). b || list_any test xs) e

any_later : {A : Type 0} (test : A → Bool) (x : A) (xs : List A) → list_any test xs ≡ true → list_any test (x ∷ xs) ≡ true
any_later test x xs e = by (test x) refl
  where
    by : (b : Bool) → test x ≡ b → (test x || list_any test xs) ≡ true
    by true h = ap (λ (b : Bool). b || list_any test xs) h
    by false h = ap (λ (b : Bool). b || list_any test xs) h ∙ e

any_left : {A : Type 0} (test : A → Bool) (xs ys : List A) → list_any test xs ≡ true → list_any test (xs ++ ys) ≡ true
any_left test xs ys e = list_any-append test xs ys ∙ ap (λ (b : Bool). b || list_any test ys) e

any_right : {A : Type 0} (test : A → Bool) (xs ys : List A) → list_any test ys ≡ true → list_any test (xs ++ ys) ≡ true
any_right test [] ys e = e
any_right test (x ∷ xs) ys e = any_later test x (xs ++ ys) (any_right test xs ys e)

beyond : (a b : ℕ) → a ≤ b → a ≢ b → suc a ≤ b
beyond a b h not = by (cases_lt a b)
  where
    by : (a < b) ⊎ (b ≤ a) → suc a ≤ b
    by (inl lt) = omega (arith, lt)
    by (inr le) = absurd (not (omega (arith, h, le)))

counted_by : (test : ℕ → Bool) (first n k : ℕ) → ((first == k ≡ true) × (first ≡ k)) ⊎ ((first == k ≡ false) × (first ≢ k)) → test k ≡ true
    → (first ≢ k → list_any test (counted_from (suc first) n) ≡ true) → list_any test (counted_from first (suc n)) ≡ true
counted_by test first n k (inl same) e later = any_here test first (counted_from (suc first) n) (ap test same.1 ∙ e)
counted_by test first n k (inr other) e later = any_later test first (counted_from (suc first) n) (later other.1)

any_counted : (test : ℕ → Bool) (first n k : ℕ) → first ≤ k → k < first + n → test k ≡ true → list_any test (counted_from first n) ≡ true
any_counted test first zero k h l e = absurd (let no : ⊥ = omega (arith, h, l) in no)
any_counted test first (suc n) k h l e =
    counted_by test first n k (eqb_tells first k) e (λ other. any_counted test (suc first) n k (beyond first k h other) (omega (arith, l)) e)

same_index_itself : (i : Option ℕ) → same_index i i ≡ true
same_index_itself None = refl
same_index_itself (Some i) = eqb_same i

-- the place of an index in a range
abbrev place_in : PortRange → ℕ → ℕ
place_in r index = (r.left - index) + (index - r.left)

within_place : (r : PortRange) (index : ℕ) → is_within r index ≡ true → (place_in r index < width (Some r)) × (index_at r (place_in r index) ≡ index)
within_place r index h = grind (arith, nat_tests)

index_is_there : (range : Option PortRange) (index : Option ℕ) → has_bit range index ≡ true → list_any (λ i. same_index i index) (indices range) ≡ true
index_is_there None None h = refl
index_is_there None (Some index) h = absurd (cc)
index_is_there (Some r) None h = absurd (cc)
index_is_there (Some r) (Some index) h =
    let place = within_place r index h in
    any_map (λ i. same_index i (Some index)) (λ k. Some (index_at r k)) (counted_from 0 (width (Some r)))
    ∙ any_counted (λ k. index_at r k == index) 0 (width (Some r)) (place_in r index) (omega arith) (let l = place.0 in omega (arith, l)) (ap (λ (k : ℕ). k == index) place.1 ∙ eqb_same index)

-- the device's own bits, among which one is that of this place and index
record IsOwn (d : Device) (b : DevBit) (p : DevPort) : Type 0 where
  there : slice_get d.ports b.port ≡ Some p
  bit : has_bit p.range b.index ≡ true
  free : is_tap_place d b.port ≡ false
  driven : is_mode mode.Linkage p.mode ≡ false

abbrev is_bit : DevBit → DevBit → Bool
is_bit b bit = bit.port == b.port && same_index bit.index b.index

port_has : (d : Device) (b : DevBit) (place : ℕ) (p : DevPort) → place ≡ b.port → has_bit p.range b.index ≡ true → is_tap_place d place ≡ false → is_mode mode.Linkage p.mode ≡ false
    → list_any (is_bit b) (own_bits_at d place p) ≡ true
port_has d b place p here bit free driven =
    let at : Option ℕ → DevBit = λ index. record { port = place; index = index } in
    ap (λ (t : Bool). list_any (is_bit b) (cond (t || is_mode mode.Linkage p.mode) [] (map at (indices p.range)))) free
    ∙ ap (λ (t : Bool). list_any (is_bit b) (cond t [] (map at (indices p.range)))) driven
    ∙ any_map (is_bit b) at (indices p.range)
    ∙ ap (λ (t : Bool). list_any (λ i. t && same_index i b.index) (indices p.range)) (ap (λ (n : ℕ). n == b.port) here ∙ eqb_same b.port)
    ∙ index_is_there p.range b.index bit

ports_have : (d : Device) (b : DevBit) (p : DevPort) → IsOwn d b p → (place : ℕ) (ps : List DevPort) (k : ℕ) → place + k ≡ b.port → slice_get ps k ≡ Some p
    → list_any (is_bit b) (flat_map (λ (port : ℕ × DevPort). own_bits_at d port.0 port.1) (enumerate_from place ps)) ≡ true
ports_have d b p own place [] k e h = absurd (cc)
ports_have d b p own place (q ∷ ps) zero e h =
    let here : place ≡ b.port = omega (arith, e) in
    let same : q ≡ p = cc in
    any_left (is_bit b) (own_bits_at d place q) _
    (port_has d b place q here (rw same own.bit) (ap (is_tap_place d) here ∙ own.free) (rw same own.driven))
ports_have d b p own place (q ∷ ps) (suc k) e h =
    any_right (is_bit b) (own_bits_at d place q) _ (ports_have d b p own (place + 1) ps k (omega (arith, e)) h)

own_is_there : (d : Device) (b : DevBit) (p : DevPort) → IsOwn d b p → list_any (is_bit b) (own_bits d) ≡ true
own_is_there d b p own = ports_have d b p own 0 d.ports b.port (omega arith) own.there

-- Cells with a pin.

abbrev has_pin : CellRow → Bool
has_pin row = is_some row.pin

no_linkage : (f : Function) → wanted_mode f ≡ Some mode.Linkage → ⊥
no_linkage function.Input e = cc
no_linkage function.Clock e = cc
no_linkage function.Output2 e = cc
no_linkage function.Output3 e = cc
no_linkage function.Control e = cc
no_linkage function.Bidir e = cc

not_linkage : (f : Function) (wanted m : PortMode) → wanted_mode f ≡ Some wanted → is_mode wanted m ≡ true → is_mode mode.Linkage m ≡ false
not_linkage f mode.Linkage mode.Linkage e h = absurd (no_linkage f e)
not_linkage f mode.Input mode.Linkage e h = absurd (cc)
not_linkage f mode.Output mode.Linkage e h = absurd (cc)
not_linkage f mode.Inout mode.Linkage e h = absurd (cc)
not_linkage f wanted mode.Input e h = refl
not_linkage f wanted mode.Output e h = refl
not_linkage f wanted mode.Inout e h = refl

owned_by : (d : Device) (f : Function) (wanted : PortMode) (b : DevBit) (o : Option DevPort) → wanted_mode f ≡ Some wanted → slice_get d.ports b.port ≡ o
    → option_map_or (λ (p : DevPort). has_bit p.range b.index && not (is_tap_place d b.port) && is_mode wanted p.mode) o false ≡ true → (p : DevPort) × IsOwn d b p
owned_by d f wanted b None e there h = absurd (cc)
owned_by d f wanted b (Some p) e there h =
    let last = and_right (has_bit p.range b.index && not (is_tap_place d b.port)) (is_mode wanted p.mode) h in
    let front = and_left (has_bit p.range b.index && not (is_tap_place d b.port)) (is_mode wanted p.mode) h in (
      p,
      record {
        there = there;
        bit = and_left (has_bit p.range b.index) (not (is_tap_place d b.port)) front;
        free = not_true (is_tap_place d b.port) (and_right (has_bit p.range b.index) (not (is_tap_place d b.port)) front);
        driven = not_linkage f wanted p.mode e last;
      },
    )

pin_stands : (d : Device) (f : Function) (o : Option PortMode) (b : DevBit) → wanted_mode f ≡ o
    → option_map_or (λ wanted. is_bit_of d wanted b) o false ≡ true → (p : DevPort) × IsOwn d b p
pin_stands d f None b e h = absurd (cc)
pin_stands d f (Some wanted) b e h = owned_by d f wanted b (slice_get d.ports b.port) e refl h

row_matched : (d : Device) (row : CellRow) → stands_right d row ≡ true → (o : Option DevBit) → row.pin ≡ o → is_some o ≡ true → list_any (λ bit. is_at bit row) (own_bits d) ≡ true
row_matched d row right None e some = absurd (cc)
row_matched d row right (Some b) e some =
    let stands : option_map_or (λ wanted. is_bit_of d wanted b) (wanted_mode row.function) false ≡ true
    = ap (λ (o : Option DevBit). option_map_or (λ wanted. option_map_or (is_bit_of d wanted) o false) (wanted_mode row.function) (is_none o)) (sym e) ∙ right in
    let own = pin_stands d row.function (wanted_mode row.function) b refl stands in
    ap (λ (o : Option DevBit). list_any (λ (bit : DevBit). option_map_or (λ (c : DevBit). bit.port == c.port && same_index bit.index c.index) o false) (own_bits d)) e
    ∙ own_is_there d b own.0 own.1

abbrev AreRows : Device → ℕ → List CellRow → Type 0
AreRows d n rows = AllByRecursion (λ (row : ℕ × CellRow). IsDeviceRow d row.0 row.1) (enumerate_from n rows)

rows_matched : (d : Device) (n : ℕ) (rows : List CellRow) → AreRows d n rows → AreMatched has_pin (λ row bit. is_at bit row) (own_bits d) rows
rows_matched d n [] are = tt
rows_matched d n (row ∷ rows) are = (record { some = λ has. row_matched d row are.0.pin row.pin refl has }, rows_matched d (n + 1) rows are.1)

bits_once : (rows : List CellRow) (bits : List DevBit) → AllByRecursion (λ (bit : DevBit). count_by (is_at bit) rows ≡ 1) bits → MatchOnce (λ bit. true) (λ row bit. is_at bit row) rows bits
bits_once rows [] h = tt
bits_once rows (bit ∷ bits) h =
    let e : count_by (is_at bit) rows ≡ 1 = h.0 in let c = count_is (is_at bit) rows in (omega (arith, e, c), bits_once rows bits h.1)

few_at : (d : Device) (place : ℕ) (p : DevPort) → length (own_bits_at d place p) ≤ width p.range
few_at d place p = by (is_tap_place d place || is_mode mode.Linkage p.mode)
  where
    by : (b : Bool) → length (cond b [] (map (λ (index : Option ℕ). let bit : DevBit = record { port = place; index = index } in bit) (indices p.range))) ≤ width p.range
    by true = omega arith
    by false =
        let e = length-map (indices p.range) (λ (index : Option ℕ). let bit : DevBit = record { port = place; index = index } in bit) in
        let w = length-indices p.range in omega (arith, e, w)

few_pins : (d : Device) → IsDevice d → count has_pin d.cells ≤ 4096
few_pins d is =
    let least = no_more has_pin (λ bit. true) (λ row bit. is_at bit row) d.cells (own_bits d) (rows_matched d 0 d.cells is.rows.each) (bits_once d.cells (own_bits d) is.rows.bits) in
    let bits = count_le (λ (bit : DevBit). true) (own_bits d) in
    let few = few_pieces (λ (port : ℕ × DevPort). own_bits_at d port.0 port.1) (few_at d) 0 d.ports in
    let limit : bits_in d.ports ≤ 4096 = is.ports.few in
    omega (arith, least, bits, few, limit)

-- Control cells.

abbrev lacks_pin : ℕ × CellRow → Bool
lacks_pin row = not (is_some row.1.pin)

abbrev names : ℕ × CellRow → CellRow → Bool
names row other = names_control row.0 other

is_control_row : (d : Device) (f : Function) (o : Option DevBit) → option_map_or (λ wanted. option_map_or (is_bit_of d wanted) o false) (wanted_mode f) (is_none o) ≡ true → not (is_some o) ≡ true → f ≡ function.Control
is_control_row d function.Input None h k = absurd (cc)
is_control_row d function.Clock None h k = absurd (cc)
is_control_row d function.Output2 None h k = absurd (cc)
is_control_row d function.Output3 None h k = absurd (cc)
is_control_row d function.Bidir None h k = absurd (cc)
is_control_row d function.Control None h k = refl
is_control_row d f (Some b) h k = absurd (cc)

control_matched : (d : Device) (n : ℕ) (row : CellRow) → IsDeviceRow d n row → not (is_some row.pin) ≡ true → list_any (names_control n) d.cells ≡ true
control_matched d n row is none =
    ap (λ (f : Function). not (is_function function.Control f) || list_any (names_control n) d.cells) (sym (is_control_row d row.function row.pin is.pin none)) ∙ is.used

controls_matched : (d : Device) (n : ℕ) (rows : List CellRow) → AreRows d n rows → AreMatched lacks_pin names d.cells (enumerate_from n rows)
controls_matched d n [] are = tt
controls_matched d n (row ∷ rows) are = (record { some = λ none. control_matched d n row are.0 none }, controls_matched d (n + 1) rows are.1)

-- a number stands once among numbered rows
past : (control n : ℕ) (rows : List CellRow) → control < n → count (λ (row : ℕ × CellRow). control == row.0) (enumerate_from n rows) ≡ 0
past control n [] h = refl
past control n (row ∷ rows) h = let more = past control (n + 1) rows (omega (arith, h)) in rw (eqb_less control n h, more) refl

once_by : (control n : ℕ) (rows : List CellRow) → ((control == n ≡ true) × (control ≡ n)) ⊎ ((control == n ≡ false) × (control ≢ n))
    → count (λ (row : ℕ × CellRow). control == row.0) (enumerate_from (n + 1) rows) ≤ 1
    → one_if (control == n) + count (λ (row : ℕ × CellRow). control == row.0) (enumerate_from (n + 1) rows) ≤ 1
once_by control n rows (inl e) more = let same = e.1 in let none = past control (n + 1) rows (omega (arith, same)) in rw (e.0, none) (omega arith)
once_by control n rows (inr e) more = rw e.0 (omega (arith, more))

stands_once : (control n : ℕ) (rows : List CellRow) → count (λ (row : ℕ × CellRow). control == row.0) (enumerate_from n rows) ≤ 1
stands_once control n [] = omega arith
stands_once control n (row ∷ rows) = once_by control n rows (eqb_tells control n) (stands_once control (n + 1) rows)

disabled_has_pin : (d : Device) (f : Function) (o : Option DevBit) → option_map_or (λ wanted. option_map_or (is_bit_of d wanted) o false) (wanted_mode f) (is_none o) ≡ true → is_disabled f ≡ true → is_some o ≡ true
disabled_has_pin d f (Some b) h k = refl
disabled_has_pin d function.Output3 None h k = absurd (cc)
disabled_has_pin d function.Bidir None h k = absurd (cc)
disabled_has_pin d function.Input None h k = absurd (cc)
disabled_has_pin d function.Clock None h k = absurd (cc)
disabled_has_pin d function.Output2 None h k = absurd (cc)
disabled_has_pin d function.Control None h k = absurd (cc)

names_none : (rows : List (ℕ × CellRow)) → count (λ (row : ℕ × CellRow). false) rows ≡ 0
names_none [] = refl
names_none (row ∷ rows) = let e = names_none rows in omega (arith, e)

named_once : (d : Device) (n : ℕ) (row : CellRow) (rows : List CellRow) → IsDeviceRow d n row → (o : Option Disable) → row.disable ≡ o
    → count (λ (r : ℕ × CellRow). option_map_or (λ (x : Disable). x.control == r.0) o false) (enumerate_from 0 rows) ≤ one_if (has_pin row)
named_once d n row rows is None e = let none = names_none (enumerate_from 0 rows) in omega (arith, none)
named_once d n row rows is (Some x) e =
    let right : is_disabled row.function && is_control_at d.cells x.control ≡ true
    = ap (λ (o : Option Disable). option_map_or (λ (y : Disable). is_disabled row.function && is_control_at d.cells y.control) o (not (is_disabled row.function))) (sym e) ∙ is.disable in
    let pinned = disabled_has_pin d row.function row.pin is.pin (and_left (is_disabled row.function) (is_control_at d.cells x.control) right) in
    let once = stands_once x.control 0 rows in
    rw pinned once

controls_once : (d : Device) (n : ℕ) (rows : List CellRow) → AreRows d n rows → MatchOnce has_pin names (enumerate_from 0 d.cells) rows
controls_once d n [] are = tt
controls_once d n (row ∷ rows) are = (named_once d n row d.cells are.0 row.disable refl, controls_once d (n + 1) rows are.1)

count_numbered : (n : ℕ) (rows : List CellRow) → count lacks_pin (enumerate_from n rows) ≡ count (λ row. not (has_pin row)) rows
count_numbered n [] = refl
count_numbered n (row ∷ rows) = ap (λ (k : ℕ). one_if (not (is_some row.pin)) + k) (count_numbered (n + 1) rows)

pub few_cells : (d : Device) → IsDevice d → length d.cells ≤ 8192
few_cells d is =
    let pins = few_pins d is in
    let controls = no_more lacks_pin has_pin names (enumerate_from 0 d.cells) d.cells (controls_matched d 0 d.cells is.rows.each) (controls_once d 0 d.cells is.rows.each) in
    let same = count_numbered 0 d.cells in
    let all = count_all has_pin d.cells in
    omega (arith, pins, controls, same, all)

-- The control cells that rows name.

at_control : (rows : List CellRow) (k : ℕ) → option_map_or (λ (r : CellRow). is_function function.Control r.function) (slice_get rows k) false ≡ true → k < length rows
at_control [] k h = absurd (cc)
at_control (r ∷ rows) zero h = omega arith
at_control (r ∷ rows) (suc k) h = let less = at_control rows k h in omega (arith, less)

in_range : (d : Device) (n : ℕ) (row : CellRow) → IsDeviceRow d n row → (o : Option Disable) → row.disable ≡ o → IfSome o (λ (x : Disable). x.control < length d.cells)
in_range d n row is None e = tt
in_range d n row is (Some x) e =
    let right : is_disabled row.function && is_control_at d.cells x.control ≡ true
    = ap (λ (o : Option Disable). option_map_or (λ (y : Disable). is_disabled row.function && is_control_at d.cells y.control) o (not (is_disabled row.function))) (sym e) ∙ is.disable in
    at_control d.cells x.control (and_right (is_disabled row.function) (is_control_at d.cells x.control) right)

rows_in_range : (d : Device) (n : ℕ) (rows : List CellRow) → AreRows d n rows → AllByRecursion (IsInRange (length d.cells)) rows
rows_in_range d n [] are = tt
rows_in_range d n (row ∷ rows) are = (in_range d n row are.0 row.disable refl, rows_in_range d (n + 1) rows are.1)

pub are_in_range : (d : Device) → IsDevice d → AreInRange d.cells
are_in_range d is = rows_in_range d 0 d.cells is.rows.each

-- Opcodes.

abbrev has_instruction : Opcode → Instr → Bool
has_instruction o i = is_instruction i o.instr

one_of_all : (o : Opcode) (i : Instr) → o.instr ≡ i → list_any (λ j. is_instruction j i) all_instructions ≡ true
one_of_all o instr.Bypass e = refl
one_of_all o instr.Extest e = refl
one_of_all o instr.Sample e = refl
one_of_all o instr.Preload e = refl
one_of_all o instr.Idcode e = refl
one_of_all o instr.Highz e = refl
one_of_all o instr.Clamp e = refl
one_of_all o instr.Usercode e = refl

opcodes_matched : (opcodes : List Opcode) → AreMatched (λ o. true) has_instruction all_instructions opcodes
opcodes_matched [] = tt
opcodes_matched (o ∷ opcodes) = (record { some = λ e. one_of_all o o.instr refl }, opcodes_matched opcodes)

same_instruction : (i j : Instr) → is_instruction i j ≡ true → j ≡ i
same_instruction instr.Bypass instr.Bypass h = refl
same_instruction instr.Bypass j h = absurd (cc)
same_instruction instr.Extest instr.Extest h = refl
same_instruction instr.Extest j h = absurd (cc)
same_instruction instr.Sample instr.Sample h = refl
same_instruction instr.Sample j h = absurd (cc)
same_instruction instr.Preload instr.Preload h = refl
same_instruction instr.Preload j h = absurd (cc)
same_instruction instr.Idcode instr.Idcode h = refl
same_instruction instr.Idcode j h = absurd (cc)
same_instruction instr.Highz instr.Highz h = refl
same_instruction instr.Highz j h = absurd (cc)
same_instruction instr.Clamp instr.Clamp h = refl
same_instruction instr.Clamp j h = absurd (cc)
same_instruction instr.Usercode instr.Usercode h = refl
same_instruction instr.Usercode j h = absurd (cc)

name_itself : (i : Instr) → is_same_name (instruction_word i) (instruction_word i) ≡ true
name_itself instr.Bypass = refl
name_itself instr.Extest = refl
name_itself instr.Sample = refl
name_itself instr.Preload = refl
name_itself instr.Idcode = refl
name_itself instr.Highz = refl
name_itself instr.Clamp = refl
name_itself instr.Usercode = refl

abbrev names_in : List Opcode → List (List ℕ)
names_in opcodes = map (λ (o : OpcodeEntry). o.name) (map opcode_entry opcodes)

none_named : (i : Instr) (opcodes : List Opcode) → list_any (is_same_name (instruction_word i)) (names_in opcodes) ≡ false → count (λ o. has_instruction o i) opcodes ≡ 0
none_named i [] h = refl
none_named i (o ∷ opcodes) h =
    let parts = both_false (is_same_name (instruction_word i) (instruction_word o.instr)) (list_any (is_same_name (instruction_word i)) (names_in opcodes)) h in
    by (is_instruction i o.instr) refl parts.0 (none_named i opcodes parts.1)
  where
    by : (b : Bool) → is_instruction i o.instr ≡ b → is_same_name (instruction_word i) (instruction_word o.instr) ≡ false → count (λ q. has_instruction q i) opcodes ≡ 0
        → one_if (is_instruction i o.instr) + count (λ q. has_instruction q i) opcodes ≡ 0
    by true e other rest =
        let named : is_same_name (instruction_word i) (instruction_word o.instr) ≡ true = ap (λ (j : Instr). is_same_name (instruction_word i) (instruction_word j)) (same_instruction i o.instr e) ∙ name_itself i in
        absurd (let clash : true ≡ false = sym named ∙ other in cc)
    by false e other rest = rw (e, rest) refl

opcode_once : (i : Instr) (opcodes : List Opcode) → any_pair is_same_name (names_in opcodes) ≡ false → count (λ o. has_instruction o i) opcodes ≤ 1
opcode_once i [] h = omega arith
opcode_once i (o ∷ opcodes) h =
    let parts = both_false (list_any (is_same_name (instruction_word o.instr)) (names_in opcodes)) (any_pair is_same_name (names_in opcodes)) h in
    by (is_instruction i o.instr) refl parts.0 (opcode_once i opcodes parts.1)
  where
    by : (b : Bool) → is_instruction i o.instr ≡ b → list_any (is_same_name (instruction_word o.instr)) (names_in opcodes) ≡ false → count (λ q. has_instruction q i) opcodes ≤ 1
        → one_if (is_instruction i o.instr) + count (λ q. has_instruction q i) opcodes ≤ 1
    by true e apart rest =
        let none = none_named i opcodes (ap (λ (j : Instr). list_any (is_same_name (instruction_word j)) (names_in opcodes)) (sym (same_instruction i o.instr e)) ∙ apart) in rw (e, none) (omega arith)
    by false e apart rest = rw e (omega (arith, rest))

each_once : (opcodes : List Opcode) → any_pair is_same_name (names_in opcodes) ≡ false → (list : List Instr) → MatchOnce (λ i. true) has_instruction opcodes list
each_once opcodes apart [] = tt
each_once opcodes apart (i ∷ list) = (opcode_once i opcodes apart, each_once opcodes apart list)

count_true : {A : Type 0} (xs : List A) → count (λ x. true) xs ≡ length xs
count_true [] = refl
count_true (x ∷ xs) = let e = count_true xs in omega (arith, e)

pub few_opcodes : (d : Device) → IsDevice d → length d.opcodes ≤ 8
few_opcodes d is =
    let least = no_more (λ (o : Opcode). true) (λ (i : Instr). true) has_instruction d.opcodes all_instructions (opcodes_matched d.opcodes) (each_once d.opcodes is.instructions.once all_instructions) in
    let e = count_true d.opcodes in
    let eight : count (λ (i : Instr). true) all_instructions ≡ 8 = refl in
    omega (arith, least, e, eight)

-- Opcodes of the boundary register.

abbrev pub scans_boundary : Opcode → Bool
scans_boundary o = is_register register.Boundary (selected_register o.instr)

abbrev boundary_instructions : List Instr
boundary_instructions = instr.Extest ∷ instr.Sample ∷ instr.Preload ∷ []

one_of_boundary : (i : Instr) → is_register register.Boundary (selected_register i) ≡ true → list_any (λ j. is_instruction j i) boundary_instructions ≡ true
one_of_boundary instr.Bypass h = absurd (cc)
one_of_boundary instr.Extest h = refl
one_of_boundary instr.Sample h = refl
one_of_boundary instr.Preload h = refl
one_of_boundary instr.Idcode h = absurd (cc)
one_of_boundary instr.Highz h = absurd (cc)
one_of_boundary instr.Clamp h = absurd (cc)
one_of_boundary instr.Usercode h = absurd (cc)

boundary_matched : (opcodes : List Opcode) → AreMatched scans_boundary has_instruction boundary_instructions opcodes
boundary_matched [] = tt
boundary_matched (o ∷ opcodes) = (record { some = λ e. one_of_boundary o.instr e }, boundary_matched opcodes)

pub few_boundary : (d : Device) → IsDevice d → count scans_boundary d.opcodes ≤ 3
few_boundary d is =
    let least = no_more scans_boundary (λ (i : Instr). true) has_instruction d.opcodes boundary_instructions (boundary_matched d.opcodes) (each_once d.opcodes is.instructions.once boundary_instructions) in
    let three : count (λ (i : Instr). true) boundary_instructions ≡ 3 = refl in
    omega (arith, least, three)
