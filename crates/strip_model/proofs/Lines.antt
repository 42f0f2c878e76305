-- The lines that the device of a plan tells.
use Rattle.std.proofs.Common.{◌≡◌, ℕ, suc, zero, ◌+◌, ◌-◌, ◌<◌, Bool, true, false, List, [], ◌∷◌, ◌++◌, map, length, drop, take, position, refl, sym, ◌∙◌, ap, Option, Some, None, option_map, slice_get, append_assoc, arith, length-append, is_some}
use Rattle.std.specs.List.{list_any}
use Rattle.std.specs.Str.{bytes_eq}
use Rattle.std.proofs.lemmas.List.{append-nil, map-append, length-map}
use Rattle.std.proofs.lemmas.Option.{slice_get-map}
use Rattle.std.proofs.lemmas.Slice.Eq.{bytes_eq-Decides}
use Rattle.std.proofs.Math.Seq.{drop-append-add}
use Rattle.list_laws.proofs.Tests.{or_first, or_second}
use Rattle.list_laws.proofs.Numbers.{eqb-sym}
use Rattle.list_laws.proofs.Lists.{slice_get-counted_from, front_of}
use Rattle.cell_library.specs.declared.codes.BoundaryKind.{BoundaryKind}
use Rattle.cell_library.specs.declared.codes.Function.{Function}
use Rattle.cell_library.specs.declared.codes.Function.TheVariants as function
use Rattle.netlist_model.specs.declared.Dir.{Dir}
use Rattle.netlist_model.specs.declared.Dir.TheVariants as dir
use Rattle.netlist_model.specs.declared.PinBit.{PinBit}
use Rattle.netlist_model.specs.declared.Range.{Range}
use Rattle.netlist_model.specs.Formed.{width_of}
use Rattle.link_model.specs.Nets.{counted_from}
use Rattle.netlist_link.specs.Linked.{LinkedView}
use Rattle.netlist_link.specs.PinWords.{pin_at}
use Rattle.netlist_link.specs.WellNamed.{index_from}
use Rattle.bsdl_device.specs.Checks.{any_pair}
use Rattle.bsdl_device.specs.declared.values.PortMode.{PortMode}
use Rattle.bsdl_device.specs.declared.values.PortMode.TheVariants as mode
use Rattle.bsdl_device.specs.declared.values.DevPort.{DevPort}
use Rattle.bsdl_device.specs.declared.values.CellRow.{CellRow}
use Rattle.bsdl_device.specs.declared.values.Device.{Device}
use Rattle.plan_texts.specs.declared.plan.TapLine.{TapLine}
use Rattle.plan_texts.specs.declared.plan.PinLine.{PinLine}
use Rattle.plan_texts.specs.declared.plan.Plan.{Plan}
use Rattle.plan_fitting.specs.declared.fitted.FitRow.{FitRow}
use Rattle.plan_fitting.specs.declared.fitted.Fitted.{Fitted}
use Rattle.plan_fitting.specs.Names.{port_name, index_word}
use Rattle.plan_fitting.specs.Pins.{PinSeen, same_bit}
use Rattle.plan_fitting.specs.Rows.{Driver, controls, three_state, output_driver, controlled_by, output_rows, inout_rows, rows_at, rows_after}
use Rattle.plan_fitting.specs.Devices.{pin_for, pins_of_port, fitted_of, dev_port, port_range, scalar_port, tap_ports, dev_ports, dev_bit, cell_row, device_of}
use Rattle.plan_fitting.specs.FittingPlan.{HasWidths}
use Rattle.plan_fitting.proofs.Indices.{place_of_index, dev_port_at, IsBit, bit_there, range_there}
use Rattle.plan_fitting.proofs.DeviceTap.{behind_own}
use Rattle.plan_fitting.proofs.RowCounts.{makes_row}
use Rattle.strip_model.specs.Prefix.{before_end}
use Rattle.strip_model.specs.Plans.{all_found, line_of, place_in, lines_of_row, lines_of_rows, taps_of}
use Rattle.strip_model.specs.PlansTold.{word_at, told_lines}

-- Words that end so.

pub before_joined : (front end : List ℕ) → before_end end (front ++ end) ≡ Some front
before_joined front end =
    let count = length-append front end in
    let left : length (front ++ end) - length end ≡ length front = omega (arith, count) in
    let taken : take (length front) (front ++ end) ≡ front = front_of front end (length front) refl in
    let same : bytes_eq (front ++ end) (front ++ end) ≡ true = grind (arith, bytes_eq-Decides (front ++ end) (front ++ end)) in
    rw (left, taken, same) refl

-- Ports beside the netlist's.

scalars_told : (m : PortMode) (lines : List TapLine) → all_found (map line_of (map (scalar_port m) lines)) ≡ Some lines
scalars_told m [] = refl
scalars_told m (line ∷ lines) = let rest = scalars_told m lines in rw rest refl

pub linkage_told : (f : Fitted) → all_found (map line_of (drop (suc (length f.ports + 4)) (dev_ports f))) ≡ Some f.linkage
linkage_told f =
    let many : length (map dev_port f.ports) ≡ length f.ports = length-map f.ports dev_port in
    let five : suc (length f.ports + 4) ≡ length (map dev_port f.ports) + 5 = omega (arith, many) in
    let left = drop-append-add (map dev_port f.ports) (tap_ports f ++ map (scalar_port mode.Linkage) f.linkage) 5 in
    ap (λ (n : ℕ). all_found (map line_of (drop n (dev_ports f)))) five
    ∙ ap (λ (ports : List DevPort). all_found (map line_of ports)) left
    ∙ scalars_told mode.Linkage f.linkage

pub taps_told : (L : LinkedView) (p : Plan) (seen : List PinSeen) → taps_of (device_of L p seen) ≡ Some (record { tck = p.tck; tms = p.tms; tdi = p.tdi; tdo = p.tdo; trst = p.trst })
taps_told L p seen =
    let f : Fitted = fitted_of L p seen in
    let zero_is : length f.ports + 0 ≡ length f.ports = omega arith in
    let a : slice_get (dev_ports f) (length f.ports) ≡ Some (scalar_port mode.Input p.tck) = ap (slice_get (dev_ports f)) (sym zero_is) ∙ behind_own f 0 in
    let b = behind_own f 1 in
    let c = behind_own f 2 in
    let d = behind_own f 3 in
    let e = behind_own f 4 in
    rw (a, b, c, d, e) refl

-- Bits.

same_place : (range : Option Range) (bit : ℕ) → bit < width_of range → place_in (option_map port_range range) (index_from range bit) ≡ bit
same_place None bit low = omega arith
same_place (Some r) bit low = place_of_index (Some r) bit low

-- what is known of a line
pub record IsLineOf (L : LinkedView) (p : Plan) (seen : List PinSeen) (line : PinLine) (one : PinSeen) : Type 0 where
  pub bit : IsBit L one.pin
  pub pin : pin_for p.pins seen one.pin ≡ line.pin
  pub makes : makes_row one one.side ≡ true

-- the line of a cell at the bit
line_told : (L : LinkedView) (p : Plan) (seen : List PinSeen) → HasWidths L.arena.lists → (line : PinLine) (one : PinSeen) → IsLineOf L p seen line one
    → lines_of_row (device_of L p seen) line.cell (Some (dev_bit (fitted_of L p seen) one.pin)) ≡ Some (record { port = word_at L one.pin; pin = line.pin; cell = line.cell }) ∷ []
line_told L p seen wide line one is =
    let b : IsBit L one.pin = is.bit in
    let f : Fitted = fitted_of L p seen in
    let number : ℕ = one.pin.port.0 in
    let port = dev_port_at L p seen number b.port (bit_there L one.pin b) in
    let range = range_there L p seen one.pin b in
    let width = wide number b.port b.there in
    let place = same_place b.port.range one.pin.bit b.within in
    let within : one.pin.bit < length b.port.nets = omega (arith, width, b.within) in
    let pins : slice_get (pins_of_port p seen (number, b.port)) one.pin.bit ≡ Some line.pin =
    slice_get-map (λ (bit : ℕ). pin_for p.pins seen (pin_at number bit)) (counted_from 0 (length b.port.nets)) one.pin.bit
    ∙ ap (option_map (λ (bit : ℕ). pin_for p.pins seen (pin_at number bit))) (slice_get-counted_from 0 (length b.port.nets) one.pin.bit within)
    ∙ ap (λ (n : ℕ). Some (pin_for p.pins seen (pin_at number n))) (zero_left one.pin.bit)
    ∙ ap (λ (pin : List ℕ). Some pin) is.pin in
    let word : word_at L one.pin ≡ port_name L b.port ++ index_word (index_from b.port.range one.pin.bit) = rw (b.there) refl in
    rw (port, range, place, pins, word) refl
  where
    zero_left : (n : ℕ) → 0 + n ≡ n
    zero_left n = omega arith

-- Rows.

lines_joined : (d : Device) (xs ys : List CellRow) → lines_of_rows d (xs ++ ys) ≡ lines_of_rows d xs ++ lines_of_rows d ys
lines_joined d [] ys = refl
lines_joined d (x ∷ xs) ys =
    ap (λ (rest : List (Option PinLine)). lines_of_row d x.cell x.pin ++ rest) (lines_joined d xs ys) ∙ sym (append_assoc (lines_of_row d x.cell x.pin) (lines_of_rows d xs) (lines_of_rows d ys))

controlled_told : (d : Device) (f : Fitted) (kind : BoundaryKind) (before : List FitRow) (does : Function) (line : PinLine) (one : PinSeen) (by : Driver) (found : Option ℕ)
    → lines_of_rows d (map (cell_row f) (controlled_by kind before does line one by found)) ≡ lines_of_row d line.cell (Some (dev_bit f one.pin))
controlled_told d f kind before does line one by (Some number) = refl
controlled_told d f kind before does line one by None = refl

row_told : (d : Device) (f : Fitted) (kind : BoundaryKind) (highz : Bool) (before : List FitRow) (line : PinLine) (one : PinSeen) (side : Dir) → makes_row one side ≡ true
    → lines_of_rows d (map (cell_row f) (rows_at kind highz before line one side)) ≡ lines_of_row d line.cell (Some (dev_bit f one.pin))
row_told d f kind highz before line one dir.Input makes = refl
row_told d f kind highz before line one dir.Output makes = by (output_driver highz one)
  where
    by : (o : Option Driver) → lines_of_rows d (map (cell_row f) (output_rows kind before line one o)) ≡ lines_of_row d line.cell (Some (dev_bit f one.pin))
    by None = refl
    by (Some o) = controlled_told d f kind before function.Output3 line one o (position (controls o) before)
row_told d f kind highz before line one dir.Inout makes = by (three_state one.driver) makes
  where
    by : (o : Option Driver) → is_some o ≡ true → lines_of_rows d (map (cell_row f) (inout_rows kind before line one o)) ≡ lines_of_row d line.cell (Some (dev_bit f one.pin))
    by None some = absurd (let bad : false ≡ true = some in cc)
    by (Some o) some = controlled_told d f kind before function.Bidir line one o (position (controls o) before)

pub lines_after : (L : LinkedView) (p : Plan) (seen : List PinSeen) → HasWidths L.arena.lists → (kind : BoundaryKind) (highz : Bool) (before : List FitRow) (lines : List PinLine) (ones : List PinSeen)
    → ((k : ℕ) (line : PinLine) (one : PinSeen) → slice_get lines k ≡ Some line → slice_get ones k ≡ Some one → IsLineOf L p seen line one)
    → lines_of_rows (device_of L p seen) (map (cell_row (fitted_of L p seen)) (rows_after kind highz before lines ones))
    ≡ lines_of_rows (device_of L p seen) (map (cell_row (fitted_of L p seen)) before) ++ map Some (told_lines L lines ones)
lines_after L p seen wide kind highz before [] ones are = sym (append-nil _)
lines_after L p seen wide kind highz before (line ∷ lines) [] are = sym (append-nil _)
lines_after L p seen wide kind highz before (line ∷ lines) (one ∷ ones) are =
    let d : Device = device_of L p seen in
    let f : Fitted = fitted_of L p seen in
    let here : List FitRow = rows_at kind highz before line one one.side in
    let is = are 0 line one refl refl in
    let rest = lines_after L p seen wide kind highz (before ++ here) lines ones (λ k l o at there. are (suc k) l o at there) in
    let told = row_told d f kind highz before line one one.side is.makes ∙ line_told L p seen wide line one is in
    rest
    ∙ ap (λ (all : List CellRow). lines_of_rows d all ++ map Some (told_lines L lines ones)) (map-append (cell_row f) before here)
    ∙ ap (λ (all : List (Option PinLine)). all ++ map Some (told_lines L lines ones)) (lines_joined d (map (cell_row f) before) (map (cell_row f) here))
    ∙ append_assoc (lines_of_rows d (map (cell_row f) before)) (lines_of_rows d (map (cell_row f) here)) (map Some (told_lines L lines ones))
    ∙ ap (λ (all : List (Option PinLine)). lines_of_rows d (map (cell_row f) before) ++ (all ++ map Some (told_lines L lines ones))) told

pub all_some : {X : Type 0} (xs : List X) → all_found (map Some xs) ≡ Some xs
all_some [] = refl
all_some (x ∷ xs) = let rest = all_some xs in rw rest refl

-- The physical pin of a bit is that of its line.

same_self : (x : PinBit) → same_bit x x ≡ true
same_self x = grind arith

pub pin_of_line : (lines : List PinLine) (seen : List PinSeen) → any_pair (λ early late. same_bit late early) (map (λ (one : PinSeen). one.pin) seen) ≡ false
    → (k : ℕ) (line : PinLine) (one : PinSeen) → slice_get lines k ≡ Some line → slice_get seen k ≡ Some one → pin_for lines seen one.pin ≡ line.pin
pin_of_line [] seen apart k line one at there = absurd (cc)
pin_of_line (l ∷ lines) [] apart k line one at there = absurd (cc)
pin_of_line (l ∷ lines) (o ∷ seen) apart zero line one at there =
    let same : o ≡ one = some_one o one there in
    let is : l ≡ line = some_line l line at in
    let yes = same_self one.pin in
    rw (same, is) (rw yes refl)
  where
    some_one : (a b : PinSeen) → ◌≡◌ {A = Option PinSeen} (Some a) (Some b) → a ≡ b
    some_one a b e = cc

    some_line : (a b : PinLine) → ◌≡◌ {A = Option PinLine} (Some a) (Some b) → a ≡ b
    some_line a b e = cc
pin_of_line (l ∷ lines) (o ∷ seen) apart (suc k) line one at there =
    let more = or_second (list_any (λ (late : PinBit). same_bit late o.pin) (map (λ (x : PinSeen). x.pin) seen)) (any_pair (λ early late. same_bit late early) (map (λ (x : PinSeen). x.pin) seen)) apart in
    let here = or_first (list_any (λ (late : PinBit). same_bit late o.pin) (map (λ (x : PinSeen). x.pin) seen)) (any_pair (λ early late. same_bit late early) (map (λ (x : PinSeen). x.pin) seen)) apart in
    let other : same_bit o.pin one.pin ≡ false = turned o.pin one.pin (none seen k one there here) in
    let rest = pin_of_line lines seen more k line one at there in
    rw other rest
  where
    turned : (a b : PinBit) → same_bit b a ≡ false → same_bit a b ≡ false
    turned a b h = rw (eqb-sym a.port.0 b.port.0, eqb-sym a.bit b.bit) h

    none : (ones : List PinSeen) (j : ℕ) (x : PinSeen) → slice_get ones j ≡ Some x → list_any (λ (late : PinBit). same_bit late o.pin) (map (λ (y : PinSeen). y.pin) ones) ≡ false → same_bit x.pin o.pin ≡ false
    none [] j x e h = absurd (cc)
    none (y ∷ ys) zero x e h = let same : y ≡ x = inside y x e in rw (← same) (or_first (same_bit y.pin o.pin) (list_any (λ (late : PinBit). same_bit late o.pin) (map (λ (z : PinSeen). z.pin) ys)) h)
      where
        inside : (a b : PinSeen) → ◌≡◌ {A = Option PinSeen} (Some a) (Some b) → a ≡ b
        inside a b e = cc
    none (y ∷ ys) (suc j) x e h = none ys j x e (or_second (same_bit y.pin o.pin) (list_any (λ (late : PinBit). same_bit late o.pin) (map (λ (z : PinSeen). z.pin) ys)) h)
