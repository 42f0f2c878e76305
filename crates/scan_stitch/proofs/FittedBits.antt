-- The bits of what was fitted are those that the pin lines name.
use Rattle.std.proofs.Common.{◌≡◌, ℕ, suc, zero, ◌+◌, ◌<◌, List, [], ◌∷◌, ◌++◌, length, map, refl, sym, ◌∙◌, ap, subst, Option, Some, None, Bool, arith}
use Rattle.std.specs.Prelude.{option_and_then, position}
use Rattle.std.specs.Option.{MatchOption, IsSome}
use Rattle.std.specs.List.{All, slice_get, enumerate_from}
use Rattle.std.proofs.lemmas.List.Elements.{All-nil, All-cons, All-append}
use Rattle.std.proofs.lemmas.Option.{slice_get_within}
use Rattle.cell_library.specs.declared.codes.BoundaryKind.{BoundaryKind}
use Rattle.cell_library.specs.declared.codes.Function.{Function}
use Rattle.cell_library.specs.declared.codes.Function.TheVariants as function
use Rattle.netlist_model.specs.declared.Dir.{Dir}
use Rattle.netlist_model.specs.declared.Dir.TheVariants as dir
use Rattle.netlist_model.specs.declared.PinBit.{PinBit}
use Rattle.netlist_model.specs.declared.Range.{Range}
use Rattle.netlist_model.specs.Lists.{PortView}
use Rattle.netlist_model.specs.Formed.{width_of, IsLaidOut}
use Rattle.netlist_link.specs.Linked.{LinkedView, own_ports}
use Rattle.plan_texts.specs.declared.plan.Plan.{Plan}
use Rattle.plan_texts.specs.declared.plan.PinLine.{PinLine}
use Rattle.plan_fitting.specs.declared.fitted.FitRow.{FitRow}
use Rattle.plan_fitting.specs.declared.fitted.FitPort.{FitPort}
use Rattle.plan_fitting.specs.declared.fitted.Fitted.{Fitted}
use Rattle.plan_fitting.specs.Pins.{PinSeen, IsSeen}
use Rattle.plan_fitting.specs.Rows.{Driver, controls, input_row, two_state_row, data_row, control_row, controlled_by, output_rows, inout_rows, rows_at, rows_after, output_driver, three_state, has_highz}
use Rattle.plan_fitting.specs.Devices.{fit_port, fitted_of, range_at}
use Rattle.plan_fitting.proofs.OwnPorts.{own_from}
use Rattle.stitched_netlist.specs.Sites.{pin_net}
use Rattle.written_netlists.specs.core_sides.Pins.{ArePinsThere}
use Rattle.scan_stitch.specs.Ready.{IsBitInRange, AreBitsInRange}
use Rattle.scan_stitch.specs.Laws.{FittedBitsAreThere}

-- this holds of the row's bit
abbrev BitHolds : (PinBit → Type 0) → FitRow → Type 0
BitHolds Q row = MatchOption row.pin (Unit {0}) Q

abbrev BitsHold : (PinBit → Type 0) → List FitRow → Type 0
BitsHold Q rs = All (BitHolds Q) rs

one_holds : (Q : PinBit → Type 0) (row : FitRow) → BitHolds Q row → BitsHold Q (row ∷ [])
one_holds Q row h = All-cons (BitHolds Q) row [] h (All-nil (BitHolds Q))

controlled_hold : (Q : PinBit → Type 0) (kind : BoundaryKind) (before : List FitRow) (does : Function) (line : PinLine) (one : PinSeen) (d : Driver) (found : Option ℕ) → Q one.pin
    → BitsHold Q (controlled_by kind before does line one d found)
controlled_hold Q kind before does line one d (Some number) h = one_holds Q (data_row does line one d number) h
controlled_hold Q kind before does line one d None h =
    All-cons (BitHolds Q) (data_row does line one d (length before + 1)) (control_row kind d ∷ []) h (one_holds Q (control_row kind d) tt)

output_hold : (Q : PinBit → Type 0) (kind : BoundaryKind) (before : List FitRow) (line : PinLine) (one : PinSeen) (driver : Option Driver) → Q one.pin
    → BitsHold Q (output_rows kind before line one driver)
output_hold Q kind before line one None h = one_holds Q (two_state_row line one) h
output_hold Q kind before line one (Some d) h = controlled_hold Q kind before function.Output3 line one d (position (controls d) before) h

inout_hold : (Q : PinBit → Type 0) (kind : BoundaryKind) (before : List FitRow) (line : PinLine) (one : PinSeen) (driver : Option Driver) → Q one.pin
    → BitsHold Q (inout_rows kind before line one driver)
inout_hold Q kind before line one None h = All-nil (BitHolds Q)
inout_hold Q kind before line one (Some d) h = controlled_hold Q kind before function.Bidir line one d (position (controls d) before) h

rows_hold : (Q : PinBit → Type 0) (kind : BoundaryKind) (highz : Bool) (before : List FitRow) (line : PinLine) (one : PinSeen) (side : Dir) → Q one.pin
    → BitsHold Q (rows_at kind highz before line one side)
rows_hold Q kind highz before line one dir.Input h = one_holds Q (input_row line one) h
rows_hold Q kind highz before line one dir.Output h = output_hold Q kind before line one (output_driver highz one) h
rows_hold Q kind highz before line one dir.Inout h = inout_hold Q kind before line one (three_state one.driver) h

all_hold : (Q : PinBit → Type 0) (kind : BoundaryKind) (highz : Bool) (before : List FitRow) (lines : List PinLine) (seen : List PinSeen) → BitsHold Q before
    → ((k : ℕ) (line : PinLine) (one : PinSeen) → slice_get lines k ≡ Some line → slice_get seen k ≡ Some one → Q one.pin)
    → BitsHold Q (rows_after kind highz before lines seen)
all_hold Q kind highz before [] seen holds each = holds
all_hold Q kind highz before (line ∷ lines) [] holds each = holds
all_hold Q kind highz before (line ∷ lines) (one ∷ seen) holds each =
    all_hold Q kind highz (before ++ rows_at kind highz before line one one.side) lines seen
    (All-append (BitHolds Q) before (rows_at kind highz before line one one.side) holds (rows_hold Q kind highz before line one one.side (each 0 line one refl refl)))
    (λ k l o at there. each (suc k) l o at there)

-- The port of a bit.

fit_port_at : (L : LinkedView) (p : Plan) (seen : List PinSeen) (from : ℕ) (ports : List PortView) (k : ℕ) (port : PortView) → slice_get ports k ≡ Some port
    → slice_get (map (fit_port L p seen) (enumerate_from from ports)) k ≡ Some (fit_port L p seen (from + k, port))
fit_port_at L p seen from [] k port at = absurd (cc)
fit_port_at L p seen from (x ∷ xs) zero port at =
    let e : from + 0 ≡ from = omega arith in
    rw (e, some_is x port at) refl
  where
    some_is : (a b : PortView) → ◌≡◌ {A = Option PortView} (Some a) (Some b) → a ≡ b
    some_is a b h = cc
fit_port_at L p seen from (x ∷ xs) (suc k) port at =
    let e : from + 1 + k ≡ from + suc k = omega arith in
    rw e at (fit_port_at L p seen (from + 1) xs k port at)

in_range : (range : Option Range) (width bit : ℕ) → width ≡ width_of range → bit < width → IsBitInRange range bit
in_range None width bit e below = tt
in_range (Some range) width bit e below = omega arith

bit_seen : (L : LinkedView) (p : Plan) (seen : List PinSeen) → IsLaidOut L.arena.lists → (word : List ℕ) (one : PinSeen) → IsSeen L word one
    → IsBitInRange (range_at (fitted_of L p seen) one.pin) one.pin.bit
bit_seen L p seen laid word one is =
    let port = is.port in
    let here : slice_get (map (fit_port L p seen) (enumerate_from 0 (own_ports L))) one.pin.port.0 ≡ Some (fit_port L p seen (0 + one.pin.port.0, port))
    = fit_port_at L p seen 0 (own_ports L) one.pin.port.0 port (own_from L one.pin.port.0 port is.named.1 is.there) in
    let range : range_at (fitted_of L p seen) one.pin ≡ port.range = ap (λ (o : Option FitPort). option_and_then (λ (q : FitPort). q.range) o) here in
    let below = slice_get_within port.nets one.pin.bit one.net is.net in
    let width = laid.widths one.pin.port.0 port is.there in
    let P : Option Range → Type 0 = λ r. IsBitInRange r one.pin.bit in
    subst P (sym range) (in_range port.range (length port.nets) one.pin.bit width below)

pin_seen : (L : LinkedView) (word : List ℕ) (one : PinSeen) → IsSeen L word one → IsSome (pin_net L.arena.lists.ports one.pin)
pin_seen L word one is =
    let found : pin_net L.arena.lists.ports one.pin ≡ Some one.net
    = ap (λ (o : Option PortView). option_and_then (λ (port : PortView). slice_get port.nets one.pin.bit) o) is.there ∙ is.net in
    rw found refl

pub bits_are_there : FittedBitsAreThere
bits_are_there L p f laid fitted =
    let seen = fitted.seen in
    let P : Fitted → Type 0 = λ g. AreBitsInRange g × ArePinsThere L.arena.lists.ports g.rows in
    let in_ranges = all_hold (λ pin. IsBitInRange (range_at (fitted_of L p seen) pin) pin.bit) p.control (has_highz p.opcodes) [] p.pins seen (All-nil (BitHolds _))
    (λ k line one at there. bit_seen L p seen laid line.port one (fitted.are_seen.each k line one at there)) in
    let pins = all_hold (λ pin. IsSome (pin_net L.arena.lists.ports pin)) p.control (has_highz p.opcodes) [] p.pins seen (All-nil (BitHolds _))
    (λ k line one at there. pin_seen L line.port one (fitted.are_seen.each k line one at there)) in
    subst P (sym fitted.is) (in_ranges, pins)
