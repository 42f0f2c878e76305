-- The whole plan, told; and what it comes to.
use Rattle.std.proofs.Common.{◌≡◌, ℕ, suc, inl, inr, Bool, true, false, List, [], ◌∷◌, ◌++◌, map, length, drop, refl, sym, ◌∙◌, ap, Option, Some, None, option_map, slice_get}
use Rattle.std.specs.Prelude.{option_and_then, codes}
use Rattle.std.specs.List.{list_any, enumerate_from}
use Rattle.list_laws.proofs.Tests.{true_or_false}
use Rattle.list_laws.proofs.Lists.{all_at, map_same}
use Rattle.cell_library.specs.declared.codes.BoundaryKind.{BoundaryKind}
use Rattle.cell_library.specs.declared.codes.Function.TheVariants as function
use Rattle.netlist_model.specs.declared.Dir.{Dir}
use Rattle.netlist_model.specs.declared.Dir.TheVariants as dir
use Rattle.plan_fitting.specs.Rows.{Driver, rows_after, rows, has_highz}
use Rattle.netlist_model.specs.declared.PinBit.{PinBit}
use Rattle.netlist_model.specs.Lists.{PortView, cell_count}
use Rattle.netlist_model.specs.Drivers.{DriverIsFound}
use Rattle.netlist_model.specs.Ports.{BitHasDirection}
use Rattle.link_model.specs.Nets.{counted_from}
use Rattle.netlist_link.specs.Linked.{LinkedView, own_ports}
use Rattle.netlist_link.specs.PinWords.{pin_at}
use Rattle.bsdl_device.specs.RowRules.{is_function}
use Rattle.bsdl_device.specs.declared.values.Device.{Device}
use Rattle.plan_texts.specs.declared.plan.TapLine.{TapLine}
use Rattle.plan_texts.specs.declared.plan.PinLine.{PinLine}
use Rattle.plan_texts.specs.declared.plan.Plan.{Plan}
use Rattle.plan_fitting.specs.declared.fitted.FitPort.{FitPort}
use Rattle.plan_fitting.specs.declared.fitted.FitRow.{FitRow}
use Rattle.plan_fitting.specs.declared.fitted.Fitted.{Fitted}
use Rattle.plan_fitting.specs.Pins.{PinSeen}
use Rattle.plan_fitting.specs.Devices.{pin_for, fit_port, fitted_of, codes_of, device_of}
use Rattle.plan_fitting.specs.FittingPlan.{IsFitting}
use Rattle.plan_fitting.proofs.DevicesFacts.{Facts, facts_of}
use Rattle.plan_fitting.proofs.DeviceRows.{lined_bit}
use Rattle.plan_fitting.proofs.RowCounts.{makes_row}
use Rattle.plan_fitting.proofs.Rows.{data_function, side_driver}
use Rattle.strip_model.specs.declared.Taps.{Taps}
use Rattle.strip_model.specs.Plans.{all_found, line_of, lines_of_rows, taps_of, plan_with}
use Rattle.strip_model.specs.Prefix.{before_end}
use Rattle.strip_model.specs.PlansTold.{told_lines, told_plan, PlanIsTold, SameIsFitted}
use Rattle.strip_model.proofs.Rows.{after_words, is_control, after_kind, AreOfKind, control_told}
use Rattle.strip_model.proofs.Lines.{before_joined, linkage_told, taps_told, IsLineOf, lines_after, all_some, pin_of_line}

lines_are : (L : LinkedView) (p : Plan) (seen : List PinSeen) → IsFitting L p seen → Facts L p seen → (k : ℕ) (line : PinLine) (one : PinSeen)
    → slice_get p.pins k ≡ Some line → slice_get seen k ≡ Some one → IsLineOf L p seen line one
lines_are L p seen fits facts k line one at there = record {
  bit = lined_bit L fits.wide line one (facts.lines k line one at there);
  pin = pin_of_line p.pins seen facts.once.bits k line one at there;
  makes = all_at (λ (x : PinSeen). makes_row x x.side ≡ true) seen k one facts.makes there;
}

pub plan_told : BitHasDirection → DriverIsFound → PlanIsTold
plan_told has found L p seen fits =
    let facts = facts_of has found L p seen fits in
    let d : Device = device_of L p seen in
    let f : Fitted = fitted_of L p seen in
    let clock : before_end (codes ".0e6") (p.clock ++ codes ".0e6") ≡ Some p.clock = before_joined p.clock (codes ".0e6") in
    let taps = taps_told L p seen in
    let pins : all_found (lines_of_rows d d.cells) ≡ Some (told_lines L p.pins seen) =
    ap all_found (lines_after L p seen fits.wide p.control (has_highz p.opcodes) [] p.pins seen (lines_are L p seen fits facts)) ∙ all_some (told_lines L p.pins seen) in
    let linkage = linkage_told f in
    let one : Option (List ℕ) → Option Taps → Option (List PinLine) → Option (List TapLine) → Option Plan = λ c t ps ls.
    option_and_then (λ (clock : List ℕ). option_and_then (λ (taps : Taps). option_and_then (λ (pins : List PinLine). option_map (λ (linkage : List TapLine). plan_with p.prefix d clock taps pins linkage) ls) ps) t) c in
    ap (λ (c : Option (List ℕ)). one c (taps_of d) (all_found (lines_of_rows d d.cells)) (all_found (map line_of (drop (suc d.trst) d.ports)))) clock
    ∙ ap (λ (t : Option Taps). one (Some p.clock) t (all_found (lines_of_rows d d.cells)) (all_found (map line_of (drop (suc d.trst) d.ports)))) taps
    ∙ ap (λ (ps : Option (List PinLine)). one (Some p.clock) (Some (record { tck = p.tck; tms = p.tms; tdi = p.tdi; tdo = p.tdo; trst = p.trst })) ps (all_found (map line_of (drop (suc d.trst) d.ports)))) pins
    ∙ ap (λ (ls : Option (List TapLine)). one (Some p.clock) (Some (record { tck = p.tck; tms = p.tms; tdi = p.tdi; tdo = p.tdo; trst = p.trst })) (Some (told_lines L p.pins seen)) ls) linkage

-- What it comes to.

pins_same : (L : LinkedView) (lines : List PinLine) (ones : List PinSeen) (bit : PinBit) → pin_for (told_lines L lines ones) ones bit ≡ pin_for lines ones bit
pins_same L [] ones bit = refl
pins_same L (line ∷ lines) [] bit = refl
pins_same L (line ∷ lines) (one ∷ ones) bit = rw (pins_same L lines ones bit) refl

no_control : (side : Dir) (clock : Bool) (d : Option Driver) → is_function function.Control (data_function side clock d) ≡ false
no_control dir.Input true d = refl
no_control dir.Input false d = refl
no_control dir.Output clock None = refl
no_control dir.Output clock (Some d) = refl
no_control dir.Inout clock d = refl

-- the control cells of a plan have its kind
pub of_kind : (L : LinkedView) (p : Plan) (seen : List PinSeen) → Facts L p seen → AreOfKind p.control (rows p seen)
of_kind L p seen facts k row at is = elim (facts.each k row at) [
  | inl d ↦ absurd (
      let never = no_control d.one.side d.one.clock (side_driver (has_highz p.opcodes) d.one d.one.side) in
      let yes : is_function function.Control (data_function d.one.side d.one.clock (side_driver (has_highz p.opcodes) d.one d.one.side)) ≡ true =
      ap (is_function function.Control) (sym d.does) ∙ is in
      let bad : true ≡ false = sym yes ∙ never in cc)
  | inr c ↦ c.cell
]

rows_same : (L : LinkedView) (p : Plan) (seen : List PinSeen) → Facts L p seen → rows (told_plan L p seen) seen ≡ rows p seen
rows_same L p seen facts =
    after_words L (told_plan L p seen).control (has_highz p.opcodes) [] p.pins seen ∙ elim (true_or_false (list_any is_control (rows p seen))) [
      | inl some ↦ ap (λ (kind : BoundaryKind). rows_after kind (has_highz p.opcodes) [] p.pins seen) (control_told p.control (fitted_of L p seen) (rows p seen) (of_kind L p seen facts) some)
      | inr none ↦ after_kind p.control (told_plan L p seen).control (has_highz p.opcodes) [] p.pins seen none
    ]

port_same : (L : LinkedView) (p : Plan) (seen : List PinSeen) (port : ℕ × PortView) → fit_port L (told_plan L p seen) seen port ≡ fit_port L p seen port
port_same L p seen port =
    let pins = map_same (λ (bit : ℕ). pin_for (told_lines L p.pins seen) seen (pin_at port.0 bit)) (λ (bit : ℕ). pin_for p.pins seen (pin_at port.0 bit)) (counted_from 0 (length port.1.nets))
    (λ k bit at. pins_same L p.pins seen (pin_at port.0 bit)) in
    rw pins refl

-- what is fitted, by its cells and ports
abbrev fitted_by : LinkedView → Plan → List FitRow → List FitPort → Fitted
fitted_by L p cells ports = record {
  rows = cells;
  ports = ports;
  entity = p.entity;
  «package» = p.«package»;
  tck = p.tck;
  tms = p.tms;
  tdi = p.tdi;
  tdo = p.tdo;
  trst = p.trst;
  clock = p.clock;
  linkage = p.linkage;
  codes = codes_of p;
  idcode = p.idcode;
  usercode = p.usercode;
  kept = cell_count L.arena.lists;
}

pub fitted_same : BitHasDirection → DriverIsFound → SameIsFitted
fitted_same has found L p seen fits =
    let facts = facts_of has found L p seen fits in
    ap (λ (cells : List FitRow). fitted_by L p cells (map (fit_port L (told_plan L p seen) seen) (enumerate_from 0 (own_ports L)))) (rows_same L p seen facts)
    ∙ ap (fitted_by L p (rows p seen)) (map_same (fit_port L (told_plan L p seen) seen) (fit_port L p seen) (enumerate_from 0 (own_ports L)) (λ k port at. port_same L p seen port))
