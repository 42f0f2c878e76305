-- What is kept of bits says as much as they do: the same faults, and the same cells and ports.
use Rattle.std.proofs.Common.{◌≡◌, ℕ, Bool, true, false, List, [], ◌∷◌, ◌++◌, length, map, position, refl, ap, ◌∙◌, Option, Some, None, if◌then◌else◌}
use Rattle.std.specs.List.{enumerate_from}
use Rattle.std.specs.Option.{option_map}
use Rattle.list_laws.proofs.Lists.{any_map}
use Rattle.cell_library.specs.declared.codes.BoundaryKind.{BoundaryKind}
use Rattle.cell_library.specs.declared.codes.Function.{Function}
use Rattle.cell_library.specs.declared.codes.Function.TheVariants as function
use Rattle.netlist_model.specs.declared.Dir.{Dir}
use Rattle.netlist_model.specs.declared.Dir.TheVariants as dir
use Rattle.netlist_model.specs.declared.Feed.{Feed}
use Rattle.netlist_model.specs.declared.Feed.TheVariants.{Net}
use Rattle.netlist_model.specs.declared.PinBit.{PinBit}
use Rattle.netlist_model.specs.Lists.{PortView, CellView}
use Rattle.netlist_link.specs.Linked.{LinkedView, own_ports}
use Rattle.netlist_link.specs.PinWords.{pin_at}
use Rattle.link_model.specs.Nets.{counted_from}
use Rattle.texts.specs.First.{or_else}
use Rattle.plan_texts.specs.declared.plan.Plan.{Plan}
use Rattle.plan_texts.specs.declared.plan.PinLine.{PinLine}
use Rattle.plan_fitting.specs.declared.fault.FitFault.{FitFault}
use Rattle.plan_fitting.specs.declared.fault.FitFault.TheVariants as fault
use Rattle.plan_fitting.specs.declared.fitted.FitRow.{FitRow}
use Rattle.plan_fitting.specs.declared.fitted.FitPort.{FitPort}
use Rattle.plan_fitting.specs.declared.fitted.Fitted.{Fitted}
use Rattle.plan_fitting.specs.Pins.{PinSeen, same_bit}
use Rattle.plan_fitting.specs.Names.{port_name, NamedBit}
use Rattle.plan_fitting.specs.Fits.{has_line, bit_fault, missing_fault, Taken, PhysicalPin, PortBit, taken_alone, tap_lines, taken_by, twice_after, twice_fault, cell_fault, suits_port, name_fault, prefix_fault, fault_with}
use Rattle.plan_fitting.specs.Rows.{Driver, three_state, added_driver, output_driver, controls, controlled_by, output_rows, inout_rows, rows_at, rows_after, rows, has_highz}
use Rattle.plan_fitting.specs.Devices.{pin_for, fit_port, fitted_of}
use Rattle.pin_plan.specs.Seen.{cell_of, plain_cell, plain}
use Rattle.pin_plan.proofs.Lists.{first_in-alike}

of_parts : (core operand : Feed) (high : Bool) → three_state (Some (cell_of (record { core = core; operand = operand; active_high = high }))) ≡ Some (record { core = core; operand = operand; active_high = high })
of_parts core operand true = refl
of_parts core operand false = refl

of_driver : (d : Option Driver) → three_state (option_map cell_of d) ≡ d
of_driver None = refl
of_driver (Some d) = of_parts d.core d.operand d.active_high

pub plain_three_state : (place : Option CellView) → three_state (plain_cell place) ≡ three_state place
plain_three_state place = of_driver (three_state place)

-- Faults.

abbrev fault_unless : Bool → List ℕ → Option FitFault
fault_unless found word = if found then None else Some (fault.PlanPortMissing word)

plain_line : (seen : List PinSeen) (pin : PinBit) → has_line (map plain seen) pin ≡ has_line seen pin
plain_line seen pin = any_map (λ (one : PinSeen). same_bit one.pin pin) plain seen

plain_bit : (seen : List PinSeen) (bit : NamedBit) → bit_fault (map plain seen) bit ≡ bit_fault seen bit
plain_bit seen bit = ap (λ (b : Bool). fault_unless b bit.word) (plain_line seen bit.pin)

plain_missing : (L : LinkedView) (seen : List PinSeen) → missing_fault L (map plain seen) ≡ missing_fault L seen
plain_missing L seen = by (own_ports L) refl
  where
    by : (ports : List PortView) → own_ports L ≡ ports → missing_fault L (map plain seen) ≡ missing_fault L seen
    by [] e = rw e refl
    by (port ∷ ports) e = rw e (first_in-alike (bit_fault (map plain seen)) (bit_fault seen) (plain_bit seen) _)

plain_taken : (lines : List PinLine) (seen : List PinSeen) → taken_by lines (map plain seen) ≡ taken_by lines seen
plain_taken [] seen = refl
plain_taken (line ∷ lines) [] = refl
plain_taken (line ∷ lines) (one ∷ seen) = ap (λ (t : List Taken). PortBit one.pin line.port ∷ PhysicalPin line.pin ∷ t) (plain_taken lines seen)

abbrev cell_fault_or : Bool → List ℕ → Option FitFault → Option FitFault
cell_fault_or suits word more = if suits then more else Some (fault.PlanCell word)

plain_cells : (lines : List PinLine) (seen : List PinSeen) → cell_fault lines (map plain seen) ≡ cell_fault lines seen
plain_cells [] seen = refl
plain_cells (line ∷ lines) [] = refl
plain_cells (line ∷ lines) (one ∷ seen) = ap (cell_fault_or (suits_port line.cell one.side one.control) line.port) (plain_cells lines seen)

plain_twice : (p : Plan) (seen : List PinSeen) → twice_fault p (map plain seen) ≡ twice_fault p seen
plain_twice p seen = ap (λ (t : List Taken). twice_after [] (map taken_alone (tap_lines p) ++ (t ++ map taken_alone p.linkage))) (plain_taken p.pins seen)

abbrev joined : Option FitFault → Option FitFault → Option FitFault → Option FitFault → Option FitFault
joined missing twice cells names = or_else missing (or_else twice (or_else cells names))

pub plain_fault : (L : LinkedView) (p : Plan) (seen : List PinSeen) → fault_with L p (map plain seen) ≡ fault_with L p seen
plain_fault L p seen =
    let names : Option FitFault = or_else (name_fault L p) (prefix_fault L p) in
    ap (λ (o : Option FitFault). joined o (twice_fault p (map plain seen)) (cell_fault p.pins (map plain seen)) names) (plain_missing L seen)
    ∙ ap (λ (o : Option FitFault). joined (missing_fault L seen) o (cell_fault p.pins (map plain seen)) names) (plain_twice p seen)
    ∙ ap (λ (o : Option FitFault). joined (missing_fault L seen) (twice_fault p seen) o names) (plain_cells p.pins seen)

-- What fitting gives.

plain_controlled : (kind : BoundaryKind) (before : List FitRow) (does : Function) (line : PinLine) (one : PinSeen) (d : Driver) (o : Option ℕ)
    → controlled_by kind before does line (plain one) d o ≡ controlled_by kind before does line one d o
plain_controlled kind before does line one d None = refl
plain_controlled kind before does line one d (Some number) = refl

plain_output : (kind : BoundaryKind) (before : List FitRow) (line : PinLine) (one : PinSeen) (d : Option Driver) → output_rows kind before line (plain one) d ≡ output_rows kind before line one d
plain_output kind before line one None = refl
plain_output kind before line one (Some d) = plain_controlled kind before function.Output3 line one d (position (controls d) before)

plain_inout : (kind : BoundaryKind) (before : List FitRow) (line : PinLine) (one : PinSeen) (d : Option Driver) → inout_rows kind before line (plain one) d ≡ inout_rows kind before line one d
plain_inout kind before line one None = refl
plain_inout kind before line one (Some d) = plain_controlled kind before function.Bidir line one d (position (controls d) before)

plain_rows_at : (kind : BoundaryKind) (highz : Bool) (before : List FitRow) (line : PinLine) (one : PinSeen) (side : Dir) → rows_at kind highz before line (plain one) side ≡ rows_at kind highz before line one side
plain_rows_at kind highz before line one dir.Input = refl
plain_rows_at kind highz before line one dir.Output =
    ap (λ (d : Option Driver). output_rows kind before line (plain one) (or_else d (added_driver highz (Net one.net)))) (plain_three_state one.driver)
    ∙ plain_output kind before line one (output_driver highz one)
plain_rows_at kind highz before line one dir.Inout =
    ap (inout_rows kind before line (plain one)) (plain_three_state one.driver) ∙ plain_inout kind before line one (three_state one.driver)

plain_rows : (kind : BoundaryKind) (highz : Bool) (before : List FitRow) (lines : List PinLine) (seen : List PinSeen) → rows_after kind highz before lines (map plain seen) ≡ rows_after kind highz before lines seen
plain_rows kind highz before [] seen = refl
plain_rows kind highz before (line ∷ lines) [] = refl
plain_rows kind highz before (line ∷ lines) (one ∷ seen) =
    ap (λ (more : List FitRow). rows_after kind highz (before ++ more) lines (map plain seen)) (plain_rows_at kind highz before line one one.side)
    ∙ plain_rows kind highz (before ++ rows_at kind highz before line one one.side) lines seen

plain_pin : (lines : List PinLine) (seen : List PinSeen) (bit : PinBit) → pin_for lines (map plain seen) bit ≡ pin_for lines seen bit
plain_pin [] seen bit = refl
plain_pin (line ∷ lines) [] bit = refl
plain_pin (line ∷ lines) (one ∷ seen) bit = ap (λ (pin : List ℕ). if same_bit one.pin bit then line.pin else pin) (plain_pin lines seen bit)

map-alike : {A B : Type 0} (f g : A → B) → ((x : A) → f x ≡ g x) → (xs : List A) → map f xs ≡ map g xs
map-alike {A} {B} f g same xs = ap (λ (h : A → B). map h xs) (λ i x. same x i)

abbrev port_with : LinkedView → PortView → List (List ℕ) → FitPort
port_with L port pins = record { name = port_name L port; dir = port.dir; range = port.range; pins = pins }

plain_port : (L : LinkedView) (p : Plan) (seen : List PinSeen) (port : ℕ × PortView) → fit_port L p (map plain seen) port ≡ fit_port L p seen port
plain_port L p seen port =
    ap (port_with L port.1) (map-alike (λ (bit : ℕ). pin_for p.pins (map plain seen) (pin_at port.0 bit)) (λ (bit : ℕ). pin_for p.pins seen (pin_at port.0 bit))
    (λ bit. plain_pin p.pins seen (pin_at port.0 bit)) (counted_from 0 (length port.1.nets)))

abbrev fitted_with : LinkedView → Plan → List FitRow → List FitPort → Fitted
fitted_with L p made ports = record (fitted_of L p []) { rows = made; ports = ports }

pub plain_fitted : (L : LinkedView) (p : Plan) (seen : List PinSeen) → fitted_of L p (map plain seen) ≡ fitted_of L p seen
plain_fitted L p seen =
    ap (λ (made : List FitRow). fitted_with L p made (map (fit_port L p (map plain seen)) (enumerate_from 0 (own_ports L)))) (plain_rows p.control (has_highz p.opcodes) [] p.pins seen)
    ∙ ap (λ (ports : List FitPort). fitted_with L p (rows p seen) ports) (map-alike (fit_port L p (map plain seen)) (fit_port L p seen) (plain_port L p seen) (enumerate_from 0 (own_ports L)))
