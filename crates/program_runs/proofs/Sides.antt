-- What a program leaves outside a cell's bit, by the direction of that bit.
use Rattle.std.proofs.Common.{◌≡◌, ℕ, Bool, true, slice_get, Option, Some, None, refl, sym, ap, ◌∙◌}
use Rattle.std.specs.Prelude.{option_and_then}
use Rattle.signal_values.specs.declared.PinSig.TheVariants as pin
use Rattle.cell_library.specs.declared.codes.Function.{Function}
use Rattle.cell_library.specs.declared.codes.Function.TheVariants as function
use Rattle.netlist_model.specs.declared.NetId.{NetId}
use Rattle.netlist_model.specs.declared.Dir.{Dir}
use Rattle.netlist_model.specs.declared.Dir.TheVariants.{Input, Output, Inout}
use Rattle.netlist_model.specs.Lists.{PortView, NetlistView, direction}
use Rattle.netlist_model.specs.Formed.{IsWellFormed}
use Rattle.netlist_model.specs.Ports.{BitHasDirection}
use Rattle.bsdl_device.specs.declared.values.DevBit.{DevBit}
use Rattle.bsdl_device.specs.declared.values.CellRow.{CellRow}
use Rattle.bsdl_device.specs.declared.values.Device.{Device}
use Rattle.wrapped_chip.specs.Cells.{Numbered, bit_place, net_of_bit, row_of}
use Rattle.wrapped_chip.specs.ChipRuns.{ChipMoment}
use Rattle.wrapped_chip.specs.Suits.{is_input, is_output, is_bidir, HasCell, Suits}
use Rattle.scan_programs.specs.Cells.{outside_at}
use Rattle.program_runs.specs.Around.{StandsAtNet}
use Rattle.program_runs.proofs.Cells.{takes_outside, IsOutside}

-- The port of a bit.

pub record IsPortOf (N : NetlistView) (bit : DevBit) (net : NetId) : Type 0 where
  pub port : PortView
  pub there : slice_get N.ports bit.port ≡ Some port
  pub has : slice_get port.nets (bit_place port.range bit.index) ≡ Some net
  pub side : direction N.ports net.0 ≡ Some port.dir

pub port_of : BitHasDirection → (N : NetlistView) → IsWellFormed N → (bit : DevBit) (net : NetId) → net_of_bit N bit ≡ Some net → IsPortOf N bit net
port_of directed N formed bit net at = by (slice_get N.ports bit.port) refl
  where
    by : (o : Option PortView) → slice_get N.ports bit.port ≡ o → IsPortOf N bit net
    by None e = absurd (let no : None ≡ Some net = sym (ap (option_and_then (λ (p : PortView). slice_get p.nets (bit_place p.range bit.index))) e) ∙ at in cc)
    by (Some p) e =
        let has : slice_get p.nets (bit_place p.range bit.index) ≡ Some net = sym (ap (option_and_then (λ (q : PortView). slice_get q.nets (bit_place q.range bit.index))) e) ∙ at in
        record {
          port = p;
          there = e;
          has = has;
          side = directed N formed p.dir net (record { number = bit.port; port = p; bit = bit_place p.range bit.index; stands = e; has = has; same = refl });
        }

pub record HasSide (N : NetlistView) (net : NetId) : Type 0 where
  pub dir : Dir
  pub side : direction N.ports net.0 ≡ Some dir

side_of : BitHasDirection → (N : NetlistView) → IsWellFormed N → (net : NetId) (o : Option DevBit) → option_and_then (net_of_bit N) o ≡ Some net → HasSide N net
side_of directed N formed net None at = absurd (cc)
side_of directed N formed net (Some bit) at = let p = port_of directed N formed bit net at in record { dir = p.port.dir; side = p.side }

-- The function of the cell at a bit.

abbrev is_of_side : Dir → Function → Bool
is_of_side Input does = is_input does
is_of_side Output does = is_output does
is_of_side Inout does = is_bidir does

same_found : (found stands : Numbered) (o : Option Numbered) → o ≡ Some found → o ≡ Some stands → found ≡ stands
same_found found stands o e f = cc

found_suits : (B : Device) (N : NetlistView) (is_suitable : Function → Bool) (number : ℕ) (row : CellRow) (stands : StandsAtNet B N number row) → HasCell B N is_suitable stands.net.0
    → is_suitable row.function ≡ true
found_suits B N is_suitable number row stands has =
    let same : has.found ≡ record { number = number; row = row } = same_found has.found (record { number = number; row = row }) (row_of B N stands.net.0) has.first stands.found in
    sym (ap (λ (n : Numbered). is_suitable n.row.function) same) ∙ has.suitable

function_suits : (B : Device) (N : NetlistView) → Suits B N → (number : ℕ) (row : CellRow) (stands : StandsAtNet B N number row) (d : Dir) → direction N.ports stands.net.0 ≡ Some d
    → is_of_side d row.function ≡ true
function_suits B N suits number row stands Input e = suits.inputs stands.net.0 e (record { number = number; row = row }) stands.found
function_suits B N suits number row stands Output e = suits.outputs stands.net.0 e (record { number = number; row = row }) stands.found
function_suits B N suits number row stands Inout e = found_suits B N is_bidir number row stands (suits.inouts stands.net.0 e)

-- What is outside.

-- inputs that have a cell are at 0, and inouts are left alone
pub record LeavesPins (B : Device) (N : NetlistView) (w : ChipMoment) : Type 0 where
  pub inputs : (net : ℕ) (r : Numbered) → direction N.ports net ≡ Some Input → row_of B N net ≡ Some r → w.pins net ≡ pin.Zero
  pub inouts : (net : ℕ) → direction N.ports net ≡ Some Inout → w.pins net ≡ pin.HighZ

outside_by : (B : Device) (N : NetlistView) (w : ChipMoment) (net : ℕ) (d : Dir) (does : Function) (r : Numbered) → LeavesPins B N w → direction N.ports net ≡ Some d → row_of B N net ≡ Some r
    → is_of_side d does ≡ true → takes_outside does ≡ true → outside_at does ≡ w.pins net
outside_by B N w net Input function.Input r leaves side found suits takes = sym (leaves.inputs net r side found)
outside_by B N w net Input function.Clock r leaves side found suits takes = sym (leaves.inputs net r side found)
outside_by B N w net Input function.Bidir r leaves side found suits takes = absurd (cc)
outside_by B N w net Input function.Output2 r leaves side found suits takes = absurd (cc)
outside_by B N w net Input function.Output3 r leaves side found suits takes = absurd (cc)
outside_by B N w net Input function.Control r leaves side found suits takes = absurd (cc)
outside_by B N w net Output function.Input r leaves side found suits takes = absurd (cc)
outside_by B N w net Output function.Clock r leaves side found suits takes = absurd (cc)
outside_by B N w net Output function.Bidir r leaves side found suits takes = absurd (cc)
outside_by B N w net Output function.Output2 r leaves side found suits takes = absurd (cc)
outside_by B N w net Output function.Output3 r leaves side found suits takes = absurd (cc)
outside_by B N w net Output function.Control r leaves side found suits takes = absurd (cc)
outside_by B N w net Inout function.Bidir r leaves side found suits takes = sym (leaves.inouts net side)
outside_by B N w net Inout function.Input r leaves side found suits takes = absurd (cc)
outside_by B N w net Inout function.Clock r leaves side found suits takes = absurd (cc)
outside_by B N w net Inout function.Output2 r leaves side found suits takes = absurd (cc)
outside_by B N w net Inout function.Output3 r leaves side found suits takes = absurd (cc)
outside_by B N w net Inout function.Control r leaves side found suits takes = absurd (cc)

pub outside_is : BitHasDirection → (B : Device) (N : NetlistView) (w : ChipMoment) → IsWellFormed N → Suits B N → LeavesPins B N w → (number : ℕ) (row : CellRow)
    → (stands : StandsAtNet B N number row) → IsOutside w stands.net.0 row
outside_is directed B N w formed suits leaves number row stands takes =
    let side = side_of directed N formed stands.net row.pin stands.at in
    outside_by B N w stands.net.0 side.dir row.function (record { number = number; row = row }) leaves side.side stands.found (function_suits B N suits number row stands side.dir side.side) takes
