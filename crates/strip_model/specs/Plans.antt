-- The plan of a device, by the prefix of what was added.
-- IEEE Std 1149.1-2001: the annex on BSDL; the lines of plans are own.
use Rattle.std.specs.Prelude.{ℕ, suc, ◌+◌, ◌-◌, Bool, List, [], ◌∷◌, ◌++◌, map, drop, codes, slice_get, Option, Some, None, option_and_then, find}
use Rattle.std.specs.Option.{option_map, option_map_or}
use Rattle.cell_library.specs.declared.codes.BoundaryKind.{BoundaryKind}
use Rattle.cell_library.specs.declared.codes.BoundaryKind.TheVariants.{Bc1}
use Rattle.cell_library.specs.declared.codes.Function.TheVariants as function
use Rattle.bsdl_device.specs.declared.values.CellRow.{CellRow}
use Rattle.bsdl_device.specs.declared.values.DevBit.{DevBit}
use Rattle.bsdl_device.specs.declared.values.DevPort.{DevPort}
use Rattle.bsdl_device.specs.declared.values.Device.{Device}
use Rattle.bsdl_device.specs.declared.values.PortRange.{PortRange}
use Rattle.bsdl_device.specs.RowRules.{is_function}
use Rattle.plan_texts.specs.declared.plan.PinLine.{PinLine}
use Rattle.plan_texts.specs.declared.plan.TapLine.{TapLine}
use Rattle.plan_texts.specs.declared.plan.Plan.{Plan}
use Rattle.plan_fitting.specs.Names.{index_word}
use Rattle.strip_model.specs.declared.Taps.{Taps}
use Rattle.strip_model.specs.Prefix.{before_end}

-- Lists in which each element is found.

abbrev pub all_found : {X : Type 0} → List (Option X) → Option (List X)
all_found [] = Some []
all_found (None ∷ more) = None
all_found (Some one ∷ more) = option_map (λ rest. one ∷ rest) (all_found more)

-- Ports beside the netlist's.

abbrev pub line_of : DevPort → Option TapLine
line_of port = option_map (λ (pin : List ℕ). record { name = port.name; pin = pin }) (slice_get port.pins 0)

abbrev pub line_at : Device → ℕ → Option TapLine
line_at d number = option_and_then line_of (slice_get d.ports number)

-- Bits.

-- the place of a bit among its port's, from the left, by its index; a scalar has one bit
abbrev pub place_in : Option PortRange → Option ℕ → ℕ
place_in (Some r) (Some index) = (r.left - index) + (index - r.left)
place_in range index = 0

abbrev pub pin_line : BoundaryKind → DevBit → DevPort → Option PinLine
pin_line cell bit port =
    option_map (λ (pin : List ℕ). record { port = port.name ++ index_word bit.index; pin = pin; cell = cell })
    (slice_get port.pins (place_in port.range bit.index))

abbrev pub line_of_bit : Device → BoundaryKind → DevBit → Option PinLine
line_of_bit d cell bit = option_and_then (pin_line cell bit) (slice_get d.ports bit.port)

-- the line of a cell at a bit; a control cell has none
abbrev pub lines_of_row : Device → BoundaryKind → Option DevBit → List (Option PinLine)
lines_of_row d cell None = []
lines_of_row d cell (Some bit) = line_of_bit d cell bit ∷ []

abbrev pub lines_of_rows : Device → List CellRow → List (Option PinLine)
lines_of_rows d [] = []
lines_of_rows d (row ∷ rows) = lines_of_row d row.cell row.pin ++ lines_of_rows d rows

-- The kind of the control cells.

abbrev pub is_control_row : CellRow → Bool
is_control_row row = is_function function.Control row.function

-- that of the first one; BC_1 where there is none
abbrev pub control_of : List CellRow → BoundaryKind
control_of rows = option_map_or (λ (row : CellRow). row.cell) (find is_control_row rows) Bc1

-- The plan.

-- the least version that has such a usercode
abbrev pub version_for : Option ℕ → ℕ
version_for None = 1
version_for (Some code) = 2

abbrev pub taps_from : List TapLine → Option Taps
taps_from (tck ∷ tms ∷ tdi ∷ tdo ∷ trst ∷ []) = Some (record { tck = tck; tms = tms; tdi = tdi; tdo = tdo; trst = trst })
taps_from lines = None

abbrev pub taps_of : Device → Option Taps
taps_of d = option_and_then taps_from (all_found (map (line_at d) (d.tck ∷ d.tms ∷ d.tdi ∷ d.tdo ∷ d.trst ∷ [])))

abbrev pub plan_with : List ℕ → Device → List ℕ → Taps → List PinLine → List TapLine → Plan
plan_with prefix d clock taps pins linkage = record {
  version = version_for d.usercode;
  entity = d.entity;
  «package» = d.«package»;
  prefix = prefix;
  tck = taps.tck;
  tms = taps.tms;
  tdi = taps.tdi;
  tdo = taps.tdo;
  trst = taps.trst;
  clock = clock;
  length = d.length;
  capture = d.capture;
  opcodes = d.opcodes;
  idcode = d.idcode;
  usercode = d.usercode;
  control = control_of d.cells;
  pins = pins;
  linkage = linkage;
}

-- the clock's digits stand before `.0e6`, a pin line for each cell at a bit, and the ports behind TRST are linkage; the
-- version is 2 where there is a usercode
abbrev pub plan_of : List ℕ → Device → Option Plan
plan_of prefix d =
    option_and_then (λ (clock : List ℕ).
    option_and_then (λ (taps : Taps).
    option_and_then (λ (pins : List PinLine).
    option_map (λ (linkage : List TapLine). plan_with prefix d clock taps pins linkage)
    (all_found (map line_of (drop (suc d.trst) d.ports))))
    (all_found (lines_of_rows d d.cells)))
    (taps_of d))
    (before_end (codes ".0e6") d.clock)
