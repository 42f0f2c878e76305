-- The pins of a device by their words, and the cells that stand at them.
-- IEEE Std 1149.1-2001: the annex on BSDL (logical port description, boundary register description). The words are own.
use Rattle.std.specs.Prelude.{ℕ, ◌==◌, ◌&&◌, ◌||◌, not, Bool, List, [], ◌++◌, map, slice_get, position, Option, Some, None, codes, if◌then◌else◌}
use Rattle.std.specs.Fmt.{decimal}
use Rattle.std.specs.List.{enumerate_from, flat_map}
use Rattle.std.specs.Option.{option_map_or}
use Rattle.signal_values.specs.declared.PinSig.{PinSig}
use Rattle.signal_values.specs.declared.PinSig.TheVariants as pin
use Rattle.bsdl_device.specs.declared.values.PortMode.TheVariants as mode
use Rattle.bsdl_device.specs.declared.values.DevPort.{DevPort}
use Rattle.bsdl_device.specs.declared.values.DevBit.{DevBit}
use Rattle.bsdl_device.specs.declared.values.CellRow.{CellRow}
use Rattle.bsdl_device.specs.declared.values.Device.{Device}
use Rattle.bsdl_device.specs.Ports.{indices, is_mode}
use Rattle.bsdl_device.specs.IsDevice.{is_tap_place, is_at}
use Rattle.scan_vectors.specs.declared.lines.Line.{Line}
use Rattle.scan_vectors.specs.declared.lines.Line.TheVariants.{Start}
use Rattle.scan_programs.specs.declared.pins.Reader.{Reader}

-- the word of a bit: the port's name, and a vector's index in brackets
abbrev pub bit_word : List ℕ → Option ℕ → List ℕ
bit_word name None = name
bit_word name (Some index) = name ++ (codes "[" ++ (decimal index ++ codes "]"))

-- the word of a scalar port by its place
abbrev pub port_word : Device → ℕ → List ℕ
port_word B place = option_map_or (λ (p : DevPort). p.name) (slice_get B.ports place) []

-- the start of an input or an inout: inouts are left alone, TMS is 1 and all else 0
abbrev pub start_value : Device → ℕ → DevPort → PinSig
start_value B place p = if is_mode mode.Inout p.mode then pin.HighZ else (if place == B.tms then pin.One else pin.Zero)

abbrev pub takes_start : DevPort → Bool
takes_start p = is_mode mode.Input p.mode || is_mode mode.Inout p.mode

abbrev pub starts_of : Device → ℕ × DevPort → List Line
starts_of B (place, p) =
    if takes_start p then map (λ index. Start (bit_word p.name index) (start_value B place p)) (indices p.range) else []

-- the starts of all inputs and inouts, in the order of the ports, bits from the left
unfoldable pub starts : Device → List Line
starts B = flat_map (starts_of B) (enumerate_from 0 B.ports)

-- the number of the cell that stands at a bit
abbrev pub cell_of : List CellRow → DevBit → Option ℕ
cell_of cells bit = position (is_at bit) cells

-- an output or inout of the device's own logic
abbrev pub is_read_port : Device → ℕ × DevPort → Bool
is_read_port B (place, p) = not (is_tap_place B place) && (is_mode mode.Output p.mode || is_mode mode.Inout p.mode)

abbrev pub reader_at : List CellRow → ℕ → List ℕ → Option ℕ → Reader
reader_at cells place name index = record { word = bit_word name index; number = cell_of cells (record { port = place; index = index }) }

abbrev pub readers_of : Device → ℕ × DevPort → List Reader
readers_of B (place, p) = if is_read_port B (place, p) then map (reader_at B.cells place p.name) (indices p.range) else []

-- the bits of these ports, in the order of the ports, bits from the left, with the cells at them
unfoldable pub readers : Device → List Reader
readers B = flat_map (readers_of B) (enumerate_from 0 B.ports)
