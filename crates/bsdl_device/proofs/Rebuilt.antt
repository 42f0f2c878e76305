-- The file and the contents of a device's canonical text.
use Rattle.std.proofs.Common.{◌≡◌, ℕ, ◌+◌, List, [], ◌∷◌, length, map, Bool, true, false, Option, Some, None, refl, ap, ◌∙◌}
use Rattle.std.specs.Prelude.{◌/◌, ◌^◌, nat_le, if◌then◌else◌}
use Rattle.std.specs.List.{flat_map, filter}
use Rattle.std.specs.Option.{option_map}
use Rattle.cell_library.specs.declared.codes.Instr.{Instr}
use Rattle.cell_library.specs.declared.codes.Instr.TheVariants as instr
use Rattle.cell_library.specs.declared.codes.Opcode.{Opcode}
use Rattle.bsdl_device.specs.declared.values.PortRange.{PortRange}
use Rattle.bsdl_device.specs.declared.values.DevPort.{DevPort}
use Rattle.bsdl_device.specs.declared.values.DevBit.{DevBit}
use Rattle.bsdl_device.specs.declared.values.CellRow.{CellRow}
use Rattle.bsdl_device.specs.declared.values.Device.{Device}
use Rattle.bsdl_device.specs.declared.written.Direction.{Direction}
use Rattle.bsdl_device.specs.declared.written.Direction.TheVariants as direction
use Rattle.bsdl_device.specs.declared.written.WrittenRange.{WrittenRange}
use Rattle.bsdl_device.specs.declared.written.PortDeclaration.{PortDeclaration}
use Rattle.bsdl_device.specs.declared.written.DeclaredPort.{DeclaredPort}
use Rattle.bsdl_device.specs.declared.written.TapNames.{TapNames}
use Rattle.bsdl_device.specs.declared.written.StringAttribute.{StringAttribute}
use Rattle.bsdl_device.specs.declared.written.File.{File}
use Rattle.bsdl_device.specs.declared.entries.MappedPins.{MappedPins}
use Rattle.bsdl_device.specs.declared.entries.MappedPins.TheVariants as pins
use Rattle.bsdl_device.specs.declared.entries.PinEntry.{PinEntry}
use Rattle.bsdl_device.specs.declared.entries.Register.TheVariants as register
use Rattle.bsdl_device.specs.declared.entries.AccessEntry.{AccessEntry}
use Rattle.bsdl_device.specs.declared.entries.PortBit.{PortBit}
use Rattle.bsdl_device.specs.declared.entries.RowEntry.{RowEntry}
use Rattle.bsdl_device.specs.declared.entries.Contents.{Contents}
use Rattle.bsdl_device.specs.Ports.{declared_ports, range_of, port_declared}
use Rattle.bsdl_device.specs.Instructions.{instruction_word}
pub use Rattle.bsdl_device.specs.IsDevice.{opcode_entry}
use Rattle.bsdl_device.specs.Canonical.{port_name, pattern_text, bits_text, has_opcode}
use Rattle.bsdl_device.proofs.EntryAtoms.{pin_entry_bytes, opcode_bytes, access_bytes, row_bytes, comma_strings}

-- Contents.

-- the pins of a scalar, or of a vector in parentheses
abbrev pub mapped : Option PortRange → List (List ℕ) → MappedPins
mapped None [] = pins.One []
mapped None (pin ∷ more) = pins.One pin
mapped (Some r) list = pins.Several list

abbrev pub entry_of : DevPort → PinEntry
entry_of p = record { port = p.name; pins = mapped p.range p.pins }

-- the instructions of the list that the device has
abbrev pub present : List Opcode → List Instr → List (List ℕ)
present opcodes list = map instruction_word (filter (has_opcode opcodes) list)

-- IDCODE, and USERCODE where the device has it
abbrev pub ident_list : Bool → List Instr
ident_list true = instr.Idcode ∷ instr.Usercode ∷ []
ident_list false = instr.Idcode ∷ []

abbrev pub device_id_entries : Bool → Bool → List AccessEntry
device_id_entries true user = record { register = register.DeviceId; instructions = map instruction_word (ident_list user) } ∷ []
device_id_entries false user = []

abbrev pub access_entries : List Opcode → List AccessEntry
access_entries opcodes =
    record { register = register.Boundary; instructions = present opcodes (instr.Extest ∷ instr.Sample ∷ instr.Preload ∷ []) }
    ∷ record { register = register.Bypass; instructions = present opcodes (instr.Bypass ∷ instr.Highz ∷ instr.Clamp ∷ []) }
    ∷ device_id_entries (has_opcode opcodes instr.Idcode) (has_opcode opcodes instr.Usercode)

abbrev pub port_bit : List DevPort → DevBit → PortBit
port_bit ports b = record { port = port_name ports b.port; index = b.index }

abbrev pub row_entry : List DevPort → ℕ → CellRow → RowEntry
row_entry ports number row = record { number = number; cell = row.cell; port = option_map (port_bit ports) row.pin; function = row.function; safe = row.safe; disable = row.disable }

-- the rows, numbered from this number on
abbrev pub row_entries : List DevPort → ℕ → List CellRow → List RowEntry
row_entries ports number [] = []
row_entries ports number (row ∷ rows) = row_entry ports number row ∷ row_entries ports (number + 1) rows

abbrev pub rebuilt_contents : Device → Contents
rebuilt_contents d = record {
  pin_map = map entry_of d.ports;
  opcodes = map opcode_entry d.opcodes;
  capture = d.capture;
  idcode = d.idcode;
  usercode = d.usercode;
  access = access_entries d.opcodes;
  rows = row_entries d.ports 0 d.cells;
}

-- The file.

abbrev pub direction_of : PortRange → Direction
direction_of r = if nat_le r.left r.right then direction.To else direction.Downto

abbrev pub written_range : PortRange → WrittenRange
written_range r = record { left = r.left; direction = direction_of r; right = r.right }

abbrev pub declaration_of : DevPort → PortDeclaration
declaration_of p = record { names = p.name ∷ []; mode = p.mode; range = option_map written_range p.range }

abbrev pub code_strings : ℕ → List (List ℕ)
code_strings code = bits_text 4 (code / 2 ^ 28) ∷ bits_text 16 (code / 2 ^ 12) ∷ bits_text 11 (code / 2) ∷ bits_text 1 code ∷ []

abbrev pub user_strings : ℕ → List (List ℕ)
user_strings code = bits_text 32 code ∷ []

abbrev pub tap_of : Device → TapNames
tap_of d = record { tdi = port_name d.ports d.tdi; tms = port_name d.ports d.tms; tdo = port_name d.ports d.tdo; trst = port_name d.ports d.trst; tck = port_name d.ports d.tck }

abbrev pub of_entity : List ℕ → List (List ℕ) → StringAttribute
of_entity entity strings = record { entity = entity; strings = strings }

-- the file with these strings of opcodes and of access
abbrev pub rebuilt_by : Device → List (List ℕ) → List (List ℕ) → File
rebuilt_by d opcodes access = record {
  entity = d.entity;
  default_package = d.«package»;
  declarations = map declaration_of d.ports;
  conformance_entity = d.entity;
  pin_map_entity = d.entity;
  «package» = d.«package»;
  pin_map = comma_strings pin_entry_bytes (map entry_of d.ports);
  tap = tap_of d;
  clock = d.clock;
  stop = d.stop;
  length = record { entity = d.entity; value = d.length };
  opcodes = of_entity d.entity opcodes;
  capture = of_entity d.entity (pattern_text d.capture ∷ []);
  idcode = option_map (λ code. of_entity d.entity (code_strings code)) d.idcode;
  usercode = option_map (λ code. of_entity d.entity (user_strings code)) d.usercode;
  access = of_entity d.entity access;
  boundary_length = record { entity = d.entity; value = length d.cells };
  boundary = of_entity d.entity (comma_strings row_bytes (row_entries d.ports 0 d.cells));
  end = d.entity;
}

abbrev pub opcode_strings : Device → List (List ℕ)
opcode_strings d = comma_strings opcode_bytes (map opcode_entry d.opcodes)

abbrev pub access_strings : Device → List (List ℕ)
access_strings d = comma_strings access_bytes (access_entries d.opcodes)

abbrev pub rebuilt_file : Device → File
rebuilt_file d = rebuilt_by d (opcode_strings d) (access_strings d)

-- Ports.

abbrev pub as_declared : DevPort → DeclaredPort
as_declared p = record { name = p.name; mode = p.mode; range = p.range }

range_again : (range : Option PortRange) → option_map range_of (option_map written_range range) ≡ range
range_again None = refl
range_again (Some r) = refl

declared_again : (ports : List DevPort) → flat_map (λ (d : PortDeclaration). map (port_declared d) d.names) (map declaration_of ports) ≡ map as_declared ports
declared_again [] = refl
declared_again (p ∷ ps) =
    ap (λ (range : Option PortRange). record { name = p.name; mode = p.mode; range = range } ∷ flat_map (λ (d : PortDeclaration). map (port_declared d) d.names) (map declaration_of ps)) (range_again p.range)
    ∙ ap (λ (l : List DeclaredPort). as_declared p ∷ l) (declared_again ps)

pub rebuilt_ports : (d : Device) → declared_ports (rebuilt_file d) ≡ map as_declared d.ports
rebuilt_ports d = declared_again d.ports
