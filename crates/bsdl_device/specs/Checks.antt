-- When a file that is rightly written can't be meant: one test for each rule, and one for each kind of fault. Rules on
-- rows stand apart.
-- IEEE Std 1149.1-2001: the annex on BSDL; instruction register; device identification register. The limits are own.
use Rattle.std.specs.Prelude.{ℕ, ◌-◌, ◌/◌, ◌%◌, ◌^◌, ◌==◌, ◌&&◌, ◌||◌, not, nat_lt, Bool, true, false, List, [], ◌∷◌, ◌++◌, length, map, count_by, Option, Some, None, is_none}
use Rattle.std.specs.List.{flat_map, list_any}
use Rattle.std.specs.Option.{option_map_or}
use Rattle.bsdl_lexicon.specs.Names.{is_same_name}
use Rattle.cell_library.specs.declared.codes.Bits.{Bits}
use Rattle.cell_library.specs.declared.codes.Instr.{Instr}
use Rattle.cell_library.specs.declared.codes.Instr.TheVariants as instr
use Rattle.bsdl_device.specs.declared.values.PortMode.{PortMode}
use Rattle.bsdl_device.specs.declared.values.PortMode.TheVariants as mode
use Rattle.bsdl_device.specs.declared.values.PortRange.{PortRange}
use Rattle.bsdl_device.specs.declared.written.DeclaredPort.{DeclaredPort}
use Rattle.bsdl_device.specs.declared.written.TapNames.{TapNames}
use Rattle.bsdl_device.specs.declared.written.StringAttribute.{StringAttribute}
use Rattle.bsdl_device.specs.declared.written.File.{File}
use Rattle.bsdl_device.specs.declared.entries.MappedPins.{MappedPins}
use Rattle.bsdl_device.specs.declared.entries.MappedPins.TheVariants as pins
use Rattle.bsdl_device.specs.declared.entries.PinEntry.{PinEntry}
use Rattle.bsdl_device.specs.declared.entries.OpcodeEntry.{OpcodeEntry}
use Rattle.bsdl_device.specs.declared.entries.Register.{Register}
use Rattle.bsdl_device.specs.declared.entries.AccessEntry.{AccessEntry}
use Rattle.bsdl_device.specs.declared.entries.RowEntry.{RowEntry}
use Rattle.bsdl_device.specs.declared.entries.Contents.{Contents}
use Rattle.bsdl_device.specs.Ports.{declared_ports, port_names, port_bits, port_named, width, is_mode, counted_from}
use Rattle.bsdl_device.specs.Instructions.{names_instruction, instruction_named, required_instructions, selected_register, is_register, same_bits}

-- two of the list, an earlier and a later one, pass the test
abbrev pub any_pair : {A : Type 0} → (A → A → Bool) → List A → Bool
any_pair test [] = false
any_pair test (x ∷ xs) = list_any (test x) xs || any_pair test xs

-- a name stands twice
abbrev pub is_repeated : List (List ℕ) → Bool
is_repeated names = any_pair is_same_name names

-- Names.

abbrev pub port_named_twice : File → Bool
port_named_twice f = is_repeated (port_names (declared_ports f))

-- a port has the entity's name, or the pin map's
abbrev pub port_named_as_unit : File → Bool
port_named_as_unit f = list_any (λ name. is_same_name name f.entity || is_same_name name f.«package») (port_names (declared_ports f))

-- more than 4,096 bits
abbrev pub has_too_many_bits : File → Bool
has_too_many_bits f = nat_lt 4096 (port_bits (declared_ports f))

-- the entities that the attributes and the end name
abbrev pub entities_named : File → List (List ℕ)
entities_named f =
    f.conformance_entity ∷ f.pin_map_entity ∷ f.length.entity ∷ f.opcodes.entity ∷ f.capture.entity
    ∷ f.access.entity ∷ f.boundary_length.entity ∷ f.boundary.entity ∷ f.end
    ∷ (option_map_or (λ (a : StringAttribute). a.entity ∷ []) f.idcode [] ++ option_map_or (λ (a : StringAttribute). a.entity ∷ []) f.usercode [])

abbrev pub names_other_entity : File → Bool
names_other_entity f = list_any (λ name. not (is_same_name name f.entity)) (entities_named f)

abbrev pub names_other_package : File → Bool
names_other_package f = not (is_same_name f.default_package f.«package»)

abbrev pub name_fails : File → Bool
name_fails f = port_named_twice f || port_named_as_unit f || has_too_many_bits f || names_other_entity f || names_other_package f

-- The pin map.

abbrev pub entry_pins : MappedPins → List (List ℕ)
entry_pins (pins.One pin) = pin ∷ []
entry_pins (pins.Several list) = list

-- one pin for a scalar, and in parentheses as many as the vector has bits
abbrev pub has_pins_for : Option PortRange → MappedPins → Bool
has_pins_for None (pins.One pin) = true
has_pins_for None (pins.Several list) = false
has_pins_for (Some r) (pins.One pin) = false
has_pins_for (Some r) (pins.Several list) = length list == width (Some r)

abbrev pub port_not_mapped_once : List DeclaredPort → List PinEntry → Bool
port_not_mapped_once ports entries = list_any (λ (p : DeclaredPort). not (count_by (λ (e : PinEntry). is_same_name e.port p.name) entries == 1)) ports

-- the entry names no port, or has other pins than the port's bits want
abbrev pub entry_misfits : List DeclaredPort → PinEntry → Bool
entry_misfits ports e = option_map_or (λ (p : DeclaredPort). not (has_pins_for p.range e.pins)) (port_named ports e.port) true

abbrev pub all_pins : List PinEntry → List (List ℕ)
all_pins entries = flat_map (λ (e : PinEntry). entry_pins e.pins) entries

abbrev pub pin_map_fails : File → Contents → Bool
pin_map_fails f c = port_not_mapped_once (declared_ports f) c.pin_map || list_any (entry_misfits (declared_ports f)) c.pin_map || is_repeated (all_pins c.pin_map)

-- The test access port.

abbrev pub tap_names : TapNames → List (List ℕ)
tap_names tap = tap.tck ∷ tap.tms ∷ tap.tdi ∷ tap.tdo ∷ tap.trst ∷ []

-- the name is a scalar port's of this mode
abbrev pub is_scalar_port : List DeclaredPort → PortMode → List ℕ → Bool
is_scalar_port ports wanted name = option_map_or (λ (p : DeclaredPort). is_none p.range && is_mode wanted p.mode) (port_named ports name) false

abbrev pub tap_port_misfits : List DeclaredPort → TapNames → Bool
tap_port_misfits ports tap =
    not (is_scalar_port ports mode.Input tap.tck) || not (is_scalar_port ports mode.Input tap.tms) || not (is_scalar_port ports mode.Input tap.tdi)
    || not (is_scalar_port ports mode.Output tap.tdo) || not (is_scalar_port ports mode.Input tap.trst)

abbrev pub tap_fails : File → Bool
tap_fails f = tap_port_misfits (declared_ports f) f.tap || is_repeated (tap_names f.tap)

-- The instruction register.

abbrev pub length_fails : File → Bool
length_fails f = nat_lt f.length.value 2 || nat_lt 32 f.length.value

abbrev pub has_instruction : List OpcodeEntry → Instr → Bool
has_instruction opcodes i = list_any (λ (o : OpcodeEntry). names_instruction i o.name) opcodes

abbrev pub opcode_is_unknown : OpcodeEntry → Bool
opcode_is_unknown o = is_none (instruction_named o.name)

abbrev pub opcode_named_twice : List OpcodeEntry → Bool
opcode_named_twice opcodes = is_repeated (map (λ (o : OpcodeEntry). o.name) opcodes)

-- an instruction that each device has isn't there
abbrev pub lacks_instruction : List OpcodeEntry → Bool
lacks_instruction opcodes = list_any (λ i. not (has_instruction opcodes i)) required_instructions

abbrev pub has_other_length : ℕ → Bits → Bool
has_other_length wanted bits = not (bits.len == wanted)

-- the opcode of BYPASS has a bit other than 1
abbrev pub bypass_is_not_ones : OpcodeEntry → Bool
bypass_is_not_ones o = names_instruction instr.Bypass o.name && not (o.bits.value == 2 ^ o.bits.len - 1)

abbrev pub are_sample_and_preload : OpcodeEntry → OpcodeEntry → Bool
are_sample_and_preload o p =
    (names_instruction instr.Sample o.name && names_instruction instr.Preload p.name)
    || (names_instruction instr.Preload o.name && names_instruction instr.Sample p.name)

-- two instructions have one opcode, and aren't SAMPLE and PRELOAD
abbrev pub opcodes_clash : OpcodeEntry → OpcodeEntry → Bool
opcodes_clash o p = same_bits o.bits p.bits && not (are_sample_and_preload o p)

abbrev pub opcode_fails : File → Contents → Bool
opcode_fails f c =
    list_any opcode_is_unknown c.opcodes || opcode_named_twice c.opcodes || lacks_instruction c.opcodes
    || list_any (λ (o : OpcodeEntry). has_other_length f.length.value o.bits) c.opcodes || list_any bypass_is_not_ones c.opcodes
    || any_pair opcodes_clash c.opcodes

-- the two bits nearest TDO are 01
abbrev pub capture_fails : File → Contents → Bool
capture_fails f c = has_other_length f.length.value c.capture || not (c.capture.value % 4 == 1)

-- The identification register: version, part, manufacturer in bits 11 to 1, and bit 0.

abbrev pub manufacturer : ℕ → ℕ
manufacturer code = (code / 2) % 2 ^ 11

-- bit 0 is 0, or the manufacturer is 00001111111
abbrev pub code_is_barred : ℕ → Bool
code_is_barred code = code % 2 == 0 || manufacturer code == 127

-- there is a code without the instruction, or the instruction without a code
abbrev pub idcode_stands_alone : Contents → Bool
idcode_stands_alone c = option_map_or (λ _. not (has_instruction c.opcodes instr.Idcode)) c.idcode (has_instruction c.opcodes instr.Idcode)

abbrev pub idcode_fails : Contents → Bool
idcode_fails c = idcode_stands_alone c || option_map_or code_is_barred c.idcode false

-- there is a usercode without USERCODE or USERCODE without one, or USERCODE without IDCODE
abbrev pub usercode_fails : Contents → Bool
usercode_fails c =
    option_map_or (λ _. not (has_instruction c.opcodes instr.Usercode)) c.usercode (has_instruction c.opcodes instr.Usercode)
    || (has_instruction c.opcodes instr.Usercode && not (has_instruction c.opcodes instr.Idcode))

-- Register access.

abbrev pub instructions_of : List AccessEntry → List (List ℕ)
instructions_of list = flat_map (λ (a : AccessEntry). a.instructions) list

-- the instruction has no opcode
abbrev pub is_without_opcode : List OpcodeEntry → List ℕ → Bool
is_without_opcode opcodes name = not (list_any (λ (o : OpcodeEntry). is_same_name name o.name) opcodes)

-- the instruction selects another register
abbrev pub selects_other : Register → List ℕ → Bool
selects_other register name = option_map_or (λ i. not (is_register register (selected_register i))) (instruction_named name) true

abbrev pub register_fails : Contents → Bool
register_fails c =
    list_any (is_without_opcode c.opcodes) (instructions_of c.access) || is_repeated (instructions_of c.access)
    || list_any (λ (a : AccessEntry). list_any (selects_other a.register) a.instructions) c.access

-- The boundary register.

abbrev pub is_numbered : ℕ → RowEntry → Bool
is_numbered number r = r.number == number

-- the rows are numbered from 0 to this length less one, each number once
abbrev pub numbers_misfit : ℕ → List RowEntry → Bool
numbers_misfit count rows =
    list_any (λ (r : RowEntry). not (nat_lt r.number count)) rows || any_pair (λ (r : RowEntry) (s : RowEntry). r.number == s.number) rows
    || list_any (λ number. not (list_any (is_numbered number) rows)) (counted_from 0 count)

abbrev pub boundary_fails : File → Contents → Bool
boundary_fails f c = f.boundary_length.value == 0 || not (length c.rows == f.boundary_length.value) || numbers_misfit f.boundary_length.value c.rows
