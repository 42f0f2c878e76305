-- The canonical text of a device with registers of its own: their opcodes and entries behind the others.
-- IEEE Std 1149.1-2001: the annex on BSDL. The layout is own.
use Rattle.std.specs.Prelude.{ℕ, List, [], ◌∷◌, ◌++◌, codes}
use Rattle.std.specs.List.{flat_map}
use Rattle.std.specs.Fmt.{decimal}
use Rattle.bsdl_device.specs.declared.values.Device.{Device}
use Rattle.bsdl_device.specs.Canonical.{pieces, next_string, pattern_text, head_text, tap_text, attribute_text, opcodes_text, idcode_text, usercode_text, access_text, boundary_text}
use Rattle.bsdl_device.specs.declared.registers.values.TestRegister.{TestRegister}
use Rattle.bsdl_device.specs.declared.registers.values.Extended.{Extended}

-- `INSTRUCTION (bits)`, in a string of its own behind the others
unfoldable pub own_opcode_text : TestRegister → List ℕ
own_opcode_text r = next_string ++ r.instr ++ codes " (" ++ pattern_text r.bits ++ codes ")"

unfoldable pub own_opcodes_text : List TestRegister → List ℕ
own_opcodes_text registers = flat_map own_opcode_text registers

-- `NAME[length] (INSTRUCTION`, behind the parenthesis that ends the entry before it
unfoldable pub own_access_text : TestRegister → List ℕ
own_access_text r = codes ")" ++ next_string ++ r.name ++ codes "[" ++ decimal r.length ++ codes "] (" ++ r.instr

unfoldable pub own_accesses_text : List TestRegister → List ℕ
own_accesses_text registers = flat_map own_access_text registers

-- from behind the profile's opcodes to behind the profile's registers
unfoldable pub middle_text : Device → List ℕ
middle_text d =
    attribute_text (codes "\";\n") (codes "INSTRUCTION_CAPTURE") d.entity (codes " \"") ++ pattern_text d.capture
    ++ idcode_text d.entity d.idcode ++ usercode_text d.entity d.usercode
    ++ attribute_text (codes "\";\n") (codes "REGISTER_ACCESS") d.entity (codes "\n    \"") ++ access_text d.opcodes

-- up to the profile's opcodes
unfoldable pub front_text : Device → List ℕ
front_text d =
    head_text d ++ tap_text d ++ attribute_text [] (codes "INSTRUCTION_LENGTH") d.entity (codes " ") ++ decimal d.length
    ++ attribute_text (codes ";\n") (codes "INSTRUCTION_OPCODE") d.entity (codes "\n    \"") ++ opcodes_text d.opcodes

-- behind the profile's registers
unfoldable pub back_text : Device → List ℕ
back_text d = boundary_text d ++ pieces (codes "\";\nend " ∷ d.entity ∷ codes ";\n" ∷ [])

-- the whole file
unfoldable pub canonical_extended : Extended → List ℕ
canonical_extended e = front_text e.device ++ own_opcodes_text e.registers ++ middle_text e.device ++ own_accesses_text e.registers ++ back_text e.device
