-- The report of an insertion: the entity, the bits of the ports, the cells of the core, the instructions and
-- the registers. Own.
use Rattle.std.specs.Prelude.{ℕ, ◌-◌, List, [], ◌∷◌, ◌++◌, map, length, codes, Option, Some, None}
use Rattle.std.specs.Fmt.{decimal}
use Rattle.output_lines.specs.Lines.{words_line}
use Rattle.cell_library.specs.declared.codes.Opcode.{Opcode}
use Rattle.netlist_arena.specs.Arena.{bit_count}
use Rattle.netlist_link.specs.Linked.{LinkedView, hidden_ports}
use Rattle.bsdl_device.specs.declared.values.Device.{Device}
use Rattle.bsdl_device.specs.Instructions.{instruction_word}

-- the bits of the ports that aren't hidden
abbrev pub own_bits : LinkedView → ℕ
own_bits L = bit_count L.arena.lists.ports - bit_count (hidden_ports L)

-- the name of an opcode's instruction
abbrev pub name_of : Opcode → List ℕ
name_of o = instruction_word o.instr

-- the identification register has 32 bits, where there is one
abbrev pub ident_words : Option ℕ → List (List ℕ)
ident_words None = []
ident_words (Some code) = codes "DEVICE_ID" ∷ codes "32" ∷ []

-- the registers that each device has
abbrev pub size_words : Device → List (List ℕ)
size_words d = codes "INSTRUCTION" ∷ decimal d.length ∷ codes "BYPASS" ∷ decimal 1 ∷ codes "BOUNDARY" ∷ decimal (length d.cells) ∷ []

-- each register, and how many bits it has
abbrev pub register_words : Device → List (List ℕ)
register_words d =
    codes "INSTRUCTION" ∷ decimal d.length ∷ codes "BYPASS" ∷ decimal 1 ∷ codes "BOUNDARY" ∷ decimal (length d.cells) ∷ ident_words d.idcode

-- the report on a device, where the netlist's ports have so many bits, and so many cells are the core's
abbrev pub report_of : ℕ → ℕ → Device → List ℕ
report_of pins kept d =
    words_line (codes "entity") (d.entity ∷ [])
    ++ (words_line (codes "pins") (decimal pins ∷ [])
    ++ (words_line (codes "kept") (decimal kept ∷ [])
    ++ (words_line (codes "instructions") (map name_of d.opcodes)
    ++ words_line (codes "registers") (register_words d))))
