-- The report of an insertion with registers of the design's own: behind the five lines one for each register. Own.
use Rattle.std.specs.Prelude.{ℕ, List, [], ◌∷◌, ◌++◌, codes}
use Rattle.std.specs.Fmt.{decimal}
use Rattle.std.specs.List.{flat_map}
use Rattle.output_lines.specs.Lines.{words_line}
use Rattle.bsdl_device.specs.declared.registers.values.TestRegister.{TestRegister}
use Rattle.bsdl_device.specs.declared.registers.values.Extended.{Extended}
use Rattle.insertion_report.specs.Reports.{report_of}

-- `register NAME n INSTR`: how many bits it has, and the instruction that selects it
abbrev pub register_line : TestRegister → List ℕ
register_line r = words_line (codes "register") (r.name ∷ decimal r.length ∷ r.instr ∷ [])

-- the report on a device with its registers, where the netlist's ports have so many bits, and so many cells are the
-- core's
abbrev pub extended_report : ℕ → ℕ → Extended → List ℕ
extended_report pins kept e = report_of pins kept e.device ++ flat_map register_line e.registers
