-- own: the rules by their kinds, in their order.
use Rattle.std.specs.Prelude.{ℕ, Bool, false, List, [], ◌∷◌}
use Rattle.bsdl_device.specs.declared.meaning.MeaningKind.{MeaningKind}
use Rattle.bsdl_device.specs.declared.meaning.MeaningKind.TheVariants as kind
use Rattle.bsdl_device.specs.declared.written.File.{File}
use Rattle.bsdl_device.specs.declared.entries.Contents.{Contents}
use Rattle.bsdl_device.specs.Meanings.{MeaningFault}
use Rattle.bsdl_device.specs.Checks as rule
use Rattle.bsdl_device.specs.RowRules.{row_fails}
use Rattle.bsdl_checks.specs.declared.first.BrokenRule.{BrokenRule}

abbrev pub order : List MeaningKind
order = kind.Name ∷ kind.PinMap ∷ kind.Tap ∷ kind.Length ∷ kind.Opcode ∷ kind.Capture ∷ kind.Idcode ∷ kind.Usercode ∷ kind.Register ∷ kind.Boundary ∷ kind.Row ∷ []

-- the section at which a rule is told; that on a netlist and a device has none
abbrev pub section_of : MeaningKind → ℕ
section_of kind.Name = 3
section_of kind.PinMap = 7
section_of kind.Tap = 8
section_of kind.Length = 10
section_of kind.Opcode = 11
section_of kind.Capture = 12
section_of kind.Idcode = 11
section_of kind.Usercode = 11
section_of kind.Register = 14
section_of kind.Boundary = 15
section_of kind.Row = 16
section_of kind.Ports = 0

-- the rule of a kind is broken; that on a netlist and a device isn't looked at
abbrev pub rule_fails : File → Contents → MeaningKind → Bool
rule_fails f c kind.Name = rule.name_fails f
rule_fails f c kind.PinMap = rule.pin_map_fails f c
rule_fails f c kind.Tap = rule.tap_fails f
rule_fails f c kind.Length = rule.length_fails f
rule_fails f c kind.Opcode = rule.opcode_fails f c
rule_fails f c kind.Capture = rule.capture_fails f c
rule_fails f c kind.Idcode = rule.idcode_fails c
rule_fails f c kind.Usercode = rule.usercode_fails c
rule_fails f c kind.Register = rule.register_fails c
rule_fails f c kind.Boundary = rule.boundary_fails f c
rule_fails f c kind.Row = row_fails f c
rule_fails f c kind.Ports = false

abbrev pub told : BrokenRule → MeaningFault
told r = record { kind = r.kind; word = r.word }
