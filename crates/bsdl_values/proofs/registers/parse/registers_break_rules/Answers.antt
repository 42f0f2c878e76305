use Rattle.std.proofs.Common.{List, ◌∙◌, ap}
use Rattle.bsdl_device.specs.declared.entries.OpcodeEntry.{OpcodeEntry}
use Rattle.bsdl_device.specs.declared.registers.values.RegisterEntry.{RegisterEntry}
use Rattle.bsdl_device.specs.Rules.{registers_fail}
use Rattle.bsdl_values.proofs.registers.parse.registers_break_rules.Goals as goal

pub returns : goal.returns
returns c =
    let wanted = c.args.parts.now.file.length.value in
    let found = c.args.found.now in
    c.registers_fail.ensures
    ∙ ap (λ (base : List OpcodeEntry). registers_fail wanted base c.as_slice-own.result.now c.as_slice-entries.result.now) c.as_slice-base.ensures
    ∙ ap (λ (own : List OpcodeEntry). registers_fail wanted found.contents.opcodes own c.as_slice-entries.result.now) c.as_slice-own.ensures
    ∙ ap (λ (entries : List RegisterEntry). registers_fail wanted found.contents.opcodes found.own entries) c.as_slice-entries.ensures
