use Rattle.std.proofs.Common.{List, ◌∙◌, ap}
use Rattle.bsdl_device.specs.declared.entries.OpcodeEntry.{OpcodeEntry}
use Rattle.bsdl_device.specs.declared.registers.values.RegisterEntry.{RegisterEntry}
use Rattle.bsdl_values.specs.BaseFile.{registers_for}
use Rattle.bsdl_values.proofs.registers.parse.registers_in.Goals as goal

pub returns : goal.returns
returns c =
    c.in_ok-made.ensures
    ∙ ap (λ (own : List OpcodeEntry). registers_for c.as_slice-entries.result.now own) c.as_slice-own.ensures
    ∙ ap (λ (entries : List RegisterEntry). registers_for entries c.args.found.now.own) c.as_slice-entries.ensures
