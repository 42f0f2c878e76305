use Rattle.std.proofs.Common.{List, ◌∙◌, ap}
use Rattle.bsdl_device.specs.declared.entries.OpcodeEntry.{OpcodeEntry}
use Rattle.bsdl_device.specs.declared.entries.Contents.{Contents}
use Rattle.bsdl_device.specs.declared.registers.values.RegisterEntry.{RegisterEntry}
use Rattle.bsdl_device.specs.Rules.{own_opcodes, base_opcodes}
use Rattle.bsdl_checks.proofs.registers.opcodes.part_contents.Goals as goal

-- the contents with other opcodes
abbrev with_opcodes : Contents → List OpcodeEntry → Contents
with_opcodes c opcodes = record { pin_map = c.pin_map; opcodes = opcodes; capture = c.capture; idcode = c.idcode; usercode = c.usercode; access = c.access; rows = c.rows }

pub returns-clause-base : goal.returns-clause-base
returns-clause-base c =
    ap (with_opcodes c.args.contents) (
    c.in_ok-base.ensures
    ∙ ap (λ (es : List RegisterEntry). base_opcodes es c.as_slice-all.result.now) c.in_ok-table.ensures
    ∙ ap (base_opcodes c.args.entries.now) c.as_slice-all.ensures
    )

pub returns-clause-own : goal.returns-clause-own
returns-clause-own c =
    c.in_ok-own.ensures
    ∙ ap (λ (es : List RegisterEntry). own_opcodes es c.as_slice-all.result.now) c.in_ok-table.ensures
    ∙ ap (own_opcodes c.args.entries.now) c.as_slice-all.ensures
