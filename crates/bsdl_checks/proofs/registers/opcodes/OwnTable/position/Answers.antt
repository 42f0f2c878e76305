use Rattle.std.proofs.Common.{List, position, ◌∙◌, ap}
use Rattle.bsdl_lexicon.specs.Names.{is_same_name}
use Rattle.bsdl_device.specs.declared.registers.values.RegisterEntry.{RegisterEntry}
use Rattle.bsdl_checks.proofs.registers.opcodes.OwnTable.position.Goals as goal

pub returns : goal.returns
returns c =
    c.copied.ensures ∙ c.get.ensures.value ∙ c.self.invariant.places c.args.name.now
    ∙ ap (λ (list : List RegisterEntry). position (λ (e : RegisterEntry). is_same_name c.args.name.now e.instruction) list) c.self.view_is
