use Rattle.std.proofs.Common.{◌∙◌, ap, is_some}
use Rattle.bsdl_lexicon.specs.Names.{is_same_name}
use Rattle.bsdl_device.specs.declared.registers.values.RegisterEntry.{RegisterEntry}
use Rattle.bsdl_checks.proofs.Tables.{place_is_any}
use Rattle.bsdl_checks.proofs.registers.opcodes.OwnTable.has.Goals as goal

pub returns : goal.returns
returns c = c.is_some.ensures ∙ ap is_some c.position.ensures ∙ place_is_any (λ (e : RegisterEntry). is_same_name c.args.name.now e.instruction) c.args.self.now
