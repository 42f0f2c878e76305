use Rattle.std.proofs.Common.{List, [], Option, ◌++◌, ◌∙◌, ap, sym}
use Rattle.std.specs.List.{cons_option}
use Rattle.bsdl_device.specs.declared.registers.values.TestRegister.{TestRegister}
use Rattle.bsdl_device.specs.RegistersSpelled.{register_of}
use Rattle.bsdl_checks.proofs.Next.{filter_map_item}
use Rattle.bsdl_checks.proofs.registers.registers.registers_of.Goals as goal

pub loop-entry-preserved : goal.loop-entry-preserved
loop-entry-preserved c =
    c.in_ok-push_some.ensures
    ∙ ap (λ (o : Option TestRegister). c.loop-entry.made ++ cons_option o []) c.in_ok-register.ensures
    ∙ ap (λ (m : List TestRegister). m ++ cons_option (register_of c.args.opcodes.now c.entry-item.result) []) c.loop-entry.invariant
    ∙ sym (filter_map_item (register_of c.args.opcodes.now) c.args.entries.now c.loop-entry.entry-index c.entry-item.result c.loop-entry-test.true c.entry-item.is)
