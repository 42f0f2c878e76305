use Rattle.std.proofs.Common.{◌≡◌, [], sym, subst}
use Rattle.verilog_tree.specs.Canonical.{canonical}
use Rattle.plan_texts.specs.Canonical.{canonical_plan}
use Rattle.command_faults.specs.declared.fault.Fault.{Fault}
use Rattle.command_faults.specs.declared.status.Status.TheVariants as status
use Rattle.command_faults.specs.Statuses.{status_of}
use Rattle.demo_chips.specs.Netlists.{demo_module}
use Rattle.demo_chips.specs.Plans.{demo_plan}
use Rattle.insert_command.proofs.Made.{demo_is}
use Rattle.insert_command.proofs.demo.demo_texts.inserted_demo.Goals as goal

pub returns-in-Ok-clause-made : goal.returns-in-Ok-clause-made
returns-in-Ok-clause-made c =
    let made = c.in-Ok.inserted in
    let i = c.in-Ok.ensures.inserted in
    demo_is c.demo_has_its_cells.ensures c.demo_chips_are_counted.ensures c.demo_plan_is_spelled.ensures.alone c.args.number made.verilog made.bsdl made.report c.requires.tree i
    (i.is.only (demo_module c.args.number) (c.canonical_texts_spell_their_trees.ensures (demo_module c.args.number) c.requires.tree))

pub returns-in-Err-clause-fault : goal.returns-in-Err-clause-fault
returns-in-Err-clause-fault c =
    subst (λ (f : Fault). status_of f ≡ status.Memory) (sym c.fault_of.ensures)
    (c.free_texts_want_memory.ensures [] (canonical (demo_module c.args.number)) (canonical_plan demo_plan) c.in-Err.fault
    (c.demo_texts_are_insertable.ensures c.args.number c.requires.number c.requires.tree c.requires.linkable) c.in-Err.ensures.fault)
