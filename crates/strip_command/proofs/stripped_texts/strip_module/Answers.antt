use Rattle.std.proofs.Common.{List, subst}
use Rattle.list_laws.proofs.Options.{err_is}
use Rattle.cell_library.specs.declared.listed.ListedCell.{ListedCell}
use Rattle.link_model.specs.Late.{IsLinkable}
use Rattle.command_faults.specs.declared.fault.Fault.TheVariants as fault
use Rattle.strip_command.specs.Faults.{StandsInInputs, StandsInTree}
use Rattle.strip_command.proofs.Made.{tree_stands}
use Rattle.strip_command.proofs.stripped_texts.strip_module.Goals as goal

pub returns-in_err-copy-clause-fault : goal.returns-in_err-copy-clause-fault
returns-in_err-copy-clause-fault c = λ net read.
    err_is c.from_residual.result fault.OutOfMemory (StandsInInputs c.args.library.now net c.args.bsdl) c.from_residual.ensures.1 tt

pub returns-in_err-can_be_linked-clause-fault : goal.returns-in_err-can_be_linked-clause-fault
returns-in_err-can_be_linked-clause-fault c = λ net read.
    let f = c.in_err-can_be_linked.field-0.0 in
    err_is c.from_residual-in_err-can_be_linked.result f (StandsInInputs c.args.library.now net c.args.bsdl) c.from_residual-in_err-can_be_linked.ensures.1
    (tree_stands c.args.library.now net c.args.bsdl c.args.tree.now f read
    (subst (λ (l : List ListedCell). StandsInTree l c.args.tree.now f) c.in_ok-copy.ensures c.in_err-can_be_linked.ensures.fault))

pub strip_linkable-requires-clause-linkable : goal.strip_linkable-requires-clause-linkable
strip_linkable-requires-clause-linkable c =
    subst (λ (l : List ListedCell). IsLinkable l c.args.tree.now) c.in_ok-copy.ensures c.in_ok-can_be_linked.ensures.linkable
