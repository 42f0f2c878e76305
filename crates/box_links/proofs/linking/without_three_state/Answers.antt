use Rattle.std.proofs.Common.{sym, ◌∙◌}
use Rattle.list_laws.proofs.Options.{err_is}
use Rattle.box_links.specs.declared.fault.BoxLinkFault.TheVariants.{OutOfMemory}
use Rattle.box_links.specs.Steps.{IsToldOf}
use Rattle.box_links.specs.Steps.IsToldOf.{driven, short}
use Rattle.box_links.proofs.linking.without_three_state.Goals as goal

pub returns-in_err-bit-clause-fault : goal.returns-in_err-bit-clause-fault
returns-in_err-bit-clause-fault c = err_is c.from_residual.result OutOfMemory (IsToldOf c.args.linked) c.from_residual.ensures.1 short

pub returns-in-Some-clause-fault : goal.returns-in-Some-clause-fault
returns-in-Some-clause-fault c = driven (sym c.in_ok-bit.ensures ∙ c.in-Some.is)
