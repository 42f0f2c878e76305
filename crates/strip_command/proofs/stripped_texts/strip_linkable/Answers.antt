use Rattle.list_laws.proofs.Options.{err_is}
use Rattle.command_edges.proofs.Results.{err_weaker}
use Rattle.command_faults.specs.declared.fault.Fault.TheVariants as fault
use Rattle.strip_command.specs.Faults.{StandsInBoth, StandsInInputs}
use Rattle.strip_command.proofs.Made.{both_stands, device_stands}
use Rattle.strip_command.proofs.stripped_texts.strip_linkable.Goals as goal

pub returns-in_err-device-clause-fault : goal.returns-in_err-device-clause-fault
returns-in_err-device-clause-fault c = λ net read.
    err_is c.from_residual.result (fault.Device c.in_err-device.field-0.0) (StandsInInputs c.args.library.now net c.args.bsdl) c.from_residual.ensures.1
    (device_stands c.args.library.now net c.args.bsdl c.args.tree.now c.in_err-device.field-0.0 read c.requires.linkable c.in_err-device.ensures.fault)

pub returns-clause-made : goal.returns-clause-made
returns-clause-made c = λ net read. c.strip_both.ensures.made net c.args.bsdl read c.requires.linkable c.in_ok-device.ensures.read

pub returns-clause-fault : goal.returns-clause-fault
returns-clause-fault c = λ net read.
    err_weaker c.strip_both.result (StandsInBoth c.args.library.now c.args.tree.now c.in_ok-device.device) (StandsInInputs c.args.library.now net c.args.bsdl)
    (λ f bad. both_stands c.args.library.now net c.args.bsdl c.args.tree.now c.in_ok-device.device f read c.requires.linkable c.in_ok-device.ensures.read bad)
    c.strip_both.ensures.fault
