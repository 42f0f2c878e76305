use Rattle.box_links.specs.Steps.IsToldAs.{short}
use Rattle.box_links.proofs.Faults.{loop_told, other_told}
use Rattle.box_links.proofs.linking.own_fault.Goals as goal

pub returns-in-OutOfMemory : goal.returns-in-OutOfMemory
returns-in-OutOfMemory c = short

pub returns-in-Loop : goal.returns-in-Loop
returns-in-Loop c = short

pub returns-in-Ok : goal.returns-in-Ok
returns-in-Ok c = loop_told c.args.origins.now c.args.fault c.as_slice.result.now c.in-Ok.numbers (cc) c.in-Ok.ensures

pub returns : goal.returns
returns c = other_told c.args.origins.now c.args.fault c.in_default.not-OutOfMemory c.in_default.not-Loop
