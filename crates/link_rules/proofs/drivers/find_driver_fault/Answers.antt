use Rattle.std.proofs.Common.{arith}
use Rattle.link_rules.proofs.Breaks.{first_rule}
use Rattle.link_rules.proofs.drivers.find_driver_fault.Goals as goal

pub returns : goal.returns
returns c =
    let uses = c.in_ok-uses.ensures in
    let same = first_rule c.args.cells.now c.in_ok-uses.uses.items c.args.nets.now uses.length uses.each in
    grind (arith, same, c.first_broken.ensures, c.deref.ensures.value)
