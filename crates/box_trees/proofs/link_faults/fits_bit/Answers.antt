use Rattle.std.proofs.Common.{◌∙◌}
use Rattle.box_trees.proofs.FitLinks.{fits_nothing, fits_something}
use Rattle.box_trees.proofs.link_faults.fits_bit.Goals as goal

pub returns-in-None : goal.returns-in-None
returns-in-None c = fits_nothing c.args.nets.now c.args.port.now c.args.bit.now c.as_bytes.result.now c.as_bytes.ensures c.in-None.ensures

pub returns-in-Some : goal.returns-in-Some
returns-in-Some c = c.fits_port.ensures ∙ fits_something c.args.nets.now c.args.port.now c.args.bit.now c.as_bytes.result.now c.in-Some.range c.as_bytes.ensures c.in-Some.ensures
