use Rattle.std.proofs.Common.{◌≡◌}
use Rattle.list_laws.proofs.Options.{err_is}
use Rattle.strip_model.specs.Answer.{IsNotInserted}
use Rattle.scan_strip.specs.declared.fault.StripFault.TheVariants.{NotInserted}
use Rattle.scan_strip.proofs.Whole.{stripped_tree}
use Rattle.scan_strip.proofs.answer.strip_found.Goals as goal

pub returns-in_err-gives-clause-refused : goal.returns-in_err-gives-clause-refused
returns-in_err-gives-clause-refused c =
    err_is c.from_residual.result c.in_err-gives.field-0.0 (λ f. f ≡ NotInserted → IsNotInserted c.args.library.now c.args.inserted.now c.args.device.now) c.from_residual.ensures.1 c.in_err-gives.ensures.refused

pub returns-clause-stripped : goal.returns-clause-stripped
returns-clause-stripped c =
    stripped_tree c.recovered_is_the_netlist.ensures c.args.library.now c.args.found.module c.args.found.plan c.args.inserted.now c.args.device.now c.requires.core c.count-count.ensures.library
    c.requires.found c.in_ok-gives.ensures.gives
