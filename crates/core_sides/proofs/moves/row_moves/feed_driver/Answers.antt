use Rattle.std.proofs.Common.{arith}
use Rattle.std.proofs.lemmas.List.{length-set}
use Rattle.netlist_model.specs.declared.Feed.TheVariants.{Net}
use Rattle.netlist_arena.specs.Moves.{with_feed}
use Rattle.core_sides.proofs.Drivers.{driver_operands, operand_there, driver_kept, connected_twice}
use Rattle.core_sides.proofs.moves.row_moves.feed_driver.Goals as goal

pub connect-requires-clause-operand : goal.connect-requires-clause-operand
connect-requires-clause-operand c =
    let found = c.in-Cell.ensures.1 in
    let two = driver_operands c.args.netlist.now.lists c.args.net.0 c.in-Cell.gate.0 found.0 c.is_laid_out.ensures.driven_once c.requires.driver found.1 in
    operand_there c.args.netlist.now.lists c.args.net.0 c.in-Cell.gate.0 0 found.0 found.1 (omega (arith, two))

pub connect-requires-in-Cell-clause-operand : goal.connect-requires-in-Cell-clause-operand
connect-requires-in-Cell-clause-operand c =
    let found = c.in-Cell.ensures.1 in
    let two = driver_operands c.args.netlist.now.lists c.args.net.0 c.in-Cell.gate.0 found.0 c.is_laid_out.ensures.driven_once c.requires.driver found.1 in
    let kept = driver_kept c.args.netlist.now.lists c.args.net.0 c.in-Cell.gate.0 0 (Net c.args.value) found.0 found.1 in
    let as_many = length-set found.0.feeds 0 (Net c.args.value) in
    rw c.connect.ensures.lists (operand_there _ c.args.net.0 c.in-Cell.gate.0 1 (with_feed 0 (Net c.args.value) found.0) kept (omega (arith, two, as_many)))

pub returns-clause-lists : goal.returns-clause-lists
returns-clause-lists c =
    let found = c.in-Cell.ensures.1 in
    let two = driver_operands c.args.netlist.now.lists c.args.net.0 c.in-Cell.gate.0 found.0 c.is_laid_out.ensures.driven_once c.requires.driver found.1 in
    let both = connected_twice c.args.netlist.now.lists c.in-Cell.gate.0 found.0 c.args.net c.args.value c.args.level c.is_laid_out.ensures.driven_once found.1 two in
    rw (c.connect-in-Cell.ensures.lists, c.connect.ensures.lists) both
