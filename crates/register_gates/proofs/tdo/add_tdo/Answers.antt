use Rattle.std.proofs.Common.{arith, length}
use Rattle.netlist_model.specs.Lists.{cell_count}
use Rattle.register_gates.specs.declared.tdo.TheConstants.{TDO}
use Rattle.register_gates.proofs.TdoAdded.{handed, ident_below, handed_below, driver_below, one_left, tdo_added}
use Rattle.register_gates.proofs.tdo.add_tdo.Goals as goal

pub add_part-bits-requires-clause-given : goal.add_part-bits-requires-clause-given
add_part-bits-requires-clause-given c = handed_below (length c.args.netlist.now.lists.nets) c.args.tap.now c.args.instruction.now c.args.bypass c.feed_of_ident-ident_bit.result c.args.boundary
    c.requires.clock c.requires.steps c.requires.last c.requires.selections c.requires.bits
    (ident_below _ c.args.ident c.feed_of_ident-ident_bit.result c.feed_of_ident-ident_bit.ensures c.requires.ident)

pub add_driver-requires-clause-cells : goal.add_driver-requires-clause-cells
add_driver-requires-clause-cells c = one_left c.args.netlist.now c.add_part-bits.new.netlist
    (handed c.args.tap.now c.args.instruction.now c.args.bypass c.feed_of_ident-ident_bit.result c.args.boundary) c.add_part-bits.ensures.added c.requires.cells

pub add_driver-requires-clause-feeds : goal.add_driver-requires-clause-feeds
add_driver-requires-clause-feeds c = driver_below (length c.args.netlist.now.lists.nets) _ c.add_part-bits.result c.add_part-bits.ensures.first
    (c.appended_count.ensures c.args.netlist.now c.add_part-bits.new.netlist 6 _ c.add_part-bits.ensures.added)

pub add_driver-requires-clause-there : goal.add_driver-requires-clause-there
add_driver-requires-clause-there c =
    let more = c.appended_count.ensures c.args.netlist.now c.add_part-bits.new.netlist 6 _ c.add_part-bits.ensures.added in omega (arith, c.requires.there)

pub add_driver-requires-clause-free : goal.add_driver-requires-clause-free
add_driver-requires-clause-free c =
    c.part_leaves_free_nets.ensures c.args.netlist.now c.add_part-bits.new.netlist 6 TDO
    (handed c.args.tap.now c.args.instruction.now c.args.bypass c.feed_of_ident-ident_bit.result c.args.boundary) (length c.args.netlist.now.lists.nets) (cell_count c.args.netlist.now.lists) c.add_part-bits.ensures.added
    c.args.tdo.0 c.requires.there c.requires.free

pub returns-clause-added : goal.returns-clause-added
returns-clause-added c = tdo_added c.appended_count.ensures c.appended_more.ensures c.args.netlist.now c.add_part-bits.new.netlist c.add_driver.new.netlist
    c.args.tap.now c.args.instruction.now c.args.bypass c.args.ident c.args.boundary c.args.tdo c.feed_of_ident-ident_bit.result c.add_part-bits.result
    c.feed_of_ident-ident_bit.ensures c.add_part-bits.ensures.first c.add_part-bits.ensures.added c.add_driver.ensures.added
