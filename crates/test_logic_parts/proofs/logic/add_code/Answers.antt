use Rattle.std.proofs.Common.{length, arith}
use Rattle.core_sides.proofs.stitched_netlist.Few.{ident_few}
use Rattle.test_logic_parts.proofs.LogicAdded.{ident_below, ident_room, no_code}
use Rattle.test_logic_parts.proofs.logic.add_code.Goals as goal

pub add_ident-requires-clause-nets : goal.add_ident-requires-clause-nets
add_ident-requires-clause-nets c = let few = ident_few c.args.user in let room = c.requires.nets in omega arith

pub add_ident-requires-clause-cells : goal.add_ident-requires-clause-cells
add_ident-requires-clause-cells c = let few = ident_few c.args.user in let room = c.requires.cells in omega arith

pub returns-in-Some-clause-below : goal.returns-in-Some-clause-below
returns-in-Some-clause-below c =
    let more = c.appended_count.ensures c.args.netlist.now c.add_ident.new.netlist _ _ c.add_ident.ensures.added in
    let low = c.requires.tdi in
    ident_below (length c.args.netlist.now.lists.nets) (length c.add_ident.new.netlist.lists.nets) c.args.instruction.now.user_on c.args.tdi c.args.user _ c.add_ident.result
    (omega arith) c.add_ident.ensures.last (omega arith)

pub returns-in-None-clause-added : goal.returns-in-None-clause-added
returns-in-None-clause-added c =
    no_code c.appended_none.ensures c.args.netlist.now c.args.tap.now c.args.instruction.now.ident_on c.args.instruction.now.user_on c.args.tdi c.args.user c.args.code c.in-None.is
    c.requires.dense

pub returns-in-Some-clause-cells_left : goal.returns-in-Some-clause-cells_left
returns-in-Some-clause-cells_left c =
    ident_room c.args.netlist.now c.add_ident.new.netlist c.args.tap.now c.args.instruction.now.ident_on c.args.instruction.now.user_on c.args.tdi c.args.user _ c.add_ident.ensures.added
