use Rattle.std.proofs.Common.{get_or, refl}
use Rattle.std.proofs.lemmas.Option.{slice_get-get_or}
use Rattle.core_sides.specs.Pins.{between}
use Rattle.test_logic_parts.proofs.RowSteps.{blank_row, inout_added}
use Rattle.test_logic_parts.proofs.rows.add_inout.Goals as goal

pub returns-clause-added : goal.returns-clause-added
returns-clause-added c =
    let named = rw c.in-Some.is at c.requires.joined.ready.control in
    inout_added c.args.netlist.now c.add_bidir_cell.new.netlist (between c.args.netlist.now.lists.ports c.args.rows.now c.args.first) c.args.scan.now c.args.at.side.0 c.in-Some.number
    c.args.row.now (get_or c.args.rows.now c.in-Some.number blank_row) c.args.at.net c.args.at.next c.core_feed-core.result c.core_feed-enable.result _ c.in-Some.is
    (slice_get-get_or c.args.rows.now c.in-Some.number blank_row named) c.core_feed-core.ensures.value c.core_feed-enable.ensures.value refl c.requires.joined.net_is c.add_bidir_cell.ensures.added
