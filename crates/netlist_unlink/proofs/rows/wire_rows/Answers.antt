use Rattle.std.proofs.Common.{ap}
use Rattle.netlist_unlink.proofs.RowLaws.{rows_more, followed, passed}
use Rattle.netlist_unlink.proofs.rows.wire_rows.Goals as goal
use Rattle.netlist_unlink.proofs.rows.wire_rows.Goals.{in-Some+in_ok-follow-in-Some, in-None}

pub loop-number-preserved : goal.loop-number-preserved
loop-number-preserved c =
    rows_more c.args.linked.now.arena.lists.ports c.args.linked.now.arena.lists.nets c.loop-number.number c.net_row.result c.loop-number.last c.match-net_row.last
    c.loop-number.rows.items c.match-net_row.rows.items c.net_row.ensures c.loop-number.invariant
    (elim c.match-net_row.branch [
      | in-Some+in_ok-follow-in-Some w ↦ followed c.loop-number.rows.items c.match-net_row.rows.items c.loop-number.last c.match-net_row.last c.net_row.result w.in-Some.next w.in_ok-follow-in-Some.field-0
          w.in-Some.is w.last-is (λ rest. let step = w.in_ok-follow-in-Some.ensures rest in let rows = w.rows-is in cc)
      | in-None w ↦ passed c.loop-number.rows.items c.match-net_row.rows.items c.loop-number.last c.match-net_row.last c.net_row.result w.in-None.is (ap (λ v. v.items) w.rows-is) w.last-is
    ])
