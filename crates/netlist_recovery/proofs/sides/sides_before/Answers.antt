use Rattle.std.proofs.Common.{rules, ◌≡◌, ◌∙◌}
use Rattle.netlist_recovery.proofs.Walk.{turn, no_turn}
use Rattle.netlist_recovery.proofs.sides.sides_before.Goals as goal

pub returns-in-None : goal.returns-in-None
returns-in-None c =
    no_turn c.args.rows.now c.args.items.now c.front.result.now c.loop-number.found c.loop-number.left c.loop-number.number c.row_at-row.result c.in_ok-stand.field-0
    c.loop-number.invariant.1 c.row_at-row.ensures c.front.ensures c.in_ok-stand.ensures c.in-None.is

pub loop-number-preserved : goal.loop-number-preserved
loop-number-preserved c =
    let on = turn c.args.rows.now c.args.items.now c.front.result.now c.loop-number.found c.loop-number.left c.loop-number.number c.row_at-row.result c.in-Some.stand c.in_ok-stand.field-0
    c.loop-number.invariant.0 c.loop-number.invariant.1 c.row_at-row.ensures c.front.ensures c.in_ok-stand.ensures c.in-Some.is in
    let left = c.saturating_sub-left.ensures in
    let pushed = c.in_ok-push_side-in-Some.ensures in
    let fits = c.loop-number.invariant.0 in
    search (rules, on, left, pushed, fits)
