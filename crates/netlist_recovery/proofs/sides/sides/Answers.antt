use Rattle.std.proofs.Common.{◌≡◌, List, Option, IfOk, subst}
use Rattle.strip_model.specs.declared.Side.{Side}
use Rattle.netlist_recovery.proofs.Walk.{before_tdo}
use Rattle.netlist_recovery.proofs.sides.sides.Goals as goal

pub returns : goal.returns
returns c =
    subst (λ (all : Option (List Side)). IfOk c.sides_before.result (λ found. found ≡ all))
    (before_tdo c.args.rows.now c.args.items.now c.front.result.now c.saturating_sub-left.result c.saturating_sub-left.ensures c.front.ensures) c.sides_before.ensures
