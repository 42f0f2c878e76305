use Rattle.std.proofs.Common.{◌∙◌, ◌++◌, ◌∷◌, [], List, map, ap, arith}
use Rattle.list_laws.proofs.Lists.{front_all}
use Rattle.box_model.specs.declared.boxes.BoxPort.{BoxPort}
use Rattle.box_model.specs.Ports.{given_scalar}
use Rattle.box_tables.specs.CutPorts.{cut_in_flop}
use Rattle.box_tables.proofs.Steps.{mapped_more}
use Rattle.box_tables.proofs.table.output_tables.Goals as goal

pub loop-number-preserved : goal.loop-number-preserved
loop-number-preserved c =
    mapped_more cut_in_flop c.args.cells.now c.loop-number.number c.cell.result.now c.loop-number.tables c.push.new.self c.cell.ensures c.loop-number.invariant
    (c.in_ok-push.ensures.ok ∙ ap (λ (x : List BoxPort). c.loop-number.tables ++ x ∷ []) (c.in_ok-of_output.ensures ∙ ap given_scalar c.as_bytes.ensures))

pub returns : goal.returns
returns c = c.loop-number.invariant ∙ ap (map cut_in_flop) (front_all c.args.cells.now c.loop-number.number (omega arith))
