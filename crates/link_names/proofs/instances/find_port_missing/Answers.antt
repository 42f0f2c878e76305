use Rattle.std.proofs.Common.{ℕ, List, Some, sym, ap, ◌∙◌}
use Rattle.cell_library.specs.Library.{operand_ports}
use Rattle.link_model.specs.declared.fault.LinkFault.TheVariants.{PortMissing}
use Rattle.link_names.proofs.PortPlaces.{missing_next, missing_here}
use Rattle.link_names.proofs.instances.find_port_missing.Goals as goal

pub returns-then-not-is_connected : goal.returns-then-not-is_connected
returns-then-not-is_connected c =
    ap (λ (i : List ℕ). Some (PortMissing i c.in_ok-port.port)) c.in_ok-instance.ensures ∙ ap (λ (p : List ℕ). Some (PortMissing c.args.name.now p)) c.in_ok-port.ensures
    ∙ missing_here c.args.name.now c.args.links.now (operand_ports c.args.library.now c.args.kind) c.loop-place.place c.operand_port-port.result.now c.operand_port-port.ensures
    (sym c.is_connected.ensures ∙ c.if-not-is_connected.true) c.loop-place.invariant

pub loop-place-preserved : goal.loop-place-preserved
loop-place-preserved c =
    missing_next c.args.name.now c.args.links.now (operand_ports c.args.library.now c.args.kind) c.loop-place.place c.operand_port-port.result.now c.operand_port-port.ensures
    (sym c.is_connected.ensures ∙ c.if-not-is_connected.false) c.loop-place.invariant
