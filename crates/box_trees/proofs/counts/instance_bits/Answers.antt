use Rattle.std.proofs.Common.{◌∙◌}
use Rattle.box_model.specs.Counts.{parted_at}
use Rattle.box_trees.proofs.Excess.{saturated_next}
use Rattle.box_trees.proofs.counts.instance_bits.Goals as goal

pub port_bits-requires : goal.port_bits-requires
port_bits-requires c = c.in_ok-links.ensures ∙ c.as_slice.ensures

pub loop-port-preserved : goal.loop-port-preserved
loop-port-preserved c =
    saturated_next (parted_at c.args.nets.now c.args.instance.now) c.args.ports.now c.loop-port.port-index c.port-item.result c.loop-port.bits c.in_ok-port_bits.field-0 c.saturating_add-bits.result c.loop-port-test.true c.port-item.is c.loop-port.invariant
    c.in_ok-port_bits.ensures c.saturating_add-bits.ensures
