use Rattle.std.proofs.Common.{[], ◌∷◌, ◌++◌, filter, refl}
use Rattle.box_tables.specs.CutPorts.{is_of}
use Rattle.box_tables.proofs.Steps.{gathered_next, gathered_end, filter_step}
use Rattle.box_tables.proofs.port_table.add_ports.Goals as goal

pub loop-port-preserved : goal.loop-port-preserved
loop-port-preserved c =
    let test = is_of c.args.narrow in
    gathered_next (filter test) (λ p. filter test (p ∷ [])) (filter_step test) c.args.from.now c.loop-port.port-index c.port-item.result c.loop-port.list c.add_port.new.list (c.args.list.now ++ filter test c.args.from.now)
    c.loop-port-test.true c.port-item.is c.loop-port.invariant c.in_ok-add_port.ensures

pub returns : goal.returns
returns c =
    let test = is_of c.args.narrow in
    gathered_end (filter test) (λ p. filter test (p ∷ [])) (filter_step test) refl c.args.from.now c.loop-port.port-index c.loop-port.list (c.args.list.now ++ filter test c.args.from.now) c.loop-port-test.false c.loop-port.invariant
