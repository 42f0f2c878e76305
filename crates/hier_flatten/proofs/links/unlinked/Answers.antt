use Rattle.std.proofs.Common.{◌+◌, drop, ◌∙◌, sym}
use Rattle.texts.specs.Repeated.{seen}
use Rattle.hier_flatten.proofs.LinkChecks.{left_next, open_found, open_next}
use Rattle.hier_flatten.proofs.links.unlinked.Goals as goal

pub returns-then-is_open : goal.returns-then-is_open
returns-then-is_open c =
    let ports = c.args.ports.now in
    let i = c.loop-port.port-index in
    let port = c.port-item.result in
    open_found (seen c.args.names.now) port (drop i ports) (drop (i + 1) ports) c.as_bytes.result.now c.is_open.result (left_next ports i port c.loop-port-test.true c.port-item.is) c.is_open.ensures c.if-is_open.true c.as_bytes.ensures
    ∙ c.loop-port.invariant

pub loop-port-preserved : goal.loop-port-preserved
loop-port-preserved c =
    let ports = c.args.ports.now in
    let i = c.loop-port.port-index in
    let port = c.port-item.result in
    sym (open_next (seen c.args.names.now) port (drop i ports) (drop (i + 1) ports) c.is_open.result (left_next ports i port c.loop-port-test.true c.port-item.is) c.is_open.ensures c.if-is_open.false)
    ∙ c.loop-port.invariant
