use Rattle.std.proofs.Common.{arith}
use Rattle.strip_model.specs.Plans.{line_of}
use Rattle.netlist_recovery.proofs.Found.{one_more, not_found, all_are}
use Rattle.netlist_recovery.proofs.tap_lines.lines_of.Goals as goal

pub returns-in-None : goal.returns-in-None
returns-in-None c =
    not_found line_of c.args.ports.now c.loop-port.found c.loop-port.port-index c.port-item.result c.in_ok-line.field-0 c.loop-port-test.true c.port-item.is c.in_ok-line.ensures c.in-None.is c.loop-port.invariant

pub loop-port-preserved : goal.loop-port-preserved
loop-port-preserved c =
    one_more line_of c.args.ports.now c.loop-port.found c.push.new.self c.loop-port.port-index c.port-item.result c.in-Some.line c.in_ok-line.field-0 c.loop-port-test.true c.port-item.is c.in_ok-line.ensures
    c.in-Some.is c.in_ok-push-in-Some.ensures.ok c.loop-port.invariant

pub returns : goal.returns
returns c = all_are line_of c.args.ports.now c.loop-port.found c.loop-port.port-index (omega arith) c.loop-port.invariant
