use Rattle.std.proofs.Common.{subst, sym}
use Rattle.scan_vectors.specs.Scripts.{IsScriptFault}
use Rattle.conformance_report.specs.Rules.{IsIllegalAt}
use Rattle.conformance_report.proofs.Earliest.{tap_first, lesser_first}
use Rattle.conformance_report.proofs.checks.legal.resolve_both.Goals as goal

pub returns-in-Some-clause-fault : goal.returns-in-Some-clause-fault
returns-in-Some-clause-fault c = tap_first c.args.linked.now c.args.device.now c.args.lines.now c.in-Some.line c.in-Ok.ensures.ok.legal c.in-Some.ensures

pub returns-in-Err-EventIllegal-clause-fault : goal.returns-in-Err-EventIllegal-clause-fault
returns-in-Err-EventIllegal-clause-fault c =
    let bad = subst (IsScriptFault c.args.linked.now c.args.lines.now) c.in-Err-EventIllegal.field-0-is c.in-Err-EventIllegal.ensures.fault in
    subst (IsIllegalAt c.args.linked.now c.args.device.now c.args.lines.now) (sym c.lesser.ensures)
    (lesser_first c.args.linked.now c.args.device.now c.args.lines.now c.first_break-first.result c.in-Err-EventIllegal.line c.requires c.first_break-first.ensures bad)
