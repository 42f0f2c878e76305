use Rattle.conformance_report.proofs.Merged.{verdict_within}
use Rattle.conformance_report.proofs.checks.line_check.check_lines.Goals as goal

pub verdict_text-requires-clause-within : goal.verdict_text-requires-clause-within
verdict_text-requires-clause-within c =
    verdict_within c.args.linked.now c.args.lines.now c.in_ok-script.script.list c.in_ok-verdict.verdict c.requires c.in_ok-script.ensures.ok c.in_ok-verdict.ensures
