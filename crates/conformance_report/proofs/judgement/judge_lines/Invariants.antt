use Rattle.std.proofs.Common.{◌≡◌, ◌≤◌, true}
use Rattle.netlist_meaning.specs.Sims.{moment_of}
use Rattle.conformance_report.proofs.Played.{IsJudged}
use Rattle.conformance_report.proofs.judgement.judge_lines.Given as goal

abbrev pub invariant-loop-line : goal.invariant-loop-line
invariant-loop-line g l = record {
  linked : l.sim.linked ≡ l.linked;
  started : l.sim.started ≡ true;
  judged : IsJudged l.linked.arena.lists l.script l.line-index (moment_of l.sim.moment) l.verdict;
  sets_few : l.verdict.sets ≤ l.line-index;
  met_few : l.verdict.met ≤ l.line-index;
}
