use Rattle.std.proofs.Common.{ap, length, rules, ◌∙◌, arith}
use Rattle.scan_programs.proofs.Rows.{are_in_range, few_cells, few_ports}
use Rattle.scan_programs.proofs.Opened.{length_kinds}
use Rattle.scan_programs.proofs.bench.Bench.new.Goals as goal

pub readers-requires : goal.readers-requires
readers-requires c = let few = few_ports c.args.device.now c.requires in omega (arith, few)

pub invariant_of-result : goal.invariant_of-result
invariant_of-result c = record {
  logic = c.in_ok-new.ensures.logic;
  readers_are = c.in_ok-readers.ensures;
  idle_fits = search rules;
  kinds_fit = ap (λ l. length l.kinds) c.in_ok-new.ensures.logic ∙ length_kinds c.args.device.now;
  rows = are_in_range c.args.device.now c.requires;
  few = (let few = few_cells c.args.device.now c.requires in omega (arith, few));
  few_ports = (let few = few_ports c.args.device.now c.requires in omega (arith, few));
}
