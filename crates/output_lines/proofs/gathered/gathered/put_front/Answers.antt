use Rattle.std.proofs.Common.{rules, arith, ◌∙◌, ap, length, drop, ◌-◌, length-drop}
use Rattle.std.proofs.lemmas.List.{length-take}
use Rattle.std.specs.Prelude.{take}
use Rattle.edge_io.specs.Shelf.{appended}
use Rattle.edge_io.proofs.Told.{appended-more}
use Rattle.output_lines.proofs.gathered.gathered.put_front.Goals as goal

pub loop-at-preserved : goal.loop-at-preserved
loop-at-preserved g c = record {
  same = c.put_named.ensures.same ∙ c.loop-at.invariant.same;
  within = omega (arith, c.in-Ok.ensures.count, length-take (length c.args.bytes.now - c.loop-at.at) (drop c.loop-at.at c.args.bytes.now), length-drop c.loop-at.at c.args.bytes.now);
  given = c.in-Ok.ensures.added
      ∙ ap (appended (take c.in-Ok.n (take (length c.args.bytes.now - c.loop-at.at) (drop c.loop-at.at c.args.bytes.now)))) c.loop-at.invariant.given
      ∙ appended-more (g.S.Named.given c.args.out.now) c.args.bytes.now c.loop-at.at c.in-Ok.n;
  later = search rules;
}
