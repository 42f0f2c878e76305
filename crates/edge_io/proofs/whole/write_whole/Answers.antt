use Rattle.std.proofs.Common.{rules, arith, ◌∙◌, length, drop, ◌-◌, length-drop}
use Rattle.std.proofs.lemmas.List.{length-take}
use Rattle.edge_io.proofs.Told.{ChangesOne-more}
use Rattle.edge_io.proofs.whole.write_whole.Goals as goal

pub loop-at-preserved : goal.loop-at-preserved
loop-at-preserved g c = record {
  within = omega (arith, c.in-Ok-append.ensures.count, length-take (length c.args.text.now - c.loop-at.at) (drop c.loop-at.at c.args.text.now), length-drop c.loop-at.at c.args.text.now);
  written = ChangesOne-more g.S.Shelf.tells _ _ _ c.args.name.now c.args.text.now c.loop-at.at c.in-Ok-append.n c.loop-at.invariant.written c.in-Ok-append.ensures.added;
  later = search rules;
  held = λ q. c.in-Ok-append.ensures.held q ∙ c.loop-at.invariant.held q;
}
