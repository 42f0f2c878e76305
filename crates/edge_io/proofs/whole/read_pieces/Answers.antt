use Rattle.std.proofs.Common.{rules, arith, ◌∙◌, length, ◌≡◌, take, ◌++◌, ap, length-append}
use Rattle.std.proofs.lemmas.List.{length-take}
use Rattle.edge_io.proofs.Told.{IsFront-more}
use Rattle.edge_io.proofs.whole.read_pieces.Goals as goal

pub loop-n-preserved : goal.loop-n-preserved
loop-n-preserved g c =
    let more_is : c.append.new.self ≡ c.loop-n.text ++ take c.in-Ok.n c.read_at.new.into = c.in_default-append.ensures.ok in
    record {
      told = IsFront-more _ _ c.loop-n.text c.append.new.self c.read_at.new.into c.in-Ok.n c.in-Ok.ensures.count c.loop-n.invariant.told (c.loop-n.invariant.held c.args.name.now) (search rules) more_is;
      within = omega (arith, ap length more_is, length-append c.loop-n.text (take c.in-Ok.n c.read_at.new.into), length-take c.in-Ok.n c.read_at.new.into);
      room = omega arith;
      later = search rules;
      held = λ q. c.in-Ok.ensures.held q ∙ c.loop-n.invariant.held q;
      written = λ q. c.in-Ok.ensures.written q ∙ c.loop-n.invariant.written q;
    }
