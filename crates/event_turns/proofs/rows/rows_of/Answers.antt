use Rattle.std.proofs.Common.{ap, ◌∙◌, arith}
use Rattle.std.specs.Prelude.{slice_get}
use Rattle.std.proofs.lemmas.Option.{slice_get-get_or}
use Rattle.event_turns.proofs.TurnPairs.{rows_pushed}
use Rattle.event_turns.proofs.rows.rows_of.Goals as goal

pub row_of-requires : goal.row_of-requires
row_of-requires c = c.requires c.loop-gate.gate-index _ (slice_get-get_or c.args.gates.now c.loop-gate.gate-index _ c.loop-gate-test.true)

pub loop-gate-preserved : goal.loop-gate-preserved
loop-gate-preserved c =
    let i = c.loop-gate.invariant in
    let stands = slice_get-get_or c.args.gates.now c.loop-gate.gate-index _ c.loop-gate-test.true in
    record {
      long = (let long = i.long in let pushed = c.in_ok-push.ensures.len in omega arith);
      upto = omega (arith, c.loop-gate-test.true);
      each = rows_pushed c.args.library.now c.args.feeds.now c.args.sides.now c.args.gates.now c.loop-gate.rows.items c.push.new.self.items _ c.row_of.result (ap (slice_get c.args.gates.now) i.long ∙ stands) c.in_ok-push.ensures.items c.row_of.ensures i.each;
    }

pub returns : goal.returns
returns c =
    let i = c.loop-gate.invariant in
    record {
      long = (let long = i.long in let upto = i.upto in omega (arith, c.loop-gate-test.false));
      each = i.each;
    }
