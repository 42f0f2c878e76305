use Rattle.std.proofs.Common.{refl, rules, subst}
use Rattle.list_laws.proofs.Options.{some_same}
use Rattle.event_turns.specs.Circuits.{IsPairOf}
use Rattle.event_turns.proofs.rows.row_of.Goals as goal

pub returns-in-Some-Net-Some : goal.returns-in-Some-Net-Some
returns-in-Some-Net-Some c = λ pair is.
    subst (IsPairOf c.args.library.now c.args.feeds.now c.args.sides.now c.args.gate _) (some_same c.in-Some-Net-Some.pair pair _ refl is) (record {
      kind_is = c.pair_of.ensures c.in-Some-Net-Some.pair c.in-Some-Net-Some.is-0;
      feeds_are = search rules;
      output_is = c.in-Some-Net-Some.is-2;
      plain = search rules;
    })
