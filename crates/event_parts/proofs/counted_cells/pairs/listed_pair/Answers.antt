use Rattle.std.proofs.Common.{◌∙◌, refl, sym, subst, arith}
use Rattle.list_laws.proofs.Options.{some_same}
use Rattle.event_parts.specs.Pairs.{IsPair}
use Rattle.event_parts.proofs.Tables.{listed_at}
use Rattle.event_parts.proofs.counted_cells.pairs.listed_pair.Goals as goal

pub returns : goal.returns
returns c = λ pair is. subst (IsPair c.args.library.now _) (some_same _ pair _ refl is)
    (record { below = omega (arith, c.count.ensures.count, c.if-number-count.false); kind_is = listed_at c.args.number; gate = sym c.is_flop.ensures ∙ c.if-is_flop.false; plain = refl })
