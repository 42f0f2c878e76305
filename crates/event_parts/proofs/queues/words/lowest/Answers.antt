use Rattle.std.proofs.Common.{◌≡◌, ◌<◌, ◌≤◌, ◌^◌, arith, get_or}
use Rattle.std.proofs.lemmas.Nat.{trailing_le}
use Rattle.event_parts.proofs.QueuesBits.{low_set, low_least, low_there, trailing_small, inside}
use Rattle.event_parts.proofs.queues.words.lowest.Goals as goal

pub overflow_add-result : goal.overflow_add-result
overflow_add-result c =
    let below = inside c.args.words.now c.args.place c.requires.some in
    omega (arith, trailing_le 64 (get_or c.args.words.now c.args.place 0))

pub returns-clause-there : goal.returns-clause-there
returns-clause-there c = low_there _ _ (trailing_small c.args.words.now c.args.place c.requires.some (c.type_inv.words c.args.place).fits)

pub returns-clause-set : goal.returns-clause-set
returns-clause-set c = low_set c.args.words.now c.args.place c.requires.some (c.type_inv.words c.args.place).fits

pub returns-clause-least : goal.returns-clause-least
returns-clause-least c = low_least c.args.words.now c.args.place c.requires.some (c.type_inv.words c.args.place).fits
