use Rattle.std.proofs.Common.{◌/◌, arith}
use Rattle.event_parts.proofs.QueuesBits.{sums_cleared_bit, some_word_before}
use Rattle.event_parts.proofs.queues.words.clear_below.Goals as goal

pub returns-else-low-number-eq0-clause-mid : goal.returns-else-low-number-eq0-clause-mid
returns-else-low-number-eq0-clause-mid c =
    sums_cleared_bit _ _ _ _ c.requires.mid c.requires.room c.clear_bit.ensures (omega arith)
    (some_word_before _ _ _ c.clear_bit.ensures (omega arith) (c.type_inv.low (c.args.number / 64)).fits)
