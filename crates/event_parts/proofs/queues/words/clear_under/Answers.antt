use Rattle.std.proofs.Common.{◌/◌, arith}
use Rattle.event_parts.proofs.QueuesBits.{sums_cleared_bit, some_word_before}
use Rattle.event_parts.proofs.queues.words.clear_under.Goals as goal

pub returns-else-down-number-eq0-clause-sums : goal.returns-else-down-number-eq0-clause-sums
returns-else-down-number-eq0-clause-sums c =
    sums_cleared_bit _ _ _ _ c.requires.sums c.requires.room c.clear_bit.ensures (omega arith)
    (some_word_before _ _ _ c.clear_bit.ensures (omega arith) (c.type_inv.down (c.args.number / 64)).fits)
