use Rattle.std.proofs.Common.{◌∙◌, ap, arith}
use Rattle.list_laws.proofs.Lists.{front_all}
use Rattle.link_names.specs.CellNumbers.{numbers_in, numbered_from}
use Rattle.link_names.proofs.CellNumbers.{next_is_new, numbered_more}
use Rattle.link_names.proofs.cell_numbers.numbers_of.Goals as goal

pub enter-requires : goal.enter-requires
enter-requires c =
    next_is_new c.args.library.now c.loop-number.number c.cell.result.now c.as_bytes.result.now (numbers_in c.loop-number.numbers) c.count-bound.ensures.library c.cell.ensures c.as_bytes.ensures c.loop-number.invariant

pub loop-number-preserved : goal.loop-number-preserved
loop-number-preserved c =
    numbered_more c.args.library.now c.loop-number.number c.cell.result.now c.as_bytes.result.now (numbers_in c.loop-number.numbers) (numbers_in c.enter.new.numbers) c.cell.ensures c.as_bytes.ensures c.loop-number.invariant
    c.in_ok-enter.ensures

pub returns : goal.returns
returns c = c.loop-number.invariant ∙ ap (numbered_from 0) (front_all c.args.library.now c.loop-number.number (omega arith))
