use Rattle.std.proofs.Common.{◌≡◌}
use Rattle.std.specs.Slice.Iter.{iter_rest}
use Rattle.std.specs.Iterator.Adapters.{zip_first, zip_second}
use Rattle.std.proofs.lemmas.Slice.Zip.{zip_end}
use Rattle.pin_plan.proofs.Zips.{suited_end}
use Rattle.pin_plan.proofs.cells.find_unsuited.Goals as goal

pub returns : goal.returns
returns c =
    let rest = c.iter.ensures.rest in
    let one = c.zip-line-items.ensures.first in
    let other = c.zip-line-items.ensures.second in
    let same = c.into_iter-line-iterator.ensures.into_iter_gives in
    let first : iter_rest (zip_first c.into_iter-line-iterator.result) ≡ c.args.lines.now = cc in
    let second : iter_rest (zip_second c.into_iter-line-iterator.result) ≡ c.args.pins.now = cc in
    suited_end _ c.args.lines.now c.args.pins.now _ (zip_end c.args.lines.now c.args.pins.now c.loop-line.yielded c.into_iter-line-iterator.result c.loop-line.line-iterator c.next.new.self c.next.result first second c.loop-line.yielded_by c.in-None.is c.next.ensures.steps) c.loop-line.invariant
