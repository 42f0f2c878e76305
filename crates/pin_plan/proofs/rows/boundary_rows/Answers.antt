use Rattle.std.proofs.Common.{◌≡◌, ◌∙◌, [], Bool, List, ap}
use Rattle.std.specs.Slice.Iter.{iter_rest}
use Rattle.std.specs.Iterator.Adapters.{zip_first, zip_second}
use Rattle.std.proofs.lemmas.Slice.Zip.{zip_end}
use Rattle.cell_library.specs.declared.codes.Opcode.{Opcode}
use Rattle.plan_fitting.specs.Rows.{rows_after, has_highz}
use Rattle.pin_plan.proofs.Zips.{rows_end}
use Rattle.pin_plan.proofs.rows.boundary_rows.Goals as goal

pub returns-clause-rows : goal.returns-clause-rows
returns-clause-rows c =
    let rest = c.iter.ensures.rest in
    let list = c.as_slice-2.ensures in
    let one = c.zip-line-items.ensures.first in
    let other = c.zip-line-items.ensures.second in
    let same = c.into_iter-line-iterator.ensures.into_iter_gives in
    let first : iter_rest (zip_first c.into_iter-line-iterator.result) ≡ c.args.plan.now.pins = cc in
    let second : iter_rest (zip_second c.into_iter-line-iterator.result) ≡ c.args.pins.now = cc in
    c.into_rows.ensures.rows
    ∙ rows_end c.args.plan.now.control c.has_highz-highz.result c.loop-line.rows _ c.args.plan.now.pins c.args.pins.now _
    (zip_end c.args.plan.now.pins c.args.pins.now c.loop-line.yielded c.into_iter-line-iterator.result c.loop-line.line-iterator c.next.new.self c.next.result first second c.loop-line.yielded_by c.in-None.is c.next.ensures.steps) c.loop-line.invariant
    ∙ ap (λ (b : Bool). rows_after c.args.plan.now.control b [] c.args.plan.now.pins c.args.pins.now) (c.has_highz-highz.ensures ∙ ap (λ (o : List Opcode). has_highz o) c.as_slice.ensures)
