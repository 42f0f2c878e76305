use Rattle.std.proofs.Common.{◌∙◌, ◌++◌, ℕ, List, map, ap, sym, arith, append-nil}
use Rattle.std.specs.Prelude.{slice_get}
use Rattle.verilog_tree.specs.declared.tree.Operand.{Operand}
use Rattle.hier_model.specs.Walks.{texts}
use Rattle.hier_model.specs.Names.{flat_bit}
use Rattle.hier_model.specs.Entries.{Place, place, bits_of, spread}
use Rattle.hier_flatten.specs.Joins.{outward_items}
use Rattle.hier_flatten.proofs.Joined.{out_items, out_step, out_end, count_is}
use Rattle.hier_flatten.proofs.joins.push_outwards.Goals.{in-Bit+in_ok-push-in-Bit, in-Const}
use Rattle.hier_flatten.proofs.joins.push_outwards.Goals as goal

pub loop-place-preserved : goal.loop-place-preserved
loop-place-preserved c =
    let outer : Place = place (texts c.args.sides.outer.now) c.args.sides.nets.now in
    let inner : Place = place (texts c.args.sides.inner.now) c.args.sides.child.now in
    let port = c.args.port.now in
    let operand = c.args.operand.now in
    let k = c.loop-place.place in
    let input = c.in_ok-input.input in
    let made = out_step outer inner (bits_of port.name port.range) (spread c.args.sides.nets.now operand) k input c.in_ok-flat.flat c.loop-place.items c.match-flat.items (c.args.items.now ++ outward_items outer inner port operand)
    (ap (λ (n : List ℕ). slice_get (map (flat_bit (texts c.args.sides.inner.now)) (bits_of n port.range)) k) (sym c.as_bytes.ensures) ∙ c.in_ok-input.ensures)
    c.in_ok-flat.ensures c.loop-place.invariant in
    elim c.match-flat.branch [
      | in-Bit+in_ok-push-in-Bit w ↦ made (w.items-is ∙ w.in_ok-push-in-Bit.ensures.ok ∙ ap (λ (o : Operand). c.loop-place.items ++ out_items input o) (sym w.in-Bit.is))
      | in-Const w ↦ made (w.items-is ∙ sym (append-nil c.loop-place.items) ∙ ap (λ (o : Operand). c.loop-place.items ++ out_items input o) (sym w.in-Const.is))
    ]

pub returns : goal.returns
returns c =
    let outer : Place = place (texts c.args.sides.outer.now) c.args.sides.nets.now in
    let inner : Place = place (texts c.args.sides.inner.now) c.args.sides.child.now in
    let port = c.args.port.now in
    let operand = c.args.operand.now in
    let nets = c.args.sides.nets.now in
    let count = count_is nets port.name port.range operand c.width_of.result c.bit_count.result c.min-count.result c.width_of.ensures c.bit_count.ensures c.min-count.ensures in
    let last = c.loop-place-test.false in
    out_end outer inner (bits_of port.name port.range) (spread nets operand) c.loop-place.place c.loop-place.items (c.args.items.now ++ outward_items outer inner port operand) (omega (arith, count, last)) c.loop-place.invariant
