use Rattle.std.proofs.Common.{◌∙◌, ◌++◌, ℕ, List, map, ap, sym, arith}
use Rattle.std.specs.Prelude.{slice_get}
use Rattle.hier_model.specs.Walks.{texts}
use Rattle.hier_model.specs.Names.{flat_bit}
use Rattle.hier_model.specs.Entries.{Place, place, bits_of, spread}
use Rattle.hier_flatten.specs.Joins.{inward_items}
use Rattle.hier_flatten.proofs.Joined.{in_step, in_end, count_is}
use Rattle.hier_flatten.proofs.joins.push_inwards.Goals as goal

pub loop-place-preserved : goal.loop-place-preserved
loop-place-preserved c =
    let outer : Place = place (texts c.args.sides.outer.now) c.args.sides.nets.now in
    let inner : Place = place (texts c.args.sides.inner.now) c.args.sides.child.now in
    let port = c.args.port.now in
    let operand = c.args.operand.now in
    let k = c.loop-place.place in
    in_step outer inner (bits_of port.name port.range) (spread c.args.sides.nets.now operand) k c.in_ok-output.output c.in_ok-input.input c.loop-place.items c.push.new.self (c.args.items.now ++ inward_items outer inner port operand)
    (ap (λ (n : List ℕ). slice_get (map (flat_bit (texts c.args.sides.inner.now)) (bits_of n port.range)) k) (sym c.as_bytes.ensures) ∙ c.in_ok-output.ensures)
    c.in_ok-input.ensures c.loop-place.invariant c.in_ok-push.ensures.ok

pub returns : goal.returns
returns c =
    let outer : Place = place (texts c.args.sides.outer.now) c.args.sides.nets.now in
    let inner : Place = place (texts c.args.sides.inner.now) c.args.sides.child.now in
    let port = c.args.port.now in
    let operand = c.args.operand.now in
    let nets = c.args.sides.nets.now in
    let count = count_is nets port.name port.range operand c.width_of.result c.bit_count.result c.min-count.result c.width_of.ensures c.bit_count.ensures c.min-count.ensures in
    let last = c.loop-place-test.false in
    in_end outer inner (bits_of port.name port.range) (spread nets operand) c.loop-place.place c.loop-place.items (c.args.items.now ++ inward_items outer inner port operand) (omega (arith, count, last)) c.loop-place.invariant
