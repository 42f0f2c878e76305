use Rattle.std.proofs.Common.{◌++◌, arith}
use Rattle.box_model.specs.Ports.{bits_of}
use Rattle.box_model.specs.Opened.{link_bits}
use Rattle.box_trees.specs.Opening.{assigns_of}
use Rattle.box_trees.proofs.Assigned.{assign_step, assign_end, count_is}
use Rattle.box_trees.proofs.assigns.push_assigns.Goals as goal

pub loop-place-preserved : goal.loop-place-preserved
loop-place-preserved c =
    let m = c.args.nets.now in
    let p = c.args.port.now in
    let o = c.args.operand.now in
    let name = c.args.hidden.now in
    assign_step p.dir (bits_of name p.range) (link_bits m p o) c.loop-place.place c.in_ok-bit.bit c.in_ok-other.other c.loop-place.items c.push_assign.new.items (c.args.items.now ++ assigns_of m name p o)
    c.in_ok-bit.ensures c.in_ok-other.ensures c.loop-place.invariant c.in_ok-push_assign.ensures

pub returns : goal.returns
returns c =
    let m = c.args.nets.now in
    let p = c.args.port.now in
    let o = c.args.operand.now in
    let name = c.args.hidden.now in
    let count = count_is m name p o c.width_of.result c.bit_count.result c.min-count.result c.width_of.ensures.value c.bit_count.ensures c.min-count.ensures in
    let last = c.loop-place-test.false in
    assign_end p.dir (bits_of name p.range) (link_bits m p o) c.loop-place.place c.loop-place.items (c.args.items.now ++ assigns_of m name p o) (omega (arith, count, last)) c.loop-place.invariant
