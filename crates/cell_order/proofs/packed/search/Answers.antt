use Rattle.std.proofs.Common.{◌≡◌, ◌<◌, ◌∙◌, sym, ap, length}
use Rattle.std.proofs.lemmas.List.{length-map}
use Rattle.std.proofs.lemmas.Option.{slice_get-get_or}
use Rattle.list_laws.proofs.Lists.{front_of}
use Rattle.netlist_model.specs.Orders.{IsCellOrder, StandsAt}
use Rattle.cell_order.specs.Packed.{AreLiveCells, cell_under, packed}
use Rattle.cell_order.specs.Walk.{IsClosed}
use Rattle.cell_order.proofs.PackedNetlist.{order_inside, packed_closed, packed_dense, packed_order, path_inside}
use Rattle.cell_order.proofs.packed.search.Goals as goal

pub note_drivers-requires-clause-dense : goal.note_drivers-requires-clause-dense
note_drivers-requires-clause-dense c =
    let all : AreLiveCells c.args.netlist.now.lists c.as_slice-cells.result.now = rw c.as_slice-cells.ensures.value c.note_cells.ensures.all in
    rw c.new-packed.ensures (packed_dense c.args.netlist.now.lists c.as_slice-cells.result.now all)

pub order_cells-requires-clause-dense : goal.order_cells-requires-clause-dense
order_cells-requires-clause-dense c =
    let all : AreLiveCells c.args.netlist.now.lists c.as_slice-cells.result.now = rw c.as_slice-cells.ensures.value c.note_cells.ensures.all in
    rw c.new-packed.ensures (packed_dense c.args.netlist.now.lists c.as_slice-cells.result.now all)

pub unpack-requires : goal.unpack-requires
unpack-requires c =
    let N = c.args.netlist.now.lists in
    let ids = c.as_slice-cells.result.now in
    let ordered : IsCellOrder (packed N ids) c.as_mut_slice.result.now = rw (c.as_mut_slice.ensures.value, ← c.new-packed.ensures) c.in-None.ensures.found in
    order_inside N ids c.as_mut_slice.result.now ordered

pub unpack-requires-in-Some : goal.unpack-requires-in-Some
unpack-requires-in-Some c =
    let N = c.args.netlist.now.lists in
    let ids = c.as_slice-cells.result.now in
    let closed : IsClosed (packed N ids) c.as_mut_slice-in-Some.result.now c.in-Some.on.0 = rw (c.as_mut_slice-in-Some.ensures.value, ← c.new-packed.ensures) c.in-Some.ensures.found in
    path_inside N ids c.as_mut_slice-in-Some.result.now c.in-Some.on.0 closed

pub bounds-cells-on : goal.bounds-cells-on
bounds-cells-on c =
    let N = c.args.netlist.now.lists in
    let ids = c.as_slice-cells.result.now in
    let closed : IsClosed (packed N ids) c.as_mut_slice-in-Some.result.now c.in-Some.on.0 = rw (c.as_mut_slice-in-Some.ensures.value, ← c.new-packed.ensures) c.in-Some.ensures.found in
    path_inside N ids c.as_mut_slice-in-Some.result.now c.in-Some.on.0 closed closed.there.place c.in-Some.on.0 closed.there.there

pub returns-in-None-clause-found : goal.returns-in-None-clause-found
returns-in-None-clause-found c =
    let N = c.args.netlist.now.lists in
    let ids = c.as_slice-cells.result.now in
    let all : AreLiveCells N ids = rw c.as_slice-cells.ensures.value c.note_cells.ensures.all in
    let ordered : IsCellOrder (packed N ids) c.as_mut_slice.result.now = rw (c.as_mut_slice.ensures.value, ← c.new-packed.ensures) c.in-None.ensures.found in
    let whole : c.order_cells.new.walk.order.len ≡ length c.unpack.new.order =
    sym c.as_mut_slice.ensures.len ∙ sym (ap length c.unpack.ensures ∙ length-map c.as_mut_slice.result.now (cell_under ids)) in
    rw (front_of c.unpack.new.order _ c.order_cells.new.walk.order.len whole) (rw c.unpack.ensures (packed_order N ids c.as_mut_slice.result.now all ordered))

pub returns-in-Some-clause-found : goal.returns-in-Some-clause-found
returns-in-Some-clause-found c =
    let N = c.args.netlist.now.lists in
    let ids = c.as_slice-cells.result.now in
    let path = c.as_mut_slice-in-Some.result.now in
    let all : AreLiveCells N ids = rw c.as_slice-cells.ensures.value c.note_cells.ensures.all in
    let closed : IsClosed (packed N ids) path c.in-Some.on.0 = rw (c.as_mut_slice-in-Some.ensures.value, ← c.new-packed.ensures) c.in-Some.ensures.found in
    let low : c.in-Some.on.0 < length ids = path_inside N ids path c.in-Some.on.0 closed closed.there.place c.in-Some.on.0 closed.there.there in
    let under : StandsAt ids c.in-Some.on.0 (cell_under ids c.in-Some.on).0 = slice_get-get_or ids c.in-Some.on.0 (record { 0 = 0 }) low in
    let whole : c.order_cells.new.walk.path.len ≡ length c.unpack-in-Some.new.order =
    sym c.as_mut_slice-in-Some.ensures.len ∙ sym (ap length c.unpack-in-Some.ensures ∙ length-map path (cell_under ids)) in
    rw (front_of c.unpack-in-Some.new.order _ c.order_cells.new.walk.path.len whole) (rw c.unpack-in-Some.ensures (packed_closed N ids path c.in-Some.on.0 (cell_under ids c.in-Some.on).0 all under closed))
