use Rattle.std.proofs.Common.{◌≡◌, ◌∙◌, ℕ, ◌<◌, Bool, false, List, length, replicate, ap, refl, subst, arith, rules}
use Rattle.std.proofs.lemmas.List.{length-replicate}
use Rattle.std.proofs.lemmas.Option.{slice_get_read}
use Rattle.hier_counts.specs.Graph.{row, IsIn}
use Rattle.hier_counts.specs.Search.{Seen, seen_in, with_places}
use Rattle.hier_counts.proofs.Searches.{found_inside, search_begins, search_goes, search_ends}
use Rattle.hier_counts.proofs.Reached.{row_read}
use Rattle.hier_counts.proofs.reach.reached_from.Goals as goal

pub see_all-requires : goal.see_all-requires
see_all-requires c = λ w listed.
    let low = c.requires.roots w listed in
    let items : c.in_ok-vec.field-0.items ≡ replicate (length c.args.graph.now) false = c.in_ok-vec.ensures.items_if_clones_equal (λ y h. h) in
    let size : length c.in_ok-vec.field-0.items ≡ length c.args.graph.now = ap (λ (l : List Bool). length l) items ∙ length-replicate (length c.args.graph.now) false in
    omega (arith, low, size)

pub loop-next-init : goal.loop-next-init
loop-next-init c =
    let first : Seen = record { marks = c.in_ok-vec.field-0.items; found = c.new.result.items } in
    search_begins c.args.graph.now c.args.roots.now first (seen_in c.see_all.new.self) c.requires.roots (c.in_ok-vec.ensures.items_if_clones_equal (λ y h. h)) c.new.ensures.items c.in_ok-see_all.ensures

pub bounds-graph-place : goal.bounds-graph-place
bounds-graph-place c =
    let found = c.loop-next.search.found in
    let size = found.ok.0 in
    let low : c.loop-next.next < length found.items = omega (arith, size, c.loop-next-test.true, c.len.ensures) in
    let at = slice_get_read found.items (length found.items) c.loop-next.next c.index-place.result.now refl low c.index-place.ensures in
    found_inside c.args.graph.now c.args.roots.now (seen_in c.loop-next.search) c.loop-next.next c.index-place.result.now c.loop-next.invariant.is at

pub offset_bounds-graph-place : goal.offset_bounds-graph-place
offset_bounds-graph-place c =
    let found = c.loop-next.search.found in
    let size = found.ok.0 in
    let low : c.loop-next.next < length found.items = omega (arith, size, c.loop-next-test.true, c.len.ensures) in
    let at = slice_get_read found.items (length found.items) c.loop-next.next c.index-place.result.now refl low c.index-place.ensures in
    let inside : c.index-place.result.now < length c.args.graph.now = found_inside c.args.graph.now c.args.roots.now (seen_in c.loop-next.search) c.loop-next.next c.index-place.result.now c.loop-next.invariant.is at in
    search rules

pub see_all-requires-in-loop-next : goal.see_all-requires-in-loop-next
see_all-requires-in-loop-next c = λ w listed.
    let found = c.loop-next.search.found in
    let size = found.ok.0 in
    let low : c.loop-next.next < length found.items = omega (arith, size, c.loop-next-test.true, c.len.ensures) in
    let at = slice_get_read found.items (length found.items) c.loop-next.next c.index-place.result.now refl low c.index-place.ensures in
    let inside = found_inside c.args.graph.now c.args.roots.now (seen_in c.loop-next.search) c.loop-next.next c.index-place.result.now c.loop-next.invariant.is at in
    let row_is : c.as_slice.result.now ≡ row c.args.graph.now c.index-place.result.now = c.as_slice.ensures ∙ row_read c.args.graph.now c.index-place.result.now c.index-graph-place.result inside c.index-graph-place.is in
    let below = c.requires.closed c.index-place.result.now w (subst (IsIn w) row_is listed) in
    let same = c.loop-next.invariant.is.sized in
    omega (arith, below, same)

pub loop-next-preserved : goal.loop-next-preserved
loop-next-preserved c =
    let found = c.loop-next.search.found in
    let size = found.ok.0 in
    let low : c.loop-next.next < length found.items = omega (arith, size, c.loop-next-test.true, c.len.ensures) in
    let at = slice_get_read found.items (length found.items) c.loop-next.next c.index-place.result.now refl low c.index-place.ensures in
    let inside = found_inside c.args.graph.now c.args.roots.now (seen_in c.loop-next.search) c.loop-next.next c.index-place.result.now c.loop-next.invariant.is at in
    let row_is : c.as_slice.result.now ≡ row c.args.graph.now c.index-place.result.now = c.as_slice.ensures ∙ row_read c.args.graph.now c.index-place.result.now c.index-graph-place.result inside c.index-graph-place.is in
    search_goes c.args.graph.now c.args.roots.now c.loop-next.next c.index-place.result.now (seen_in c.loop-next.search) (seen_in c.see_all-in-loop-next.new.self) c.requires.closed c.loop-next.invariant at
    (c.in_ok-see_all-2.ensures ∙ ap (λ (l : List ℕ). with_places l (seen_in c.loop-next.search)) row_is)

pub returns : goal.returns
returns c =
    let size = c.loop-next.search.found.ok.0 in
    search_ends c.args.graph.now c.args.roots.now c.loop-next.next (seen_in c.loop-next.search) c.loop-next.invariant (omega (arith, size, c.loop-next-test.false, c.len.ensures))
