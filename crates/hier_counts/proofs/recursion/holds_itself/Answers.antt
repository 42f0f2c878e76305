use Rattle.std.proofs.Common.{◌≡◌, ◌∙◌, ℕ, ◌<◌, false, List, length, ap, arith}
use Rattle.std.proofs.lemmas.List.{get_or_read}
use Rattle.hier_counts.specs.Graph.{row}
use Rattle.hier_counts.proofs.Leads.{length-graph}
use Rattle.hier_counts.proofs.Reached.{row_read, closed_at, row_low, holds_clear, holds_marked}
use Rattle.hier_counts.proofs.recursion.holds_itself.Goals as goal

pub returns-then-clears : goal.returns-then-clears
returns-then-clears c =
    let graph = c.args.graph.now in
    let size : length graph ≡ length c.args.table.now = ap (λ (g : List (List ℕ)). length g) c.requires.graph ∙ length-graph c.args.table.now in
    let low : c.args.place < length graph = omega (arith, size, c.requires.place) in
    let row_is : c.as_slice-children.result.now ≡ row graph c.args.place = c.as_slice-children.ensures ∙ row_read graph c.args.place c.index-graph-place.result low c.index-graph-place.is in
    holds_clear c.args.table.now graph c.args.place c.args.rings.now.numbers.items c.as_slice-children.result.now c.requires.once c.requires.graph c.requires.place (c.requires.rings (c.clears.ensures.falls c.if-clears.true)) row_is
    (c.clears.ensures.apart c.if-clears.true)

pub reached_from-requires-clause-closed : goal.reached_from-requires-clause-closed
reached_from-requires-clause-closed c = closed_at c.args.graph.now c.args.table.now c.requires.graph

pub reached_from-requires-clause-roots : goal.reached_from-requires-clause-roots
reached_from-requires-clause-roots c =
    let graph = c.args.graph.now in
    let size : length graph ≡ length c.args.table.now = ap (λ (g : List (List ℕ)). length g) c.requires.graph ∙ length-graph c.args.table.now in
    let low : c.args.place < length graph = omega (arith, size, c.requires.place) in
    let row_is : c.as_slice-children.result.now ≡ row graph c.args.place = c.as_slice-children.ensures ∙ row_read graph c.args.place c.index-graph-place.result low c.index-graph-place.is in
    row_low graph c.args.place c.as_slice-children.result.now (closed_at graph c.args.table.now c.requires.graph) row_is

pub returns : goal.returns
returns c =
    let graph = c.args.graph.now in
    let size : length graph ≡ length c.args.table.now = ap (λ (g : List (List ℕ)). length g) c.requires.graph ∙ length-graph c.args.table.now in
    let low : c.args.place < length graph = omega (arith, size, c.requires.place) in
    let row_is : c.as_slice-children.result.now ≡ row graph c.args.place = c.as_slice-children.ensures ∙ row_read graph c.args.place c.index-graph-place.result low c.index-graph-place.is in
    let marks = c.in_ok-reached.reached.items in
    let sized = c.in_ok-reached.ensures.sized in
    let here = get_or_read marks c.args.place c.index.result.now (omega (arith, sized, low)) c.index.ensures false in
    holds_marked c.args.table.now graph c.args.place c.as_slice-children.result.now marks c.index.result.now c.requires.once c.requires.graph c.requires.place row_is c.in_ok-reached.ensures here
