use Rattle.std.proofs.Common.{◌∙◌, ℕ, Bool, List, Some, ap, sym}
use Rattle.texts.specs.Repeated.{bytes_of}
use Rattle.hier_model.specs.declared.fault.HierFault.{HierFault}
use Rattle.hier_model.specs.declared.fault.HierFault.TheVariants as fault
use Rattle.hier_counts.specs.Marked.{first_marked}
use Rattle.hier_counts.proofs.Reached.{closed_at, missing_in, ring_in, reached_missing, reached_ring, reached_counts}
use Rattle.hier_counts.proofs.early.find_reached_fault.Goals as goal

pub reached_from-requires-clause-closed : goal.reached_from-requires-clause-closed
reached_from-requires-clause-closed c = closed_at c.as_slice.result.now c.args.table.now (c.as_slice.ensures ∙ c.in_ok-graph.ensures)

pub returns-in-Some : goal.returns-in-Some
returns-in-Some c =
    let table = c.args.table.now in
    let cells = c.args.cells.now in
    let marks = c.in_ok-reached.reached.items in
    ap (λ (f : HierFault). Some (Some f)) c.in_ok-missing-in-Some.ensures
    ∙ reached_missing cells table c.as_slice.result.now c.args.place marks c.in-Some.name.now c.requires.once c.requires.place (c.as_slice.ensures ∙ c.in_ok-graph.ensures) c.in_ok-reached.ensures
    (c.in-Some.ensures ∙ ap (λ (l : List Bool). first_marked (missing_in cells table) l table) c.deref.ensures.value)

pub returns-in-Some-2 : goal.returns-in-Some-2
returns-in-Some-2 c =
    let table = c.args.table.now in
    let cells = c.args.cells.now in
    let marks = c.in_ok-reached.reached.items in
    ap (λ (name : List ℕ). Some (Some (fault.ModuleRecursive name))) c.in_ok-name-in-Some-2.ensures
    ∙ reached_ring cells table c.as_slice.result.now c.args.place marks c.in-Some-2.name.now c.requires.once c.requires.place (c.as_slice.ensures ∙ c.in_ok-graph.ensures) c.in_ok-reached.ensures
    (c.in-None.ensures ∙ ap (λ (l : List Bool). first_marked (missing_in cells table) l table) c.deref.ensures.value)
    (ap bytes_of (sym c.in-Some-2.is) ∙ c.in_ok-name.ensures ∙ ap (λ (l : List Bool). first_marked (ring_in table) l table) c.deref-2.ensures.value)

pub returns : goal.returns
returns c =
    let table = c.args.table.now in
    let cells = c.args.cells.now in
    let marks = c.in_ok-reached.reached.items in
    reached_counts cells table c.as_slice.result.now c.args.place marks c.in_ok-counts.counts c.find_too_many.result c.requires.once c.requires.place (c.as_slice.ensures ∙ c.in_ok-graph.ensures) c.in_ok-reached.ensures
    (c.in-None.ensures ∙ ap (λ (l : List Bool). first_marked (missing_in cells table) l table) c.deref.ensures.value)
    (ap bytes_of (sym c.in-None-2.is) ∙ c.in_ok-name.ensures ∙ ap (λ (l : List Bool). first_marked (ring_in table) l table) c.deref-2.ensures.value)
    c.in_ok-counts.ensures c.find_too_many.ensures
