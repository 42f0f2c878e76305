use Rattle.std.proofs.Common.{◌≡◌, ◌∙◌, [], Some, None, ap, sym}
use Rattle.std.specs.Prelude.{slice_get}
use Rattle.std.specs.Option.{option_map}
use Rattle.texts.specs.Repeated.{bytes_of}
use Rattle.hier_model.specs.declared.fault.HierFault.{HierFault}
use Rattle.hier_model.specs.Faults.{twice_name}
use Rattle.hier_counts.specs.Early.{reached_fault, early_fault}
use Rattle.hier_counts.proofs.EarlyLaws.{once_of}
use Rattle.hier_counts.proofs.Reached.{early_there, early_absent, if_ok}
use Rattle.hier_counts.proofs.early.find_early_fault.Goals as goal

pub find_reached_fault-requires-clause-once : goal.find_reached_fault-requires-clause-once
find_reached_fault-requires-clause-once c =
    let clear : None ≡ twice_name c.args.cells.now [] c.args.table.now = ap bytes_of (sym c.in-None.is) ∙ c.in_ok-name.ensures ∙ ap (twice_name c.args.cells.now []) c.as_slice.ensures in
    once_of c.args.cells.now [] c.args.table.now (sym clear)

pub returns-in-Some-place : goal.returns-in-Some-place
returns-in-Some-place c =
    let table = c.args.table.now in
    let cells = c.args.cells.now in
    let clear : None ≡ twice_name cells [] table = ap bytes_of (sym c.in-None.is) ∙ c.in_ok-name.ensures ∙ ap (twice_name cells []) c.as_slice.ensures in
    if_ok c.find_reached_fault.result (λ f. Some f ≡ option_map (reached_fault cells table) (slice_get table c.in-Some-place.place)) (λ f. f ≡ early_fault cells table c.args.top.now)
    (λ f told. early_there cells table c.args.top.now c.in-Some-place.place f clear c.in-Some-place.ensures told) c.find_reached_fault.ensures

pub returns-in_ok-missing-in-None-place : goal.returns-in_ok-missing-in-None-place
returns-in_ok-missing-in-None-place c =
    let clear : None ≡ twice_name c.args.cells.now [] c.args.table.now = ap bytes_of (sym c.in-None.is) ∙ c.in_ok-name.ensures ∙ ap (twice_name c.args.cells.now []) c.as_slice.ensures in
    ap (λ (f : HierFault). Some f) c.in_ok-missing-in-None-place.ensures ∙ early_absent c.args.cells.now c.args.table.now c.args.top.now clear c.in-None-place.ensures
