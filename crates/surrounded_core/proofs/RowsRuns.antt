-- A row over a whole run.
use Rattle.std.proofs.Common.{◌≡◌, ℕ, zero, suc, ◌<◌, ◌≤◌, List, length, arith}
use Rattle.signal_values.specs.declared.Sig.{Sig}
use Rattle.netlist_model.specs.declared.NetId.{NetId}
use Rattle.netlist_model.specs.Lists.{NetlistView}
use Rattle.netlist_model.specs.Formed.{IsWellFormed}
use Rattle.netlist_model.specs.Contained.{HasCells}
use Rattle.netlist_model.specs.Runs.{Moment, PinEvent, IsRun}
use Rattle.test_logic.specs.declared.Levels.{Levels}
use Rattle.test_logic.specs.declared.ScanNets.{ScanNets}
use Rattle.test_logic.specs.Machine.{TestLogic, Machine, IsHistory, in_effect}
use Rattle.test_logic.specs.Rows.{CellAt}
use Rattle.boundary_cells.specs.MachineRows.{bit_at}
use Rattle.surrounded_core.specs.Rows.{BoundaryRow, row_cells, row_kind, IsRowOf, HoldsRow}
use Rattle.surrounded_core.specs.RowsLaws.{Captures, IsServed, RowsFollow}
use Rattle.surrounded_core.proofs.Lengths.{along}
use Rattle.surrounded_core.proofs.RowsLaws.{CellLaws, start_at, step_at, gives_at}
use Rattle.std.proofs.lemmas.Option.{slice_get_within}

held_at : CellLaws → (row : BoundaryRow) (first number : ℕ) (scan : ScanNets) (next : NetId)
    → (N : NetlistView) (given : ℕ → Sig) (events : List PinEvent) (moment : ℕ → Moment) → IsWellFormed N → HasCells N (row_cells row first number scan next)
    → IsRun N given events moment
    → (L : TestLogic) (levels : ℕ → Levels) (captured : ℕ → List Sig) (machine : ℕ → Machine) → IsHistory L levels captured (length events) machine
    → ((t : ℕ) → t < length events → length (captured t) ≡ length L.kinds)
    → (place : ℕ) → IsRowOf L place row → (c : ℕ → CellAt) (t : ℕ) → t ≤ length events
    → ((u : ℕ) → u ≤ t → IsServed row scan next L (levels u) (machine u) place (c u) (moment u))
    → ((u : ℕ) → u < t → Captures row (in_effect L (machine u)) (c u) (captured u) place)
    → HoldsRow row first place (machine t) (moment t).value
held_at by row first number scan next N given events moment formed has run L levels captured machine history long place at c zero below served captures =
    rw history.start (start_at by row first number scan next N given (levels 0) (moment 0) L place formed has run.start (served 0 (omega arith)).steered.carries history.low at)
held_at by row first number scan next N given events moment formed has run L levels captured machine history long place at c (suc t) below served captures =
    let before : t ≤ length events = omega arith in
    let now = by.moments N given events moment run t before in
    let event = now.step below in
    let lists = along L levels captured (length events) machine history long t before in
    let inside : place < length L.kinds = slice_get_within L.kinds place (row_kind row) at in
    let place_below : place < length (machine t).boundary = rw lists.boundary inside in
    let held : HoldsRow row first place (machine t) (moment t).value
    = held_at by row first number scan next N given events moment formed has run L levels captured machine history long place at c t before
    (λ u upto. served u (omega arith)) (λ u upto. captures u (omega arith)) in
    rw (history.steps t (omega arith)) (step_at by row first number scan next N event.0 (levels t) (levels (suc t)) (moment t) (moment (suc t)) L (captured t) (machine t) place (c t)
    (record { formed = formed; has = has; settled = now.settled; step = event.2; kind_is = at; below = place_below })
    (served t (omega arith)) (captures t (omega arith)) (served (suc t) (omega arith)).steered.carries held)

pub rows_follow : CellLaws → RowsFollow
rows_follow by row first number scan next = record {
  start = λ N given levels m L place formed has start carried low at. start_at by row first number scan next N given levels m L place formed has start carried low at;
  step = λ N event before after m m' L captured machine place c formed has settled step at below served captures carried' held.
      step_at by row first number scan next N event before after m m' L captured machine place c
      (record { formed = formed; has = has; settled = settled; step = step; kind_is = at; below = below }) served captures carried' held;
  gives = λ N rule state value instruction upd c formed has meets mode stands held. gives_at by row first number scan next N rule state value instruction upd c formed has meets mode stands held;
  whole_run = λ N given events moment formed has run L levels captured machine history long place at c t below served captures.
      let held : HoldsRow row first place (machine t) (moment t).value
      = held_at by row first number scan next N given events moment formed has run L levels captured machine history long place at c t below served captures in
      let now = by.moments N given events moment run t below in
      let serve = served t (omega arith) in (
        held,
        gives_at by row first number scan next N _ (moment t).state (moment t).value (in_effect L (machine t)) (bit_at (machine t).update place) (c t) formed has
            now.settled serve.steered.mode serve.stands held.update,
      );
}
