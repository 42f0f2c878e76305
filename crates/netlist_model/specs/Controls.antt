-- Nets that clock, clear or preset flip-flops are 0 or 1.
use Rattle.std.specs.Prelude.{ℕ, ◌≤◌, List, length}
use Rattle.cell_library.specs.signal_values.declared.Sig.{Sig}
use Rattle.cell_library.specs.Laws.{IsKnown}
use Rattle.netlist_model.specs.Lists.{NetlistView}
use Rattle.netlist_model.specs.Cones.{IsControlNet}
use Rattle.netlist_model.specs.Formed.{IsWellFormed}
use Rattle.netlist_model.specs.Runs.{Moment, PinEvent, IsRun}

-- own: so is it at every moment of every run
abbrev pub ControlsKnown : Type 0
ControlsKnown = (N : NetlistView) (given : ℕ → Sig) (events : List PinEvent) (moment : ℕ → Moment) → IsWellFormed N → IsRun N given events moment
    → (t : ℕ) → t ≤ length events → (net : ℕ) → IsControlNet N net → IsKnown ((moment t).value net)
