-- A netlist inside another that gives its three-state gates other operands, as a driver behind a boundary cell has.
-- IEEE Std 1364-2001: gate-level modelling, three-state gates. In a well-formed netlist no cell reads an output bit
-- that such a gate drives.
use Rattle.std.specs.Prelude.{◌≡◌, ℕ, false, Option, Some, None, if◌then◌else◌}
use Rattle.cell_library.specs.signal_values.declared.Sig.{Sig}
use Rattle.cell_library.specs.signal_values.Values.{see}
use Rattle.cell_library.specs.Gates.{is_three_state}
use Rattle.netlist_model.specs.Lists.{CellView, NetlistView, cell_at, direction, IsUndriven}
use Rattle.netlist_model.specs.Settled.{feed_values, follows_pin, cell_drive, driver_of, Meets}
use Rattle.netlist_model.specs.Formed.{IsWellFormed}
use Rattle.netlist_model.specs.Runs.{FlopsStart, FlopsStep}
use Rattle.netlist_model.specs.Nested.{IsNested}

-- own: each cell of N stands in M, by other nets, but for three-state gates; nets follow no pin and stay undriven as
-- where N is nested
pub record NestedBehind (N M : NetlistView) (to at : ℕ → ℕ) : Type 0 where
  pub library : M.library ≡ N.library
  pub cells : (i : ℕ) (cell : CellView) → cell_at N i ≡ Some cell → is_three_state cell.kind ≡ false → IsNested M to (at i) cell
  pub inside : (net : ℕ) → follows_pin (direction N.ports net) ≡ false → follows_pin (direction M.ports (to net)) ≡ false
  pub undriven : (net : ℕ) → follows_pin (direction N.ports net) ≡ false → IsUndriven N net → IsUndriven M (to net)

-- own: what a three-state gate would give its net by its own operands, where nets have these values; of any
-- other net its value
abbrev pub driven_value : Option CellView → (ℕ → Sig) → ℕ → Sig
driven_value None value net = value net
driven_value (Some cell) value net = if is_three_state cell.kind then see (cell_drive cell.kind (feed_values value cell.feeds) (value net)) else value net

-- own: the value that a net of N has by itself, where M gives nets these values; those of pins are M's
abbrev pub own_value : NetlistView → (ℕ → Sig) → ℕ → Sig
own_value N value net = if follows_pin (direction N.ports net) then value net else driven_value (driver_of N.cells net) value net

-- own: so the netlist meets its own equations, where its pins' nets have what the other netlist gives them
abbrev pub BehindMeets : Type 0
BehindMeets = (N M : NetlistView) (to at : ℕ → ℕ) (given : (ℕ → Sig) → ℕ → Sig) (state value : ℕ → Sig) → IsWellFormed N → NestedBehind N M to at
    → Meets M given state value → Meets N (λ v net. value (to net)) (λ i. state (at i)) (own_value N (λ net. value (to net)))

-- own: its flip-flops start as those of the other netlist
abbrev pub BehindStarts : Type 0
BehindStarts = (N M : NetlistView) (to at : ℕ → ℕ) (given value state : ℕ → Sig) → IsWellFormed N → NestedBehind N M to at → FlopsStart M given value state
    → FlopsStart N (λ i. given (at i)) (own_value N (λ net. value (to net))) (λ i. state (at i))

-- own: and step as they do
abbrev pub BehindSteps : Type 0
BehindSteps = (N M : NetlistView) (to at : ℕ → ℕ) (before after state next : ℕ → Sig) → IsWellFormed N → NestedBehind N M to at → FlopsStep M before after state next
    → FlopsStep N (own_value N (λ net. before (to net))) (own_value N (λ net. after (to net))) (λ i. state (at i)) (λ i. next (at i))

-- own: what a cell of a well-formed netlist reads has the given values
abbrev pub OperandsAreGiven : Type 0
OperandsAreGiven = (N : NetlistView) → IsWellFormed N → (value : ℕ → Sig) (i : ℕ) (cell : CellView) → cell_at N i ≡ Some cell
    → feed_values (own_value N value) cell.feeds ≡ feed_values value cell.feeds
