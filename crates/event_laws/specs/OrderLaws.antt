-- The turns of cells by their places in an order: gates behind which no flip-flop stands, then flip-flops, then
-- the other gates.
use Rattle.std.specs.Prelude.{◌≡◌, ℕ, ◌+◌, ◌*◌, Bool, false, ◌||◌, List, [], ◌∷◌, length, Some, if◌then◌else◌}
use Rattle.cell_library.specs.declared.listed.ListedCell.{ListedCell}
use Rattle.cell_library.specs.Gates.{is_flop}
use Rattle.netlist_model.specs.declared.CellId.{CellId}
use Rattle.netlist_model.specs.declared.Feed.{Feed}
use Rattle.netlist_model.specs.declared.Feed.TheVariants.{Net, Const}
use Rattle.netlist_model.specs.Lists.{CellView, NetlistView, cell_at, Drives, IsUndriven}
use Rattle.netlist_model.specs.Formed.{IsWellFormed}
use Rattle.netlist_model.specs.Orders.{StandsAt, IsCellOrder}
use Rattle.event_laws.specs.Turns.{AreTurns}

-- own: some operand is a late net
abbrev pub has_late : (ℕ → Bool) → List Feed → Bool
has_late late [] = false
has_late late (Net net ∷ feeds) = late net.0 || has_late late feeds
has_late late (Const b ∷ feeds) = has_late late feeds

-- own: a net is late where a flip-flop drives it, or a gate with a late operand
pub record AreLate (N : NetlistView) (late : ℕ → Bool) : Type 0 where
  pub driven : (number : ℕ) (cell : CellView) (net : ℕ) → Drives N number cell net → late net ≡ (is_flop N.library cell.kind || has_late late cell.feeds)
  pub undriven : (net : ℕ) → IsUndriven N net → late net ≡ false

-- own: 1 of a flip-flop, 2 of a gate with a late operand, 0 of any other
abbrev pub class_of : List ListedCell → (ℕ → Bool) → CellView → ℕ
class_of library late cell = if is_flop library cell.kind then 1 else if has_late late cell.feeds then 2 else 0

-- own: the turn of each cell, by its class and its place
pub record AreTurnsOf (N : NetlistView) (order : List CellId) (late : ℕ → Bool) (turn : ℕ → ℕ) : Type 0 where
  pub each : (place number : ℕ) (cell : CellView) → StandsAt order place number → cell_at N number ≡ Some cell
      → turn number ≡ class_of N.library late cell * length order + place

-- own: such turns rise along operands
abbrev pub TurnsRise : Type 0
TurnsRise = (N : NetlistView) (order : List CellId) (late : ℕ → Bool) (turn : ℕ → ℕ) → IsWellFormed N → IsCellOrder N order → AreLate N late → AreTurnsOf N order late turn → AreTurns N turn
