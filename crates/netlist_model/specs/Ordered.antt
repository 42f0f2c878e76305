-- Numbering nets and numbering gates come to the same.
use Rattle.std.specs.Prelude.{◌≡◌, ℕ, ◌<◌, false}
use Rattle.cell_library.specs.Gates.{is_flop}
use Rattle.netlist_model.specs.Lists.{CellView, NetlistView, Drives, Reads}
use Rattle.netlist_model.specs.Formed.{IsNumbered}
use Rattle.netlist_model.specs.Settle.{IsDrivenOnce}

-- own: each gate reads only gates with smaller numbers, beside inputs, constants and flip-flops
pub record IsOrdered (N : NetlistView) (number : ℕ → ℕ) : Type 0 where
  pub gates : (i j : ℕ) (cell other : CellView) (place net : ℕ) → Reads N i cell place net → is_flop N.library cell.kind ≡ false
      → Drives N j other net → is_flop N.library other.kind ≡ false → number j < number i

-- own: where the gates are numbered so, the nets can be
abbrev pub OrderedIsNumbered : Type 0
OrderedIsNumbered = (N : NetlistView) (number : ℕ → ℕ) → IsDrivenOnce N → IsOrdered N number → (rank : ℕ → ℕ) × IsNumbered N rank

-- own: where the nets are numbered, the gates can be
abbrev pub NumberedIsOrdered : Type 0
NumberedIsOrdered = (N : NetlistView) (rank : ℕ → ℕ) → IsNumbered N rank → (number : ℕ → ℕ) × IsOrdered N number
