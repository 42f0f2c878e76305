-- Parts that are appended one behind another to a well-formed netlist.
use Rattle.std.specs.Prelude.{◌≡◌, ℕ, ◌+◌, ◌<◌, ◌≤◌, ◌⊎◌, List, [], ◌∷◌, ◌++◌, length, slice_get, Some, ⊤}
use Rattle.netlist_model.specs.declared.Feed.{Feed}
use Rattle.netlist_model.specs.declared.Feed.TheVariants.{Net}
use Rattle.netlist_model.specs.Lists.{CellView, NetlistView, cell_count}
use Rattle.netlist_model.specs.Formed.{IsLaidOut, IsWellFormed}
use Rattle.netlist_model.specs.Settle.{IsDrivenOnce}
use Rattle.netlist_arena.specs.Arena.{ArenaView}
use Rattle.gate_parts.specs.declared.Gate.{Gate}
use Rattle.gate_parts.specs.Parts.{part_cells}
use Rattle.gate_parts.specs.Appended.{Appended}
use Rattle.netlist_link.specs.Readable.{CanBeRead, IsPure}
use Rattle.netlist_link.specs.DraftLawsTables.{IsPartTable, IsControl}

-- own: a table of gates, its levels, and what is handed to it
pub record Part : Type 0 where
  pub gates : List Gate
  pub levels : List ℕ
  pub given : List Feed

abbrev pub parts_size : List Part → ℕ
parts_size [] = 0
parts_size (p ∷ ps) = length p.gates + parts_size ps

-- own: their cells, on nets from `first` on, with numbers from `number` on
abbrev pub parts_cells : ℕ → ℕ → List Part → List CellView
parts_cells first number [] = []
parts_cells first number (p ∷ ps) = part_cells p.gates p.given first number ++ parts_cells (first + length p.gates) (number + length p.gates) ps

-- own: a net that a part may be handed whose nets begin at `at`: one of the netlist's that can be read, or one of a
-- part before it
abbrev pub IsThere : NetlistView → ℕ → ℕ → Type 0
IsThere N at net = ((net < length N.nets) × CanBeRead N net) ⊎ ((length N.nets ≤ net) × (net < at))

-- own: the part's table can be appended, and it is handed nets that are there, and pure ones of the netlist where they
-- control flip-flops
pub record IsHanded (N : NetlistView) (at : ℕ) (p : Part) : Type 0 where
  pub table : IsPartTable p.gates p.levels (length p.given)
  pub read : (k net : ℕ) → slice_get p.given k ≡ Some (Net (record { 0 = net })) → IsThere N at net
  pub control : (k net : ℕ) → IsControl p.gates k → slice_get p.given k ≡ Some (Net (record { 0 = net })) → IsPure N net

abbrev pub AreHanded : NetlistView → ℕ → List Part → Type 0
AreHanded N at [] = ⊤
AreHanded N at (p ∷ ps) = IsHanded N at p × AreHanded N (at + length p.gates) ps

-- own: the netlist is well formed, and each net from this one on can be read
pub record IsGrown (N : NetlistView) (from : ℕ) : Type 0 where
  pub formed : IsWellFormed N
  pub read : (net : ℕ) → from ≤ net → net < length N.nets → CanBeRead N net

-- own: where such parts are appended, a well-formed netlist stays so, and their nets can be read
abbrev pub PartsAreFormed : Type 0
PartsAreFormed = (old new : ArenaView) (ps : List Part) → IsLaidOut old.lists → IsWellFormed old.lists → IsDrivenOnce new.lists
    → Appended old new (parts_size ps) (parts_cells (length old.lists.nets) (cell_count old.lists) ps) → AreHanded old.lists (length old.lists.nets) ps
    → IsGrown new.lists (length old.lists.nets)
