-- A netlist with the test logic of a plan and data registers of a design's own built in, cell by cell.
-- IEEE Std 1149.1-2001: test logic architecture, test data registers (design-specific); the order is own.
use Rattle.std.specs.Prelude.{◌≡◌, ℕ, ◌+◌, List, ◌∷◌, ◌++◌, slice_get}
use Rattle.netlist_model.specs.declared.NetId.{NetId}
use Rattle.netlist_model.specs.declared.Feed.TheVariants.{Net}
use Rattle.netlist_model.specs.Lists.{CellView, NetlistView, cell_at}
use Rattle.netlist_model.specs.Formed.{IsWellFormed}
use Rattle.plan_fitting.specs.declared.fitted.Fitted.{Fitted}
use Rattle.stitched_netlist.specs.declared.model.TapNames.{TapNames}
use Rattle.stitched_netlist.specs.Stitched.{stitched_cells_by, stitched}
use Rattle.status_fitting.specs.declared.fitted.FittedRegister.{FittedRegister}
use Rattle.status_build.specs.CellsLaws.{added_cells}
use Rattle.open_stitch.specs.Open.{through_number, through_net, through_cell, parts_at}
use Rattle.status_stitch.specs.Stands.{shared_of, status_shown}

-- own: the first net and the number of the first cell of the registers' gates: behind the buffer's
abbrev pub first_behind : NetlistView → Fitted → ℕ
first_behind N f = (through_net N f).0 + 1

abbrev pub number_behind : NetlistView → Fitted → ℕ
number_behind N f = through_number N f + 1

-- own: these gates
abbrev pub cells_behind : NetlistView → Fitted → List FittedRegister → List CellView
cells_behind N f registers =
    added_cells (first_behind N f) (number_behind N f) (shared_of (parts_at N f) (first_behind N f)) (parts_at N f).bypass f.codes.length registers

-- own: what they show in the place of the bypass bit
abbrev pub shown_behind : NetlistView → Fitted → List FittedRegister → NetId
shown_behind N f registers = status_shown (parts_at N f) f.codes.length (first_behind N f) registers

-- the cells with the test logic, the buffer, which has what the registers show, and their gates
abbrev pub built_cells : NetlistView → Fitted → List FittedRegister → List CellView
built_cells N f registers = stitched_cells_by (through_net N f) N f ++ through_cell N f (Net (shown_behind N f registers)) ∷ cells_behind N f registers

-- M is well formed and has these cells, and N's ports and the test access port
pub record IsBuilt (M N : NetlistView) (names : TapNames) (f : Fitted) (registers : List FittedRegister) : Type 0 where
  pub formed : IsWellFormed M
  pub library : M.library ≡ N.library
  pub ports : M.ports ≡ (stitched N names f).ports
  pub cells : (k : ℕ) → cell_at M k ≡ slice_get (built_cells N f registers) k
