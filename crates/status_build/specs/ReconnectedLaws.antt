-- A netlist in which operands of one gate are another net.
-- Own.
use Rattle.std.specs.Prelude.{◌≡◌, ◌≢◌, ℕ, suc, ◌+◌, ◌<◌, ◌⊎◌, Bool, true, false, List, length, slice_get, Option, Some, None, if◌then◌else◌}
use Rattle.cell_library.specs.Gates.{is_three_state, is_flop}
use Rattle.netlist_model.specs.declared.Feed.{Feed}
use Rattle.netlist_model.specs.declared.Feed.TheVariants.{Net}
use Rattle.netlist_model.specs.declared.Dir.TheVariants.{Output}
use Rattle.netlist_model.specs.Lists.{CellView, NetlistView, cell_at, direction, Drives}
use Rattle.netlist_model.specs.Cones.{IsControlNet}
use Rattle.netlist_model.specs.Formed.{IsDriven, IsNumbered, IsWellFormed}

-- own: the new netlist is the old one, with its library, but that some operands of this gate are the net `to`
pub record Reconnects (old new : NetlistView) (number to : ℕ) : Type 0 where
  pub library : new.library ≡ old.library
  pub ports : new.ports ≡ old.ports
  pub cell : CellView
  pub live : cell_at old number ≡ Some cell
  pub gate : is_flop old.library cell.kind ≡ false
  pub feeds : List Feed
  pub long : length feeds ≡ length cell.feeds
  pub each : (place net : ℕ) → slice_get feeds place ≡ Some (Net (record { 0 = net })) → (slice_get cell.feeds place ≡ Some (Net (record { 0 = net }))) ⊎ (net ≡ to)
  pub changed : cell_at new number ≡ Some (record cell { feeds = feeds })
  pub others : (i : ℕ) → i ≢ number → cell_at new i ≡ cell_at old i

-- own: the gate reads what a flip-flop drives, so it stands in no cone of a clock, clear or preset
pub record ReadsFlop (N : NetlistView) (cell : CellView) : Type 0 where
  pub place : ℕ
  pub source : ℕ
  pub reads : slice_get cell.feeds place ≡ Some (Net (record { 0 = source }))
  pub number : ℕ
  pub flop : CellView
  pub is : is_flop N.library flop.kind ≡ true
  pub drives : Drives N number flop source

-- own: a port bit or a net that a cell drives, but no output bit that a `bufif` drives
pub record IsReadable (N : NetlistView) (net : ℕ) : Type 0 where
  pub driven : direction N.ports net ≡ None → IsDriven N net
  pub steady : (i : ℕ) (cell : CellView) → Drives N i cell net → is_three_state cell.kind ≡ true → direction N.ports net ≢ Some Output

abbrev pub ReconnectedIsFormed : Type 0
ReconnectedIsFormed = (old new : NetlistView) (number to : ℕ) (rank : ℕ → ℕ) → IsWellFormed old → (r : Reconnects old new number to) → ReadsFlop old r.cell → IsReadable old to
    → IsNumbered new rank → IsWellFormed new

abbrev pub ReconnectedHasControls : Type 0
ReconnectedHasControls = (old new : NetlistView) (number to : ℕ) → IsWellFormed old → (r : Reconnects old new number to) → ReadsFlop old r.cell
    → (net : ℕ) → (IsControlNet new net → IsControlNet old net) × (IsControlNet old net → IsControlNet new net)

-- Numbers of the nets, where the net that is read in place of the other stands behind gates that read flip-flops and
-- pins only.

abbrev pub low_number : Option ℕ → ℕ → ℕ
low_number None other = suc other
low_number (Some k) other = suc k

-- own: first what no gate drives, then the low nets, then all others in their order
abbrev pub lowered : (ℕ → Bool) → (ℕ → Option ℕ) → ℕ → (ℕ → ℕ) → ℕ → ℕ
lowered base low count rank net = if base net then 0 else low_number (low net) (count + rank net)

-- own: no gate drives a base net, and a gate that drives a low net reads base nets and lower ones
pub record HasLowNets (N : NetlistView) (base : ℕ → Bool) (low : ℕ → Option ℕ) (count : ℕ) : Type 0 where
  pub base_free : (i : ℕ) (cell : CellView) (net : ℕ) → Drives N i cell net → is_flop N.library cell.kind ≡ false → base net ≡ false
  pub bounded : (net k : ℕ) → low net ≡ Some k → k < count
  pub gates : (i : ℕ) (cell : CellView) (net k : ℕ) → Drives N i cell net → is_flop N.library cell.kind ≡ false → low net ≡ Some k
      → (place read : ℕ) → slice_get cell.feeds place ≡ Some (Net (record { 0 = read })) → (base read ≡ true) ⊎ ((j : ℕ) × (low read ≡ Some j) × (j < k))

-- own: so the numbers need not be handed in
abbrev pub ReconnectedToLow : Type 0
ReconnectedToLow = (old new : NetlistView) (number to place : ℕ) (base : ℕ → Bool) (low : ℕ → Option ℕ) (count : ℕ) → IsWellFormed old → (r : Reconnects old new number to)
    → ReadsFlop old r.cell → IsReadable old to → HasLowNets old base low count → low to ≡ Some place
    → ((net : ℕ) → r.cell.output ≡ Some (record { 0 = net }) → low net ≡ None) → IsWellFormed new
