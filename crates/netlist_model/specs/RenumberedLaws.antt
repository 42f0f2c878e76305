-- What goes through new numbers of nets and cells.
use Rattle.std.specs.Prelude.{◌≡◌, ℕ, List, map, Some}
use Rattle.cell_library.specs.signal_values.declared.Sig.{Sig}
use Rattle.cell_library.specs.signal_values.declared.PinSig.{PinSig}
use Rattle.netlist_model.specs.declared.Dir.{Dir}
use Rattle.netlist_model.specs.declared.NetId.{NetId}
use Rattle.netlist_model.specs.Lists.{CellView, NetlistView, bit_net, cell_at, direction}
use Rattle.netlist_model.specs.Readings.{reading}
use Rattle.netlist_model.specs.Cones.{IsClockPort, IsControlPort}
use Rattle.netlist_model.specs.Formed.{IsWellFormed}
use Rattle.netlist_model.specs.Runs.{Moment, PinEvent, IsLegal, IsRun}
use Rattle.netlist_model.specs.Nested.{renamed_net}
use Rattle.netlist_model.specs.Renumbered.{IsCopied, IsRenumbering, IsCellImage, renamed_event, seen_moment, HasImage}

-- own: it is enough that N stands in M, that nets go both ways, and that M has no other cells
abbrev pub CopyIsRenumbering : Type 0
CopyIsRenumbering = (N M : NetlistView) (to at back from : ℕ → ℕ) → IsCopied N M to at back from → ((net : ℕ) → to (back net) ≡ net)
    → ((j : ℕ) (cell : CellView) → cell_at M j ≡ Some cell → IsCellImage N at j) → IsRenumbering N M to at

-- own: it holds the other way round too
abbrev pub RenumberingTurns : Type 0
RenumberingTurns = (N M : NetlistView) (to at : ℕ → ℕ) (r : IsRenumbering N M to at) → IsRenumbering M N r.back r.from

-- own: each net keeps its direction
abbrev pub RenumberedDirections : Type 0
RenumberedDirections = (N M : NetlistView) (to at : ℕ → ℕ) → IsRenumbering N M to at → (net : ℕ) → direction M.ports (to net) ≡ direction N.ports net

-- own: each bit of a port has its net's new number
abbrev pub RenumberedBits : Type 0
RenumberedBits = (N M : NetlistView) (to at : ℕ → ℕ) → IsRenumbering N M to at → (p bit : ℕ) (net : NetId) → bit_net N p bit ≡ Some net
    → bit_net M p bit ≡ Some (renamed_net to net)

-- own: the same ports are control ports, and the same are clock ports
pub record SamePorts (N M : NetlistView) (to : ℕ → ℕ) : Type 0 where
  pub control : (net : ℕ) → IsControlPort N net → IsControlPort M (to net)
  pub control_back : (net : ℕ) → IsControlPort M (to net) → IsControlPort N net
  pub clock : (net : ℕ) → IsClockPort N net → IsClockPort M (to net)
  pub clock_back : (net : ℕ) → IsClockPort M (to net) → IsClockPort N net

abbrev pub RenumberedPorts : Type 0
RenumberedPorts = (N M : NetlistView) (to at : ℕ → ℕ) → IsRenumbering N M to at → SamePorts N M to

-- own: the same events are legal
pub record SameLegal (N M : NetlistView) (to : ℕ → ℕ) (event : PinEvent) : Type 0 where
  pub over : IsLegal N event → IsLegal M (renamed_event to event)
  pub back : IsLegal M (renamed_event to event) → IsLegal N event

-- own: each port bit reads the same
abbrev pub RenumberedReads : Type 0
RenumberedReads = (N M : NetlistView) (to at : ℕ → ℕ) → IsRenumbering N M to at → IsWellFormed N → (pins : ℕ → PinSig) (value : ℕ → Sig) (net : ℕ) (dir : Dir)
    → direction N.ports net ≡ Some dir → reading M pins value (to net) ≡ reading N (λ n. pins (to n)) (λ n. value (to n)) net

-- own: every run of M by renamed events is a run of N
abbrev pub RenumberedRuns : Type 0
RenumberedRuns = (N M : NetlistView) (to at : ℕ → ℕ) → IsRenumbering N M to at → IsWellFormed N → (given : ℕ → Sig) (events : List PinEvent) (moment : ℕ → Moment)
    → IsRun M given (map (renamed_event to) events) moment → IsRun N (λ i. given (at i)) events (λ t. seen_moment to at (moment t))

-- own: every run of N has one of M
abbrev pub RunsHaveImages : Type 0
RunsHaveImages = (N M : NetlistView) (to at : ℕ → ℕ) → IsRenumbering N M to at → IsWellFormed N → (given : ℕ → Sig) (events : List PinEvent) (moment : ℕ → Moment)
    → IsRun N given events moment → HasImage N M to at given events moment
