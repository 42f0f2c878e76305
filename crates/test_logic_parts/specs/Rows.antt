-- What the boundary register needs of a netlist, and the nets that its cells give their values.
-- IEEE Std 1149.1-2001: boundary-scan register; the order of the nets is own.
use Rattle.std.specs.Prelude.{◌≡◌, ◌≢◌, ℕ, ◌+◌, ◌*◌, ◌^◌, ◌<◌, ◌≤◌, List, [], ◌∷◌, ◌++◌, All, length, ⊤, MatchOption, IsSome}
use Rattle.netlist_model.specs.declared.NetId.{NetId}
use Rattle.netlist_model.specs.Lists.{NetlistView}
use Rattle.netlist_model.specs.Below.{IsFeedBelow}
use Rattle.netlist_arena.specs.Arena.{ArenaView}
use Rattle.netlist_arena.specs.Adds.{IsFree}
use Rattle.test_logic.specs.declared.ScanNets.{ScanNets}
use Rattle.boundary_cells.specs.Cells.{AreScanNetsBelow}
use Rattle.plan_fitting.specs.declared.fitted.FitRow.{FitRow}
use Rattle.core_sides.specs.stitched_netlist.declared.model.Site.{Site}
use Rattle.core_sides.specs.stitched_netlist.declared.model.Site.TheVariants as site
use Rattle.core_sides.specs.stitched_netlist.Sites.{Boundary, site_of, row_sides, sides_of}
use Rattle.core_sides.specs.stitched_netlist.Sides.{core_feed, level_net}
use Rattle.core_sides.specs.stitched_netlist.ModelRows.{net_at, enable_of}
use Rattle.core_sides.specs.Pins.{ArePinsThere, AreFew}

-- The nets that the cells give their values.

-- own: by the site of the row, where `side` is the first net between the core and the cell
abbrev pub into_at : Boundary → ℕ → FitRow → Site → List ℕ
into_at B side row site.Observed = []
into_at B side row site.Input = side ∷ []
into_at B side row site.Output = (net_at B row).0 ∷ []
into_at B side row site.AddedDriver = (side + 1) ∷ (net_at B row).0 ∷ []
into_at B side row site.Driver = side ∷ []
into_at B side row site.Inout = side ∷ []
into_at B side row site.Control = side ∷ []

abbrev pub into_of : Boundary → ℕ → FitRow → List ℕ
into_of B side row = into_at B side row (site_of B.ports row)

-- own: those of all these rows, where the nets between begin at `side`
abbrev pub into_from : Boundary → ℕ → List FitRow → List ℕ
into_from B side [] = []
into_from B side (row ∷ rows) = into_of B side row ++ into_from B (side + row_sides B.ports row) rows

-- own: the net is none of these
abbrev pub IsApart : List ℕ → ℕ → Type 0
IsApart [] net = ⊤
IsApart (other ∷ nets) net = (net ≢ other) × IsApart nets net

-- own: no net stands twice
abbrev pub AreApart : List ℕ → Type 0
AreApart [] = ⊤
AreApart (net ∷ nets) = IsApart nets net × AreApart nets

-- own: the nets are there, and nothing drives them
abbrev pub AreFree : NetlistView → List ℕ → Type 0
AreFree N [] = ⊤
AreFree N (net ∷ nets) = (net < length N.nets) × IsFree N net × AreFree N nets

-- own: nothing drives these nets, which are there, and none stands twice
pub record CanBeDriven (N : NetlistView) (into : List ℕ) : Type 0 where
  pub free : AreFree N into
  pub apart : AreApart into

-- own: a net that nothing drove, and that is none of these, stays so
abbrev pub KeepsFree : NetlistView → NetlistView → List ℕ → Type 0
KeepsFree old new into = (net : ℕ) → IsApart into net → net < length old.nets → IsFree old net → IsFree new net

-- What the rows need.

-- own: each row's bit is one of the ports, and the numbers of the nets between fit
pub record IsBoundary (B : Boundary) : Type 0 where
  pub few : AreFew B.rows
  pub pins : ArePinsThere B.ports B.rows
  pub fits : B.first + 2 * length B.rows < 2 ^ 32

-- own: what the cell of a row reads is among the first so many nets, and a control cell that it names is there, as
-- an inout names one
pub record IsReady (B : Boundary) (nets : ℕ) (row : FitRow) : Type 0 where
  pub net : (net_at B row).0 < nets
  pub core : IsFeedBelow nets (core_feed B row)
  pub enable : IsFeedBelow nets (enable_of B row)
  pub level : site_of B.ports row ≡ site.AddedDriver → (level_net B row).0 < nets
  pub control : MatchOption row.control ⊤ (λ number. number < length B.rows)
  pub inout : site_of B.ports row ≡ site.Inout → IsSome row.control

-- own: what the cell of a row is joined to is there: the net of its bit, and the next bit towards TDI
pub record IsJoined (B : Boundary) (scan : ScanNets) (nets : ℕ) (row : FitRow) (net next : NetId) : Type 0 where
  pub steered : AreScanNetsBelow nets scan
  pub boundary : IsBoundary B
  pub ready : IsReady B nets row
  pub net_is : net ≡ net_at B row
  pub next_there : next.0 < nets

-- own: the rows of a boundary can be added to a netlist: at most seven nets and eight cells for each
pub record CanTakeRows (arena : ArenaView) (B : Boundary) : Type 0 where
  pub boundary : IsBoundary B
  pub nets : 8 * length B.rows ≤ arena.spare.nets
  pub cells : 8 * length B.rows ≤ arena.spare.cells
  -- the nets between are there
  pub between : B.first + sides_of B.ports B.rows ≤ length arena.lists.nets
  pub ready : All (IsReady B (length arena.lists.nets)) B.rows
  pub free : AreFree arena.lists (into_from B B.first B.rows)
  pub apart : AreApart (into_from B B.first B.rows)
