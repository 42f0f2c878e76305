-- What the core's side of boundary cells is looked up by: bits that are there, few rows, and the first net between.
-- Own.
use Rattle.std.specs.Prelude.{ℕ, ◌≤◌, List, All, length, ⊤, MatchOption, IsSome}
use Rattle.netlist_model.specs.declared.NetId.{NetId}
use Rattle.netlist_model.specs.Lists.{PortView}
use Rattle.stitched_netlist.specs.plan_fitting.declared.fitted.FitRow.{FitRow}
use Rattle.stitched_netlist.specs.Sites.{Boundary, pin_net}

-- the bit of the row is one of these ports
abbrev pub IsPinThere : List PortView → FitRow → Type 0
IsPinThere ports row = MatchOption row.pin ⊤ (λ pin. IsSome (pin_net ports pin))

abbrev pub ArePinsThere : List PortView → List FitRow → Type 0
ArePinsThere ports rows = All (IsPinThere ports) rows

-- as many rows as there may be port bits, and a control cell for each
abbrev pub AreFew : List FitRow → Type 0
AreFew rows = length rows ≤ 8192

-- own: what the cells of these rows stand between, where the first net between is this
abbrev pub between : List PortView → List FitRow → NetId → Boundary
between ports rows first = record { ports = ports; rows = rows; first = first.0 }
