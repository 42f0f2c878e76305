-- Where the nets of rows stand, and which row a net is of.
use Rattle.std.proofs.Common.{◌≡◌, ℕ, suc, ◌+◌, ◌-◌, ◌<◌, ◌≤◌, take, drop, length, refl, arith, Some}
use Rattle.std.specs.Prelude.{slice_get}
use Rattle.netlist_model.specs.Lists.{NetlistView}
use Rattle.plan_fitting.specs.declared.fitted.FitRow.{FitRow}
use Rattle.plan_fitting.specs.declared.fitted.Fitted.{Fitted}
use Rattle.stitched_netlist.specs.Sites.{row_sides, sides_of}
use Rattle.stitched_netlist.specs.ModelRows.{row_nets, nets_of_rows}
use Rattle.stitched_netlist.specs.Stitched.{first_net}
use Rattle.stitched_netlist.specs.PlacesLaws.{register_net, row_first, row_side}
use Rattle.stitched_netlist.specs.Sizes.{added_net_count}
use Rattle.stitched_netlist.proofs.Sums.{same_take, share_take, in_take, same_drop, share_drop, in_drop}

-- own: the first of TDO's own nets
abbrev pub tdo_net : NetlistView → Fitted → ℕ
tdo_net N f = register_net N f + nets_of_rows N.ports f.rows

-- own: how many nets there are
abbrev pub net_count : NetlistView → Fitted → ℕ
net_count N f = length N.nets + added_net_count N f

-- The nets between the core and its boundary cells.

pub record SideRange (N : NetlistView) (f : Fitted) (k : ℕ) (row : FitRow) (net : ℕ) : Type 0 where
  pub low : length N.nets + 5 ≤ net
  pub high : net < first_net N f

pub side_range : (N : NetlistView) (f : Fitted) (k : ℕ) (row : FitRow) (e : ℕ) → slice_get f.rows k ≡ Some row → e < row_sides N.ports row → SideRange N f k row (row_side N f k + e)
side_range N f k row e there low =
    let share = share_take (row_sides N.ports) f.rows k row there in
    let start : row_side N f k ≡ length N.nets + 5 + sides_of N.ports (take k f.rows) = refl in
    let end : first_net N f ≡ length N.nets + 5 + sides_of N.ports f.rows = refl in
    record { low = omega arith; high = omega arith }

pub same_side : (N : NetlistView) (f : Fitted) (j k : ℕ) (one other : FitRow) (a b : ℕ) → slice_get f.rows j ≡ Some one → slice_get f.rows k ≡ Some other
    → a < row_sides N.ports one → b < row_sides N.ports other → row_side N f j + a ≡ row_side N f k + b → j ≡ k
same_side N f j k one other a b at there low low' same =
    let start : row_side N f j ≡ length N.nets + 5 + sides_of N.ports (take j f.rows) = refl in
    let begin : row_side N f k ≡ length N.nets + 5 + sides_of N.ports (take k f.rows) = refl in
    same_take (row_sides N.ports) f.rows j k one other a b at there low low' (omega arith)

pub record IsSide (N : NetlistView) (f : Fitted) (net : ℕ) : Type 0 where
  pub k : ℕ
  pub row : FitRow
  pub e : ℕ
  pub there : slice_get f.rows k ≡ Some row
  pub low : e < row_sides N.ports row
  pub is : net ≡ row_side N f k + e

pub is_side : (N : NetlistView) (f : Fitted) (net : ℕ) → length N.nets + 5 ≤ net → net < first_net N f → IsSide N f net
is_side N f net low high =
    let end : first_net N f ≡ length N.nets + 5 + sides_of N.ports f.rows = refl in
    let at = in_take (row_sides N.ports) f.rows (net - (length N.nets + 5)) (omega arith) in
    let is = at.is in
    let start : row_side N f at.k ≡ length N.nets + 5 + sides_of N.ports (take at.k f.rows) = refl in
    record { k = at.k; row = at.x; e = at.j; there = at.there; low = at.low; is = omega arith }

-- The nets of rows.

pub record RowRange (N : NetlistView) (f : Fitted) (net : ℕ) : Type 0 where
  pub low : register_net N f ≤ net
  pub high : net < tdo_net N f

pub row_range : (N : NetlistView) (f : Fitted) (k : ℕ) (row : FitRow) (j : ℕ) → slice_get f.rows k ≡ Some row → j < row_nets N.ports row → RowRange N f (row_first N f k + j)
row_range N f k row j there low =
    let share = share_drop (row_nets N.ports) f.rows k row there in
    let start : row_first N f k ≡ register_net N f + nets_of_rows N.ports (drop (suc k) f.rows) = refl in
    record { low = omega arith; high = omega arith }

pub same_row : (N : NetlistView) (f : Fitted) (j k : ℕ) (one other : FitRow) (a b : ℕ) → slice_get f.rows j ≡ Some one → slice_get f.rows k ≡ Some other
    → a < row_nets N.ports one → b < row_nets N.ports other → row_first N f j + a ≡ row_first N f k + b → j ≡ k
same_row N f j k one other a b at there low low' same =
    let start : row_first N f j ≡ register_net N f + nets_of_rows N.ports (drop (suc j) f.rows) = refl in
    let begin : row_first N f k ≡ register_net N f + nets_of_rows N.ports (drop (suc k) f.rows) = refl in
    same_drop (row_nets N.ports) f.rows j k one other a b at there low low' (omega arith)

pub record IsRowNet (N : NetlistView) (f : Fitted) (net : ℕ) : Type 0 where
  pub k : ℕ
  pub row : FitRow
  pub j : ℕ
  pub there : slice_get f.rows k ≡ Some row
  pub low : j < row_nets N.ports row
  pub is : net ≡ row_first N f k + j

pub is_row_net : (N : NetlistView) (f : Fitted) (net : ℕ) → register_net N f ≤ net → net < tdo_net N f → IsRowNet N f net
is_row_net N f net low high =
    let at = in_drop (row_nets N.ports) f.rows (net - register_net N f) (omega arith) in
    let is = at.is in
    let start : row_first N f at.k ≡ register_net N f + nets_of_rows N.ports (drop (suc at.k) f.rows) = refl in
    record { k = at.k; row = at.x; j = at.j; there = at.there; low = at.low; is = omega arith }
