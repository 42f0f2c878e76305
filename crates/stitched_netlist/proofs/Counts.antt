-- How many cells and nets the netlist with the test logic has.
use Rattle.std.proofs.Common.{◌≡◌, ℕ, suc, ◌+◌, List, [], ◌∷◌, ◌++◌, map, length, length-append, refl, ◌∙◌, ap, Some, arith}
use Rattle.std.specs.Prelude.{count_by, is_some}
use Rattle.list_laws.proofs.Lists.{slice_get_there}
use Rattle.list_laws.proofs.Options.{is_there}
use Rattle.netlist_model.specs.Lists.{CellView, NetlistView, cell_at, cell_count}
use Rattle.netlist_model.specs.Contained.{IsDense}
use Rattle.gate_parts.specs.Parts.{added_nets}
use Rattle.gate_parts.proofs.Steps.{length-added_nets}
use Rattle.plan_fitting.specs.declared.fitted.Fitted.{Fitted}
use Rattle.stitched_netlist.specs.declared.model.TapNames.{TapNames}
use Rattle.stitched_netlist.specs.Sites.{sides_of}
use Rattle.stitched_netlist.specs.Sides.{core_cell}
use Rattle.stitched_netlist.specs.Stitched.{boundary_at, first_net, live_cells, tap_net_views, test_logic_nets, test_logic_cells, stitched_cells, stitched}
use Rattle.stitched_netlist.specs.PlacesLaws.{port_of}
use Rattle.stitched_netlist.proofs.PlacesLaws.{listed_at, counts_live}
use Rattle.stitched_netlist.proofs.PlacesParts.{length_behind}
use Rattle.stitched_netlist.specs.Sizes.{added_cells, added_net_count, StitchedHasCounts}
use Rattle.stitched_netlist.proofs.CellsLaws.{core_length, T, CIPDR, tdo_from}
use Rattle.stitched_netlist.proofs.Sizes.{numbers}

all_live : (cells : List CellView) → count_by is_some (map Some cells) ≡ length cells
all_live [] = refl
all_live (c ∷ cells) = counts_live c (map Some cells) ∙ ap suc (all_live cells)

pub listed_count : (N : NetlistView) (names : TapNames) (f : Fitted) → cell_count (stitched N names f) ≡ length (stitched_cells N f)
listed_count N names f = all_live (stitched_cells N f)

dense : (N : NetlistView) (names : TapNames) (f : Fitted) → IsDense (stitched N names f)
dense N names f i below =
    let many = listed_count N names f in
    let there = slice_get_there (stitched_cells N f) i (omega arith) in
    is_there (cell_at (stitched N names f) i) there.0 (listed_at (stitched_cells N f) i ∙ there.1)

cells_are : (N : NetlistView) (names : TapNames) (f : Fitted) → cell_count (stitched N names f) ≡ cell_count N + added_cells N f
cells_are N names f =
    let core = map (core_cell (boundary_at N f)) (live_cells N) in
    let logic = test_logic_cells (boundary_at N f) (first_net N f) (cell_count N) (port_of N) f in
    let many = listed_count N names f in
    let both = length-append core logic in
    let c = core_length N f in
    let whole = length_behind (cell_count N) (CIPDR N f) (T N f) in
    let t = tdo_from N f in
    let n = numbers N f in
    let a = n.register in
    let b = n.tdo in
    let d = n.tdo_length (cell_count N + length (CIPDR N f)) in
    omega arith

nets_are : (N : NetlistView) (names : TapNames) (f : Fitted) → length (stitched N names f).nets ≡ length N.nets + added_net_count N f
nets_are N names f =
    let count : ℕ = sides_of N.ports f.rows + test_logic_nets (boundary_at N f) f in
    let added = added_nets (boundary_at N f).first count in
    let outer = length-append N.nets (tap_net_views names ++ added) in
    let inner = length-append (tap_net_views names) added in
    let five : length (tap_net_views names) ≡ 5 = refl in
    let many = length-added_nets (boundary_at N f).first count in
    omega arith

pub counts : StitchedHasCounts
counts N names f = record { dense = dense N names f; cells = cells_are N names f; nets = nets_are N names f }
