-- The steps of stitching a netlist, and the netlist that they come to.
use Rattle.std.proofs.Common.{◌≡◌, ℕ, suc, ◌+◌, ◌-◌, ◌<◌, ◌≤◌, inl, inr, List, [], ◌∷◌, ◌++◌, length, length-append, append_assoc, refl, sym, ◌∙◌, ap, subst, arith, Option, Some, None}
use Rattle.std.specs.Prelude.{map, slice_get, IsSome}
use Rattle.std.specs.Option.{option_map}
use Rattle.std.proofs.lemmas.Bool.{cases_lt}
use Rattle.netlist_model.specs.declared.NetId.{NetId}
use Rattle.netlist_model.specs.Contained.{IsDense}
use Rattle.netlist_model.specs.Lists.{PortView, NetView, CellView, NetlistView, cell_at, cell_count}
use Rattle.netlist_arena.specs.Arena.{ArenaView}
use Rattle.netlist_arena.proofs.Walks.{slice_get-append_right}
use Rattle.gate_parts.specs.Parts.{added_nets}
use Rattle.gate_parts.specs.Appended.{Appended}
use Rattle.gate_parts.proofs.Steps.{length-added_nets, added_nets-add}
use Rattle.plan_fitting.specs.declared.fitted.FitRow.{FitRow}
use Rattle.plan_fitting.specs.declared.fitted.Fitted.{Fitted}
use Rattle.stitched_netlist.specs.declared.model.TapNames.{TapNames}
use Rattle.stitched_netlist.specs.Sites.{Boundary, sides_of}
use Rattle.stitched_netlist.specs.Sides.{core_cell}
use Rattle.stitched_netlist.specs.Stitched.{tap_port, tap_ports, tap_net_views, live_cells, boundary_at, first_net, test_logic_nets, test_logic_cells, stitched, with_nets}
use Rattle.stitched_netlist.specs.Places.{StitchedHoldsTheCore}
use Rattle.stitched_netlist.proofs.PlacesLaws.{listed_at}
use Rattle.stitched_netlist.proofs.CellsLaws.{live_length}
use Rattle.written_netlists.specs.core_sides.Pins.{between}
use Rattle.written_netlists.specs.core_sides.Ready.{CanStandBehind, with_core_behind}
use Rattle.written_netlists.proofs.core_sides.Behind.{mapped_at}
use Rattle.test_logic_parts.specs.Ports.{with_ports}
use Rattle.written_netlists.specs.Same.{IsSameNetlist}
use Rattle.scan_stitch.specs.Stitched.{nets_around, surrounded, CanBeStitched}
use Rattle.scan_stitch.proofs.Surrounded.{mapped_count}

-- Nets behind nets.

-- five nets, and those between behind them
pub nets_joined : (N A A' : NetlistView) (names : TapNames) (rows : List FitRow) (count : ℕ) → A ≡ with_nets (tap_net_views names) N → count ≡ sides_of N.ports rows
    → A' ≡ with_nets (added_nets (length A.nets) count) A → A' ≡ with_nets (nets_around N names rows) N
nets_joined N A A' names rows count one counted two =
    let views : List NetView = tap_net_views names in
    let five : length views ≡ 5 = refl in
    let nets : A.nets ≡ N.nets ++ views = ap (λ (L : NetlistView). L.nets) one in
    let long : length A.nets ≡ length N.nets + 5 = ap length nets ∙ length-append N.nets views ∙ ap (λ (n : ℕ). length N.nets + n) five in
    let more : added_nets (length A.nets) count ≡ added_nets (length N.nets + 5) (sides_of N.ports rows)
    = ap (λ (n : ℕ). added_nets n count) long ∙ ap (λ (n : ℕ). added_nets (length N.nets + 5) n) counted in
    let P : NetlistView → List NetView → NetlistView = λ L xs. record L { nets = L.nets ++ xs } in
    let Q : List NetView → NetlistView = λ xs. record N { nets = xs } in
    two ∙ ap (λ (xs : List NetView). P A xs) more ∙ ap (λ (L : NetlistView). P L (added_nets (length N.nets + 5) (sides_of N.ports rows))) one
    ∙ ap Q (append_assoc N.nets views (added_nets (length N.nets + 5) (sides_of N.ports rows)))

pub first_is : (N A : NetlistView) (names : TapNames) (first : NetId) → A ≡ with_nets (tap_net_views names) N → first.0 ≡ length A.nets → first.0 ≡ length N.nets + 5
first_is N A names first one is =
    let views : List NetView = tap_net_views names in
    let five : length views ≡ 5 = refl in
    let nets : A.nets ≡ N.nets ++ views = ap (λ (L : NetlistView). L.nets) one in
    let both = length-append N.nets views in
    let long : length A.nets ≡ length (N.nets ++ views) = ap length nets in
    omega arith

pub can_stand : (N A : NetlistView) (names : TapNames) (f : Fitted) (rows : List FitRow) (first : NetId) → CanBeStitched N names f → rows ≡ f.rows
    → A ≡ with_nets (nets_around N names f.rows) N → first.0 ≡ length N.nets + 5 → CanStandBehind A rows first.0
can_stand N A names f rows first can same is at =
    let P : NetlistView → List FitRow → ℕ → Type 0 = λ L rs n. CanStandBehind L rs n in
    subst (λ (L : NetlistView). P L rows first.0) (sym is)
    (subst (λ (rs : List FitRow). P (with_nets (nets_around N names f.rows) N) rs first.0) (sym same)
    (subst (λ (n : ℕ). P (with_nets (nets_around N names f.rows) N) f.rows n) (sym at) can.stands))

pub surrounded_is : (N A A' : NetlistView) (names : TapNames) (rows rows' : List FitRow) (first : NetId) → rows' ≡ rows → A ≡ with_nets (nets_around N names rows) N
    → first.0 ≡ length N.nets + 5 → A' ≡ with_core_behind (between A.ports rows' first) A → A' ≡ surrounded N names rows
surrounded_is N A A' names rows rows' first same is at moved =
    let B : ℕ → List FitRow → Boundary = λ n rs. record { ports = N.ports; rows = rs; first = n } in
    let P : NetlistView → NetlistView = λ L. with_core_behind (between L.ports rows' first) L in
    let W : NetlistView = with_nets (nets_around N names rows) N in
    moved ∙ ap P is ∙ ap (λ (rs : List FitRow). with_core_behind (B first.0 rs) W) same ∙ ap (λ (n : ℕ). with_core_behind (B n rows) W) at

-- The netlist that they come to.

mapped_lists : {X Y : Type 0} (to : X → Y) (xs : List X) → length (map to xs) ≡ length xs
mapped_lists to [] = refl
mapped_lists to (x ∷ xs) = ap (λ (n : ℕ). suc n) (mapped_lists to xs)

-- the cells of the test logic stand behind those of the core
added_at : (N : NetlistView) (names : TapNames) (f : Fitted) (k : ℕ)
    → cell_at (stitched N names f) (cell_count N + k) ≡ slice_get (test_logic_cells (boundary_at N f) (first_net N f) (cell_count N) (tap_port (length N.nets)) f) k
added_at N names f k =
    let core : List CellView = map (core_cell (boundary_at N f)) (live_cells N) in
    let added : List CellView = test_logic_cells (boundary_at N f) (first_net N f) (cell_count N) (tap_port (length N.nets)) f in
    let long : length core ≡ cell_count N = mapped_lists (core_cell (boundary_at N f)) (live_cells N) ∙ live_length N.cells in
    let e : cell_count N + k ≡ length core + k = omega arith in
    listed_at (core ++ added) (cell_count N + k) ∙ ap (λ (n : ℕ). slice_get (core ++ added) n) e ∙ slice_get-append_right core added k

core_at : StitchedHoldsTheCore → (N : NetlistView) (names : TapNames) (f : Fitted) → IsDense N → (i : ℕ) (place : Option CellView) → cell_at N i ≡ place → IsSome place
    → option_map (core_cell (boundary_at N f)) place ≡ cell_at (stitched N names f) i
core_at holds N names f dense i None at there = absurd (cc there)
core_at holds N names f dense i (Some cell) at there = sym ((holds N names f dense).stands i cell at)

pub same_netlist : StitchedHoldsTheCore → (N : NetlistView) (names : TapNames) (f : Fitted) (A A' : ArenaView) (new : NetlistView) → IsDense N → A.lists ≡ surrounded N names f.rows
    → Appended A A' (test_logic_nets (boundary_at N f) f) (test_logic_cells (boundary_at N f) (length A.lists.nets) (cell_count A.lists) (tap_port (length N.nets)) f)
    → new ≡ with_ports (tap_ports names (tap_port (length N.nets))) A'.lists → IsSameNetlist new (stitched N names f)
same_netlist holds N names f A A' new dense is added grown =
    let B : Boundary = boundary_at N f in
    let sides : ℕ = sides_of N.ports f.rows in
    let tap = tap_ports names (tap_port (length N.nets)) in
    let count : ℕ = test_logic_nets B f in
    let views : List NetView = tap_net_views names in
    let nets : A.lists.nets ≡ N.nets ++ nets_around N names f.rows = ap (λ (L : NetlistView). L.nets) is in
    let five : length views ≡ 5 = refl in
    let many = length-added_nets (length N.nets + 5) sides in
    let both = length-append views (added_nets (length N.nets + 5) sides) in
    let all = length-append N.nets (nets_around N names f.rows) in
    let long0 : length A.lists.nets ≡ length (N.nets ++ nets_around N names f.rows) = ap length nets in
    let long : length A.lists.nets ≡ B.first + sides = omega arith in
    let cells : cell_count A.lists ≡ cell_count N = ap (λ (L : NetlistView). cell_count L) is ∙ mapped_count (core_cell B) N.cells in
    let P : ℕ → ℕ → List CellView = λ first number. test_logic_cells B first number (tap_port (length N.nets)) f in
    let part : P (length A.lists.nets) (cell_count A.lists) ≡ P (first_net N f) (cell_count N)
    = ap (λ (n : ℕ). P n (cell_count A.lists)) long ∙ ap (λ (n : ℕ). P (first_net N f) n) cells in
    let more : added_nets (length A.lists.nets) count ≡ added_nets (B.first + sides) count = ap (λ (n : ℕ). added_nets n count) long in
    let split = added_nets-add B.first sides count in
    record {
      library = ap (λ (L : NetlistView). L.library) grown ∙ added.library ∙ ap (λ (L : NetlistView). L.library) is;
      ports = ap (λ (L : NetlistView). L.ports) grown ∙ ap (λ (ps : List PortView). ps ++ tap) added.ports ∙ ap (λ (L : NetlistView). L.ports ++ tap) is;
      nets = ap (λ (L : NetlistView). L.nets) grown ∙ added.net_list ∙ ap (λ (xs : List NetView). xs ++ added_nets (length A.lists.nets) count) nets
          ∙ ap (λ (xs : List NetView). (N.nets ++ nets_around N names f.rows) ++ xs) more
          ∙ append_assoc N.nets (nets_around N names f.rows) (added_nets (B.first + sides) count)
          ∙ ap (λ (xs : List NetView). N.nets ++ xs) (append_assoc views (added_nets B.first sides) (added_nets (B.first + sides) count) ∙ ap (λ (xs : List NetView). views ++ xs) (sym split));
      cells = λ number.
          let there : cell_at new number ≡ cell_at A'.lists number = ap (λ (L : NetlistView). cell_at L number) grown in
          elim (cases_lt number (cell_count N)) [
            | inl low ↦
                (let low' : number < cell_count A.lists = omega arith in
                there ∙ added.kept number low' ∙ ap (λ (L : NetlistView). cell_at L number) is ∙ mapped_at (core_cell B) N.cells number
                ∙ core_at holds N names f dense number (cell_at N number) refl (dense number low))
            | inr past ↦
                (let k : ℕ = number - cell_count N in
                let e : cell_count A.lists + k ≡ number = omega arith in
                let e' : cell_count N + k ≡ number = omega arith in
                let here : cell_at A'.lists number ≡ slice_get (P (length A.lists.nets) (cell_count A.lists)) k
                = ap (λ (n : ℕ). cell_at A'.lists n) (sym e) ∙ added.added k in
                let wanted : cell_at (stitched N names f) number ≡ slice_get (P (first_net N f) (cell_count N)) k
                = ap (λ (n : ℕ). cell_at (stitched N names f) n) (sym e') ∙ added_at N names f k in
                there ∙ here ∙ ap (λ (cs : List CellView). slice_get cs k) part ∙ sym wanted)
          ];
    }
