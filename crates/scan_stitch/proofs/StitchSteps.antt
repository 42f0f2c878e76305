-- What each step of stitching a netlist finds there.
use Rattle.std.proofs.Common.{◌≡◌, ◌≢◌, ℕ, ◌+◌, ◌*◌, ◌<◌, ◌≤◌, List, ◌++◌, map, length, length-append, refl, sym, ◌∙◌, ap, subst, arith, Option, None}
use Rattle.std.specs.Prelude.{IsSome}
use Rattle.netlist_model.specs.declared.Dir.TheVariants.{Input, Output}
use Rattle.netlist_model.specs.declared.NetId.{NetId}
use Rattle.netlist_model.specs.Formed.{IsLaidOut}
use Rattle.netlist_model.specs.Contained.{IsDense}
use Rattle.netlist_model.specs.Lists.{PortView, CellView, NetlistView, cell_at, direction, cell_count}
use Rattle.netlist_arena.specs.Arena.{ArenaView}
use Rattle.netlist_arena.specs.Adds.{IsFree, CanBePin}
use Rattle.gate_parts.specs.Appended.{Appended}
use Rattle.gate_parts.specs.Laws.{AppendedCount}
use Rattle.gate_parts.proofs.Steps.{dense_after}
use Rattle.plan_fitting.specs.declared.fitted.FitRow.{FitRow}
use Rattle.plan_fitting.specs.declared.fitted.Fitted.{Fitted}
use Rattle.stitched_netlist.specs.declared.model.TapNames.{TapNames}
use Rattle.stitched_netlist.specs.declared.model.TapPort.{TapPort}
use Rattle.stitched_netlist.specs.Sites.{Boundary, boundary_of, sides_of}
use Rattle.stitched_netlist.specs.Sides.{core_cell}
use Rattle.stitched_netlist.specs.declared.model.Logic.{Logic}
use Rattle.stitched_netlist.specs.ModelLogic.{logic_at}
use Rattle.stitched_netlist.specs.Stitched.{tap_port, first_net, live_cells, test_logic_nets, test_logic_cells, stitched_cells}
use Rattle.stitched_netlist.proofs.ModelMoves.{sides_few}
use Rattle.stitched_netlist.proofs.CellsLaws.{core_length}
use Rattle.written_netlists.specs.Prepared.{room_of}
use Rattle.written_netlists.specs.core_sides.Pins.{between}
use Rattle.test_logic_parts.specs.Ports.{with_ports, CanBePort}
use Rattle.test_logic_parts.specs.Rows.{into_from, IsApart}
use Rattle.test_logic_parts.specs.Whole.{net_room, cell_room, CanTakeLogic}
use Rattle.scan_stitch.specs.Stitched.{surrounded, CanBeStitched}
use Rattle.scan_stitch.proofs.Surrounded.{no_port, lone_free, length_around, mapped_count, can_take, port_apart}

pub same_boundary : (N M : NetlistView) (rows rows' : List FitRow) (first : NetId) → M.ports ≡ N.ports → rows' ≡ rows → first.0 ≡ length N.nets + 5 → between M.ports rows' first ≡ boundary_of N rows
same_boundary N M rows rows' first ports same at =
    let B : List PortView → List FitRow → ℕ → Boundary = λ ps rs n. record { ports = ps; rows = rs; first = n } in
    ap (λ (ps : List PortView). B ps rows' first.0) ports ∙ ap (λ (rs : List FitRow). B N.ports rs first.0) same ∙ ap (λ (n : ℕ). B N.ports rows n) at

pub logic_can : (N : NetlistView) (names : TapNames) (f : Fitted) (A : ArenaView) (B : Boundary) (port : TapPort) (old_nets old_cells : ℕ) → A.lists ≡ surrounded N names f.rows → IsLaidOut N
    → CanBeStitched N names f → B ≡ boundary_of N f.rows → port ≡ tap_port (length N.nets) → A.spare.nets + (5 + sides_of N.ports f.rows) ≡ old_nets → A.spare.cells ≡ old_cells
    → room_of f ≤ old_nets → room_of f ≤ old_cells → CanTakeLogic A B f port
logic_can N names f A B port old_nets old_cells is laid can bound port_is nets cells room places =
    let few = sides_few N.ports f.rows in
    let P : Boundary → TapPort → Type 0 = λ b p. CanTakeLogic A b f p in
    subst (λ (b : Boundary). P b port) (sym bound)
    (subst (λ (p : TapPort). P (boundary_of N f.rows) p) (sym port_is) (can_take N names f A is laid can (omega arith) (omega arith)))

-- the nets of the port
pin_can : (M : NetlistView) (net : NetId) → net.0 < length M.nets → direction M.ports net.0 ≡ None → IsFree M net.0 → CanBePin M Input net
pin_can M net low none free = record { there = low; inside = none; undriven = λ e. free.undriven }

out_can : (M : NetlistView) (net : NetId) → net.0 < length M.nets → direction M.ports net.0 ≡ None → CanBePin M Output net
out_can M net low none = record { there = low; inside = none; undriven = λ e. absurd (cc) }

ports_around : (N : NetlistView) (names : TapNames) (f : Fitted) (M : NetlistView) → IsLaidOut N → CanBeStitched N names f → M.ports ≡ N.ports
    → length (surrounded N names f.rows).nets ≤ length M.nets
    → ((net : ℕ) → IsApart (into_from (boundary_of N f.rows) (length N.nets + 5) f.rows) net → net ≢ length N.nets + 3 → net < length (surrounded N names f.rows).nets
    → IsFree (surrounded N names f.rows) net → IsFree M net) → CanBePort M (tap_port (length N.nets))
ports_around N names f M laid can ports more keeps =
    let long = length_around N names f.rows in
    let n : ℕ = length N.nets in
    let none : (net : ℕ) → n ≤ net → direction M.ports net ≡ None = λ net past. ap (λ (ps : List PortView). direction ps net) ports ∙ no_port N laid net past in
    let free : (net : ℕ) → n ≤ net → net < n + 5 → net ≢ n + 3 → IsFree M net
    = λ net past low differ. keeps net (port_apart N names f laid can net past low) differ (omega arith) (lone_free N names f.rows laid net past low) in
    record {
      tck = pin_can M (record { 0 = n }) (omega arith) (none n (omega arith)) (free n (omega arith) (omega arith) (λ e. omega arith));
      tms = pin_can M (record { 0 = n + 1 }) (omega arith) (none (n + 1) (omega arith)) (free (n + 1) (omega arith) (omega arith) (λ e. omega arith));
      tdi = pin_can M (record { 0 = n + 2 }) (omega arith) (none (n + 2) (omega arith)) (free (n + 2) (omega arith) (omega arith) (λ e. omega arith));
      tdo = out_can M (record { 0 = n + 3 }) (omega arith) (none (n + 3) (omega arith));
      trst = pin_can M (record { 0 = n + 4 }) (omega arith) (none (n + 4) (omega arith)) (free (n + 4) (omega arith) (omega arith) (λ e. omega arith));
      tms_next = omega arith;
      tdi_next = omega arith;
      tdo_next = omega arith;
      trst_next = omega arith;
    }

-- what adding the test logic left
pub record LogicThere (A A' : ArenaView) (B : Boundary) (port : TapPort) : Type 0 where
  pub ports : A'.lists.ports ≡ A.lists.ports
  pub more : length A.lists.nets ≤ length A'.lists.nets
  pub free : (net : ℕ) → IsApart (into_from B B.first B.rows) net → net ≢ port.tdo.0 → net < length A.lists.nets → IsFree A.lists net → IsFree A'.lists net

pub ports_can : (N : NetlistView) (names : TapNames) (f : Fitted) (A A' : ArenaView) (B : Boundary) (port : TapPort) → A.lists ≡ surrounded N names f.rows → IsLaidOut N → CanBeStitched N names f
    → B ≡ boundary_of N f.rows → port ≡ tap_port (length N.nets) → LogicThere A A' B port → CanBePort A'.lists port
ports_can N names f A A' B port is laid can bound port_is there =
    let P : Boundary → TapPort → Type 0 = λ b p. LogicThere A A' b p in
    let there' = subst (λ (b : Boundary). P b (tap_port (length N.nets))) bound (subst (λ (p : TapPort). P B p) port_is there) in
    let S : NetlistView = surrounded N names f.rows in
    let Q : NetlistView → Type 0 = λ L. (net : ℕ) → IsApart (into_from (boundary_of N f.rows) (length N.nets + 5) f.rows) net → net ≢ length N.nets + 3 → net < length L.nets
    → IsFree L net → IsFree A'.lists net in
    let keeps : Q S = subst Q is there'.free in
    let R : NetlistView → Type 0 = λ L. length L.nets ≤ length A'.lists.nets in
    let more : R S = subst R is there'.more in
    subst (λ (p : TapPort). CanBePort A'.lists p) (sym port_is)
    (ports_around N names f A'.lists laid can (there.ports ∙ ap (λ (L : NetlistView). L.ports) is) more keeps)

-- how many nets and cells there are then
pub few_nets : AppendedCount → (N : NetlistView) (names : TapNames) (f : Fitted) (A A' : ArenaView) (new : NetlistView) (tap : List PortView) (count : ℕ) (part : List CellView)
    → A.lists ≡ surrounded N names f.rows → Appended A A' count part → new ≡ with_ports tap A'.lists → A.spare.nets ≤ A'.spare.nets + net_room f → length new.nets < length N.nets + room_of f
few_nets counted N names f A A' new tap count part is added grown left =
    let few = sides_few N.ports f.rows in
    let more = counted A A' count part added in
    let used = added.net_room in
    let long = length_around N names f.rows in
    let here : length A.lists.nets ≡ length (surrounded N names f.rows).nets = ap (λ (L : NetlistView). length L.nets) is in
    let there : length new.nets ≡ length A'.lists.nets = ap (λ (L : NetlistView). length L.nets) grown in
    omega arith

pub few_cells : (N : NetlistView) (names : TapNames) (f : Fitted) (A A' : ArenaView) (new : NetlistView) (tap : List PortView) (count : ℕ) (part : List CellView)
    → A.lists ≡ surrounded N names f.rows → Appended A A' count part → new ≡ with_ports tap A'.lists → A.spare.cells ≤ A'.spare.cells + cell_room f → cell_count new < cell_count N + room_of f
few_cells N names f A A' new tap count part is added grown left =
    let used = added.cell_room in
    let more = added.counted in
    let here : cell_count A.lists ≡ cell_count N = ap (λ (L : NetlistView). cell_count L) is ∙ mapped_count (core_cell (boundary_of N f.rows)) N.cells in
    let there : cell_count new ≡ cell_count A'.lists = ap (λ (L : NetlistView). cell_count L) grown in
    omega arith

-- nets and cells that are there, and those for which there is room, are as many as before
pub net_sum : AppendedCount → (N : NetlistView) (names : TapNames) (f : Fitted) (A A' : ArenaView) (new : NetlistView) (tap : List PortView) (count : ℕ) (part : List CellView) (old_spare new_spare : ℕ)
    → A.lists ≡ surrounded N names f.rows → Appended A A' count part → new ≡ with_ports tap A'.lists → A.spare.nets + (5 + sides_of N.ports f.rows) ≡ old_spare → new_spare ≡ A'.spare.nets
    → length new.nets + new_spare ≡ length N.nets + old_spare
net_sum counted N names f A A' new tap count part old_spare new_spare is added grown before after =
    let more = counted A A' count part added in
    let used = added.net_room in
    let long = length_around N names f.rows in
    let here : length A.lists.nets ≡ length (surrounded N names f.rows).nets = ap (λ (L : NetlistView). length L.nets) is in
    let there : length new.nets ≡ length A'.lists.nets = ap (λ (L : NetlistView). length L.nets) grown in
    omega arith

pub cell_sum : (N : NetlistView) (names : TapNames) (f : Fitted) (A A' : ArenaView) (new : NetlistView) (tap : List PortView) (count : ℕ) (part : List CellView) (old_spare new_spare : ℕ)
    → A.lists ≡ surrounded N names f.rows → Appended A A' count part → new ≡ with_ports tap A'.lists → A.spare.cells ≡ old_spare → new_spare ≡ A'.spare.cells
    → cell_count new + new_spare ≡ cell_count N + old_spare
cell_sum N names f A A' new tap count part old_spare new_spare is added grown before after =
    let used = added.cell_room in
    let more = added.counted in
    let here : cell_count A.lists ≡ cell_count N = ap (λ (L : NetlistView). cell_count L) is ∙ mapped_count (core_cell (boundary_of N f.rows)) N.cells in
    let there : cell_count new ≡ cell_count A'.lists = ap (λ (L : NetlistView). cell_count L) grown in
    omega arith

-- what the controller and the registers hand on
pub logic_built : (N : NetlistView) (names : TapNames) (f : Fitted) (A : ArenaView) (port : TapPort) (logic : Logic) → A.lists ≡ surrounded N names f.rows → port ≡ tap_port (length N.nets)
    → logic ≡ logic_at (length A.lists.nets) port f → logic ≡ logic_at (first_net N f) (tap_port (length N.nets)) f
logic_built N names f A port logic is port_is logic_is =
    let long = length_around N names f.rows in
    let here : length A.lists.nets ≡ length (surrounded N names f.rows).nets = ap (λ (L : NetlistView). length L.nets) is in
    let start : first_net N f ≡ length N.nets + 5 + sides_of N.ports f.rows = refl in
    let first : length A.lists.nets ≡ first_net N f = omega (arith, long, here, start) in
    logic_is ∙ ap (λ (n : ℕ). logic_at n port f) first ∙ ap (λ (p : TapPort). logic_at (first_net N f) p f) port_is

-- it has no gaps, and the cells of the list
pub built_dense : (A A' : ArenaView) (new : NetlistView) (tap : List PortView) (count : ℕ) (part : List CellView) → Appended A A' count part → new ≡ with_ports tap A'.lists → IsDense new
built_dense A A' new tap count part added grown =
    let same : (i : ℕ) → cell_at A'.lists i ≡ cell_at new i = λ i. sym (ap (λ (L : NetlistView). cell_at L i) grown) in
    let many : cell_count new ≡ cell_count A'.lists = ap (λ (L : NetlistView). cell_count L) grown in
    λ i low. subst (λ (place : Option CellView). IsSome place) (same i) (dense_after A A' count part added i (omega (arith, low, many)))

pub built_count : (N : NetlistView) (names : TapNames) (f : Fitted) (A A' : ArenaView) (B : Boundary) (port : TapPort) (new : NetlistView) (tap : List PortView) → A.lists ≡ surrounded N names f.rows
    → B ≡ boundary_of N f.rows → port ≡ tap_port (length N.nets)
    → Appended A A' (test_logic_nets B f) (test_logic_cells B (length A.lists.nets) (cell_count A.lists) port f) → new ≡ with_ports tap A'.lists → cell_count new ≡ length (stitched_cells N f)
built_count N names f A A' B port new tap is bound port_is added grown =
    let long = length_around N names f.rows in
    let here : length A.lists.nets ≡ length (surrounded N names f.rows).nets = ap (λ (L : NetlistView). length L.nets) is in
    let start : first_net N f ≡ length N.nets + 5 + sides_of N.ports f.rows = refl in
    let first : length A.lists.nets ≡ first_net N f = omega (arith, long, here, start) in
    let cells : cell_count A.lists ≡ cell_count N = ap (λ (L : NetlistView). cell_count L) is ∙ mapped_count (core_cell (boundary_of N f.rows)) N.cells in
    let P : Boundary → ℕ → ℕ → TapPort → ℕ = λ b n k p. length (test_logic_cells b n k p f) in
    let part : length (test_logic_cells B (length A.lists.nets) (cell_count A.lists) port f)
    ≡ length (test_logic_cells (boundary_of N f.rows) (first_net N f) (cell_count N) (tap_port (length N.nets)) f)
    = ap (λ (b : Boundary). P b (length A.lists.nets) (cell_count A.lists) port) bound
    ∙ ap (λ (n : ℕ). P (boundary_of N f.rows) n (cell_count A.lists) port) first
    ∙ ap (λ (k : ℕ). P (boundary_of N f.rows) (first_net N f) k port) cells
    ∙ ap (λ (p : TapPort). P (boundary_of N f.rows) (first_net N f) (cell_count N) p) port_is in
    let more = added.counted in
    let there : cell_count new ≡ cell_count A'.lists = ap (λ (L : NetlistView). cell_count L) grown in
    let core : length (map (core_cell (boundary_of N f.rows)) (live_cells N)) ≡ cell_count N = core_length N f in
    let both = length-append (map (core_cell (boundary_of N f.rows)) (live_cells N)) (test_logic_cells (boundary_of N f.rows) (first_net N f) (cell_count N) (tap_port (length N.nets)) f) in
    let whole : length (stitched_cells N f)
    ≡ length (map (core_cell (boundary_of N f.rows)) (live_cells N) ++ test_logic_cells (boundary_of N f.rows) (first_net N f) (cell_count N) (tap_port (length N.nets)) f) = refl in
    omega (arith, cells, part, more, there, core, both, whole)
