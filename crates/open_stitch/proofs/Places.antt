-- The steps of building in the test logic and the buffer, and what stands where.
use Rattle.std.proofs.Common.{◌≡◌, ◌≢◌, ℕ, zero, suc, ◌+◌, ◌<◌, ◌≤◌, List, [], ◌∷◌, ◌++◌, set, length, length-append, Option, Some, None, refl, ap, sym, ◌∙◌, subst, arith, option_map, ◌==◌, Bool, true, false, eqb-true, eq-eqb}
use Rattle.std.specs.Prelude.{slice_get, count_by, is_some, IsSome}
use Rattle.cell_library.specs.declared.Kind.TheVariants.{Buf}
use Rattle.netlist_model.specs.declared.Name.TheVariants.{Added}
use Rattle.netlist_model.specs.declared.NetId.{NetId}
use Rattle.netlist_model.specs.declared.Feed.{Feed}
use Rattle.netlist_model.specs.declared.Feed.TheVariants.{Net}
use Rattle.netlist_model.specs.Lists.{NetView, CellView, NetlistView, live_cell, cell_at, cell_count, IsDrivenOnce}
use Rattle.netlist_model.specs.Contained.{IsDense}
use Rattle.netlist_model.specs.Formed.{IsLaidOut}
use Rattle.netlist_arena.specs.Arena.{ArenaView}
use Rattle.netlist_arena.specs.Looks.{feed_at}
use Rattle.netlist_arena.specs.Moves.{with_feed, connected}
use Rattle.gate_parts.specs.Appended.{Appended}
use Rattle.gate_parts.specs.Parts.{added_nets, part_cells}
use Rattle.gate_parts.proofs.Steps.{length-added_nets}
use Rattle.plan_fitting.specs.declared.fitted.Fitted.{Fitted}
use Rattle.stitched_netlist.specs.declared.model.TapNames.{TapNames}
use Rattle.stitched_netlist.specs.Sites.{sides_of}
use Rattle.stitched_netlist.specs.declared.model.Logic.{Logic}
use Rattle.stitched_netlist.specs.ModelRows.{nets_of_rows}
use Rattle.stitched_netlist.specs.ModelLogic.{logic_size, code_size, bypass_from, bypass_at, logic_at}
use Rattle.stitched_netlist.specs.Stitched.{tap_port, tap_net_views, boundary_at, first_net, test_logic_nets, stitched_cells, stitched}
use Rattle.stitched_netlist.proofs.PlacesLaws.{listed_at, counts_live, counts_empty}
use Rattle.scan_stitch.specs.written_netlists.Same.{IsSameNetlist}
use Rattle.open_stitch.specs.Connected.{shows}
use Rattle.open_stitch.proofs.Connected.{choice_at, choice_stands}
use Rattle.open_stitch.specs.declared.TheConstants.{THROUGH}
use Rattle.open_stitch.specs.Open.{through_number, through_net, through_cell}

-- A is the netlist with the test logic, B has the buffer too, and in C TDO's gate reads its net
pub record Steps (N : NetlistView) (names : TapNames) (f : Fitted) (A B : ArenaView) (C : NetlistView) (gate : ℕ) : Type 0 where
  pub dense : IsDense N
  pub same : IsSameNetlist A.lists (stitched N names f)
  pub full : IsDense A.lists
  pub count : cell_count A.lists ≡ length (stitched_cells N f)
  pub gate_is : gate + 3 ≡ cell_count A.lists
  pub added : Appended A B 1 (part_cells THROUGH (Net (bypass_at (first_net N f) f) ∷ []) (length A.lists.nets) (cell_count A.lists))
  pub laid : IsLaidOut A.lists
  pub once : IsDrivenOnce B.lists
  pub is : C ≡ connected gate 1 (Net (record { 0 = length A.lists.nets })) B.lists

-- Nets.

pub stitched_nets : (N : NetlistView) (names : TapNames) (f : Fitted) → length (stitched N names f).nets ≡ first_net N f + test_logic_nets (boundary_at N f) f
stitched_nets N names f =
    let more : List NetView = added_nets (boundary_at N f).first (sides_of N.ports f.rows + test_logic_nets (boundary_at N f) f) in
    let five : length (tap_net_views names) ≡ 5 = refl in
    let many = length-added_nets (boundary_at N f).first (sides_of N.ports f.rows + test_logic_nets (boundary_at N f) f) in
    let both = length-append (tap_net_views names) more in
    let all = length-append N.nets (tap_net_views names ++ more) in
    let is : length (stitched N names f).nets ≡ length (N.nets ++ (tap_net_views names ++ more)) = refl in
    let start : first_net N f ≡ length N.nets + 5 + sides_of N.ports f.rows = refl in
    omega (arith, five, many, both, all, is, start)

pub net_number : (N : NetlistView) (names : TapNames) (f : Fitted) (A B : ArenaView) (C : NetlistView) (gate : ℕ) → Steps N names f A B C gate
    → length A.lists.nets ≡ first_net N f + test_logic_nets (boundary_at N f) f
net_number N names f A B C gate s = ap (λ (nets : List NetView). length nets) s.same.nets ∙ stitched_nets N names f

-- Cells.

-- the cells of A by their list
pub listed : (N : NetlistView) (names : TapNames) (f : Fitted) (A B : ArenaView) (C : NetlistView) (gate : ℕ) → Steps N names f A B C gate
    → (k : ℕ) → cell_at A.lists k ≡ slice_get (stitched_cells N f) k
listed N names f A B C gate s k = s.same.cells k ∙ listed_at (stitched_cells N f) k

-- the buffer as a part of one gate
abbrev plain_buffer : ℕ → ℕ → Feed → CellView
plain_buffer first number operand = record { kind = Buf; name = Some (Added number); feeds = operand ∷ []; output = Some (record { 0 = first }) }

pub through_part : (N : NetlistView) (f : Fitted) (first number : ℕ) (operand : Feed) → first ≡ (through_net N f).0 → number ≡ through_number N f
    → part_cells THROUGH (operand ∷ []) first number ≡ through_cell N f operand ∷ []
through_part N f first number operand e g =
    let one : part_cells THROUGH (operand ∷ []) first number ≡ plain_buffer first number operand ∷ [] = refl in
    one ∙ ap (λ (n : ℕ). plain_buffer n number operand ∷ []) e ∙ ap (λ (k : ℕ). plain_buffer (through_net N f).0 k operand ∷ []) g

pub buffer_at : (N : NetlistView) (names : TapNames) (f : Fitted) (A B : ArenaView) (C : NetlistView) (gate : ℕ) → Steps N names f A B C gate
    → (k : ℕ) → cell_at B.lists (cell_count A.lists + k) ≡ slice_get (through_cell N f (Net (bypass_at (first_net N f) f)) ∷ []) k
buffer_at N names f A B C gate s k =
    s.added.added k ∙ ap (λ (cells : List CellView). slice_get cells k)
    (through_part N f (length A.lists.nets) (cell_count A.lists) (Net (bypass_at (first_net N f) f)) (net_number N names f A B C gate s) s.count)

pub choice_there : (N : NetlistView) (names : TapNames) (f : Fitted) (A B : ArenaView) (C : NetlistView) (gate : ℕ) → Steps N names f A B C gate
    → cell_at B.lists gate ≡ Some (choice_at N f)
choice_there N names f A B C gate s =
    let g = s.gate_is in
    let low : gate < cell_count A.lists = omega (arith, g) in
    s.added.kept gate low ∙ listed N names f A B C gate s gate ∙ choice_stands N f gate (s.gate_is ∙ s.count)

-- One operand.

set_other : (cells : List (Option CellView)) (number other : ℕ) (place : Option CellView) → other ≢ number → live_cell (slice_get (set cells number place) other) ≡ live_cell (slice_get cells other)
set_other [] number other place apart = refl
set_other (p ∷ ps) zero zero place apart = absurd (apart refl)
set_other (p ∷ ps) zero (suc other) place apart = refl
set_other (p ∷ ps) (suc number) zero place apart = refl
set_other (p ∷ ps) (suc number) (suc other) place apart = set_other ps number other place (λ e. apart (ap suc e))

set_same : (cells : List (Option CellView)) (number : ℕ) (cell new : CellView) → live_cell (slice_get cells number) ≡ Some cell
    → live_cell (slice_get (set cells number (Some new)) number) ≡ Some new
set_same [] number cell new live = absurd (cc)
set_same (p ∷ ps) zero cell new live = refl
set_same (p ∷ ps) (suc number) cell new live = set_same ps number cell new live

pub connected_other : (N : NetlistView) (number place other : ℕ) (feed : Feed) → other ≢ number → cell_at (connected number place feed N) other ≡ cell_at N other
connected_other N number place other feed apart = set_other N.cells number other (option_map (with_feed place feed) (live_cell (slice_get N.cells number))) apart

pub connected_at : (N : NetlistView) (number place : ℕ) (feed : Feed) (cell : CellView) → cell_at N number ≡ Some cell → cell_at (connected number place feed N) number ≡ Some (with_feed place feed cell)
connected_at N number place feed cell live = rw live (set_same N.cells number cell (with_feed place feed cell) live)

pub other_at : (N : NetlistView) (names : TapNames) (f : Fitted) (A B : ArenaView) (C : NetlistView) (gate : ℕ) → Steps N names f A B C gate
    → (k : ℕ) → k ≢ gate → cell_at C k ≡ cell_at B.lists k
other_at N names f A B C gate s k apart =
    ap (λ (L : NetlistView). cell_at L k) s.is ∙ connected_other B.lists gate 1 k (Net (record { 0 = length A.lists.nets })) apart

pub shown_at : (N : NetlistView) (names : TapNames) (f : Fitted) (A B : ArenaView) (C : NetlistView) (gate : ℕ) → Steps N names f A B C gate
    → cell_at C gate ≡ Some (shows (record { 0 = length A.lists.nets }) (choice_at N f))
shown_at N names f A B C gate s =
    ap (λ (L : NetlistView). cell_at L gate) s.is ∙ connected_at B.lists gate 1 (Net (record { 0 = length A.lists.nets })) (choice_at N f) (choice_there N names f A B C gate s)

-- How many cells there are.

set_count : (cells : List (Option CellView)) (number : ℕ) (cell new : CellView) → live_cell (slice_get cells number) ≡ Some cell
    → count_by is_some (set cells number (Some new)) ≡ count_by is_some cells
set_count [] number cell new live = absurd (cc)
set_count (None ∷ ps) zero cell new live = absurd (cc)
set_count (Some c ∷ ps) zero cell new live = counts_live new ps ∙ sym (counts_live c ps)
set_count (None ∷ ps) (suc number) cell new live = counts_empty (set ps number (Some new)) ∙ set_count ps number cell new live ∙ sym (counts_empty ps)
set_count (Some c ∷ ps) (suc number) cell new live = counts_live c (set ps number (Some new)) ∙ ap suc (set_count ps number cell new live) ∙ sym (counts_live c ps)

connected_count : (N : NetlistView) (number place : ℕ) (feed : Feed) (cell : CellView) → cell_at N number ≡ Some cell → cell_count (connected number place feed N) ≡ cell_count N
connected_count N number place feed cell live = rw live (set_count N.cells number cell (with_feed place feed cell) live)

pub opened_count : (N : NetlistView) (names : TapNames) (f : Fitted) (A B : ArenaView) (C : NetlistView) (gate : ℕ) → Steps N names f A B C gate → cell_count C ≡ cell_count B.lists
opened_count N names f A B C gate s =
    let live = choice_there N names f A B C gate s in
    ap (λ (L : NetlistView). cell_count L) s.is ∙ connected_count B.lists gate 1 (Net (record { 0 = length A.lists.nets })) (choice_at N f) live

pub buffer_count : (N : NetlistView) (names : TapNames) (f : Fitted) (A B : ArenaView) (C : NetlistView) (gate : ℕ) → Steps N names f A B C gate → cell_count B.lists ≡ cell_count A.lists + 1
buffer_count N names f A B C gate s =
    let more = s.added.counted in
    let one : length (part_cells THROUGH (Net (bypass_at (first_net N f) f) ∷ []) (length A.lists.nets) (cell_count A.lists)) ≡ 1 = refl in
    omega (arith, more, one)

pub opened_dense : (N : NetlistView) (names : TapNames) (f : Fitted) (A B : ArenaView) (C : NetlistView) (gate : ℕ) → Steps N names f A B C gate → IsDense B.lists → IsDense C
opened_dense N names f A B C gate s dense i low = by (i == gate) refl
  where
    by : (b : Bool) → (i == gate) ≡ b → IsSome (cell_at C i)
    by true is = subst (λ (place : Option CellView). IsSome place) (sym (ap (cell_at C) (eqb-true i gate is) ∙ shown_at N names f A B C gate s)) refl
    by false is =
        let count = opened_count N names f A B C gate s in
        let apart : i ≢ gate = λ e. absurd (let no : true ≡ false = sym (eq-eqb i gate e) ∙ is in cc) in
        subst (λ (place : Option CellView). IsSome place) (sym (other_at N names f A B C gate s i apart)) (dense i (omega (arith, low, count)))

-- The steps, as they are taken.

pub steps_of : (N : NetlistView) (names : TapNames) (f : Fitted) (A B : ArenaView) (C : NetlistView) (gate : ℕ) (logic : Logic) (net : NetId) → IsDense N → IsSameNetlist A.lists (stitched N names f)
    → IsDense A.lists → cell_count A.lists ≡ length (stitched_cells N f) → gate + 3 ≡ cell_count A.lists → logic ≡ logic_at (first_net N f) (tap_port (length N.nets)) f
    → Appended A B 1 (part_cells THROUGH (Net logic.bypass ∷ []) (length A.lists.nets) (cell_count A.lists)) → IsLaidOut A.lists → IsDrivenOnce B.lists
    → net.0 ≡ length A.lists.nets → C ≡ connected gate 1 (Net net) B.lists → Steps N names f A B C gate
steps_of N names f A B C gate logic net dense same full count gate_is logic_is added laid once net_is is = record {
  dense = dense;
  same = same;
  full = full;
  count = count;
  gate_is = gate_is;
  added = subst (λ (l : Logic). Appended A B 1 (part_cells THROUGH (Net l.bypass ∷ []) (length A.lists.nets) (cell_count A.lists))) logic_is added;
  laid = laid;
  once = once;
  is = is ∙ ap (λ (n : ℕ). connected gate 1 (let id : NetId = record { 0 = n } in let feed : Feed = Net id in feed) B.lists) net_is;
}

-- What the steps need.

pub bypass_low : (N : NetlistView) (names : TapNames) (f : Fitted) (A : ArenaView) (logic : Logic) → IsSameNetlist A.lists (stitched N names f)
    → logic ≡ logic_at (first_net N f) (tap_port (length N.nets)) f → logic.bypass.0 < length A.lists.nets
bypass_low N names f A logic same logic_is =
    let size : logic_size f ≡ bypass_from f + 5 + code_size f.usercode f.idcode = refl in
    let nets : test_logic_nets (boundary_at N f) f ≡ logic_size f + nets_of_rows (boundary_at N f).ports (boundary_at N f).rows + 6 = refl in
    let many : length A.lists.nets ≡ first_net N f + test_logic_nets (boundary_at N f) f = ap (λ (views : List NetView). length views) same.nets ∙ stitched_nets N names f in
    let at : logic.bypass.0 ≡ first_net N f + bypass_from f + 2 = ap (λ (l : Logic). l.bypass.0) logic_is in
    omega (arith, size, nets, many, at)

pub operand_there : (N : NetlistView) (names : TapNames) (f : Fitted) (A B : ArenaView) (gate : ℕ) (part : List CellView) → IsSameNetlist A.lists (stitched N names f)
    → cell_count A.lists ≡ length (stitched_cells N f) → gate + 3 ≡ cell_count A.lists → Appended A B 1 part → IsSome (feed_at B.lists gate 1)
operand_there N names f A B gate part same count gate_is added =
    let low : gate < cell_count A.lists = omega (arith, gate_is) in
    let here : cell_at B.lists gate ≡ Some (choice_at N f)
    = added.kept gate low ∙ same.cells gate ∙ listed_at (stitched_cells N f) gate ∙ choice_stands N f gate (gate_is ∙ count) in
    rw here refl
