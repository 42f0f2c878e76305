-- The registers, the boundary register and TDO are added one behind the other.
use Rattle.std.proofs.Common.{◌≡◌, ◌≢◌, ℕ, zero, suc, ◌+◌, ◌*◌, ◌<◌, ◌≤◌, List, [], ◌∷◌, ◌++◌, length, refl, sym, ◌∙◌, ap, subst, arith, Option, Some, None}
use Rattle.std.specs.List.{slice_get}
use Rattle.std.proofs.lemmas.List.Elements.{All-weaker}
use Rattle.netlist_model.specs.declared.NetId.{NetId}
use Rattle.netlist_model.specs.Lists.{PortView, CellView, cell_count}
use Rattle.netlist_arena.specs.Arena.{ArenaView}
use Rattle.netlist_arena.specs.Adds.{IsFree}
use Rattle.gate_parts.specs.Parts.{part_cells}
use Rattle.gate_parts.specs.Appended.{Appended}
use Rattle.gate_parts.specs.Laws.{AppendedCount, AppendedMore, FreeStays}
use Rattle.test_logic.specs.declared.ScanNets.{ScanNets}
use Rattle.test_logic.specs.declared.TapNets.{TapNets}
use Rattle.test_logic.specs.declared.InstrNets.{InstrNets}
use Rattle.register_gates.specs.declared.tdo.TheConstants.{TDO}
use Rattle.register_gates.specs.Tdo.{AreIdentBelow, tdo_given, tdo_driver, tdo_cells}
use Rattle.plan_fitting.specs.declared.fitted.FitRow.{FitRow}
use Rattle.plan_fitting.specs.declared.fitted.Fitted.{Fitted}
use Rattle.core_sides.specs.stitched_netlist.declared.model.TapPort.{TapPort}
use Rattle.core_sides.specs.stitched_netlist.declared.model.Logic.{Logic}
use Rattle.core_sides.specs.stitched_netlist.Sites.{Boundary}
use Rattle.core_sides.specs.stitched_netlist.ModelRows.{behind, nets_of_rows, last_bit, rows_cells}
use Rattle.core_sides.specs.stitched_netlist.ModelLogic.{logic_size, logic_at, logic_cells}
use Rattle.core_sides.specs.stitched_netlist.Stitched.{rows_part, boundary_last, tdo_part, test_logic_nets, test_logic_cells}
use Rattle.core_sides.specs.Pins.{between}
use Rattle.test_logic_parts.specs.Logic.{logic_room}
use Rattle.test_logic_parts.specs.Rows.{into_from, IsApart, AreFree, IsReady, CanTakeRows}
use Rattle.test_logic_parts.specs.Whole.{CanTakeLogic}
use Rattle.test_logic_parts.proofs.Outputs.{DrivesFrom, part_drives, net_number}
use Rattle.test_logic_parts.proofs.LogicAdded.{behind_added}
use Rattle.test_logic_parts.proofs.Ready.{ready_more}
use Rattle.test_logic_parts.proofs.RowSizes.{nets_few, cells_few, last_there}

pub whole_added : AppendedCount → AppendedMore → (old a b new : ArenaView) (B : Boundary) (port : TapPort) (f : Fitted) (logic : Logic) (nearest : NetId) → B.rows ≡ f.rows
    → logic ≡ logic_at (length old.lists.nets) port f → nearest ≡ last_bit B.ports (length a.lists.nets) port.tdi B.rows
    → Appended old a (logic_size f) (logic_cells (length old.lists.nets) (cell_count old.lists) port f)
    → Appended a b (nets_of_rows B.ports B.rows) (rows_cells B logic.instruction.scan (length a.lists.nets) (cell_count a.lists) port.tdi B.first B.rows)
    → Appended b new 6 (tdo_cells (length b.lists.nets) (cell_count b.lists) logic.tap logic.instruction logic.bypass logic.ident nearest port.tdo)
    → Appended old new (test_logic_nets B f) (test_logic_cells B (length old.lists.nets) (cell_count old.lists) port f)
whole_added count join old a b new B port f logic nearest rows_are logic_is nearest_is one two three =
    let first : ℕ = length old.lists.nets in
    let la : length a.lists.nets ≡ first + logic_size f = count old a _ _ one in
    let lb0 = count a b _ _ two in
    let lb : length b.lists.nets ≡ first + logic_size f + nets_of_rows B.ports B.rows = omega arith in
    let P2 : Logic → ℕ → Type 0 = λ l n. Appended a b (nets_of_rows B.ports B.rows) (rows_cells B l.instruction.scan n (cell_count a.lists) port.tdi B.first B.rows) in
    let two' : Appended a b (nets_of_rows B.ports B.rows) (rows_part B first port f (cell_count a.lists))
    = subst (λ (n : ℕ). P2 (logic_at first port f) n) la (subst (λ (l : Logic). P2 l (length a.lists.nets)) logic_is two) in
    let near : nearest ≡ boundary_last B first port f = nearest_is ∙ ap (λ (n : ℕ). last_bit B.ports n port.tdi B.rows) la in
    let P3 : Logic → NetId → ℕ → Type 0 = λ l net n. Appended b new 6 (tdo_cells n (cell_count b.lists) l.tap l.instruction l.bypass l.ident net port.tdo) in
    let three' : Appended b new 6 (tdo_part B first port f (cell_count b.lists))
    = subst (λ (n : ℕ). P3 (logic_at first port f) (boundary_last B first port f) n) lb
    (subst (λ (net : NetId). P3 (logic_at first port f) net (length b.lists.nets)) near (subst (λ (l : Logic). P3 l nearest (length b.lists.nets)) logic_is three)) in
    let to_b = behind_added join old a b (logic_size f) (nets_of_rows B.ports B.rows) (logic_cells first (cell_count old.lists) port f) (rows_part B first port f) one two' in
    behind_added join old b new (logic_size f + nets_of_rows B.ports B.rows) 6 _ (tdo_part B first port f) to_b three'

-- Nets that were free stay so.

abbrev Leaves : ℕ → List CellView → Type 0
Leaves net cells = (k : ℕ) (cell : CellView) → slice_get cells k ≡ Some cell → cell.output ≢ Some (record { 0 = net })

both_leave : (net : ℕ) (xs ys : List CellView) → Leaves net xs → Leaves net ys → (k : ℕ) (cell : CellView) → slice_get (xs ++ ys) k ≡ Some cell
    → cell.output ≢ Some (record { 0 = net })
both_leave net [] ys hx hy k cell here = hy k cell here
both_leave net (x ∷ xs) ys hx hy zero cell here = hx 0 cell here
both_leave net (x ∷ xs) ys hx hy (suc k) cell here = both_leave net xs ys (λ j c e. hx (suc j) c e) hy k cell here

leaves_both : (net : ℕ) (xs ys : List CellView) → Leaves net xs → Leaves net ys → Leaves net (xs ++ ys)
leaves_both net xs ys hx hy = λ k cell here. both_leave net xs ys hx hy k cell here

leaves_before : (net first : ℕ) (cells : List CellView) → net < first → DrivesFrom first cells → Leaves net cells
leaves_before net first cells low drives = λ k cell at e. let past = drives k net cell at e in omega arith

one_leaves : (net : ℕ) (cell : CellView) (out : NetId) → cell.output ≡ Some out → net ≢ out.0 → (k : ℕ) (other : CellView) → slice_get (cell ∷ []) k ≡ Some other
    → other.output ≢ Some (record { 0 = net })
one_leaves net cell out drives differ zero other here e =
    let same : cell ≡ other = cc in
    let both = sym drives ∙ ap (λ (c : CellView). c.output) same ∙ e in
    differ (sym (ap net_number both))
one_leaves net cell out drives differ (suc k) other here e = absurd (cc)

leaves_other : (net : ℕ) (cell : CellView) (out : NetId) → cell.output ≡ Some out → net ≢ out.0 → Leaves net (cell ∷ [])
leaves_other net cell out drives differ = λ k other here. one_leaves net cell out drives differ k other here

pub tdo_leaves_free : FreeStays → (old new : ArenaView) (tap : TapNets) (instruction : InstrNets) (bypass : NetId) (ident : Option NetId) (boundary tdo : NetId)
    → Appended old new 6 (tdo_cells (length old.lists.nets) (cell_count old.lists) tap instruction bypass ident boundary tdo)
    → (net : ℕ) → net ≢ tdo.0 → net < length old.lists.nets → IsFree old.lists net → IsFree new.lists net
tdo_leaves_free stays old new tap instruction bypass ident boundary tdo added net differ low free =
    let first : ℕ = length old.lists.nets in
    let given = tdo_given tap instruction bypass ident boundary in
    stays old new 6 (tdo_cells first (cell_count old.lists) tap instruction bypass ident boundary tdo) added net free
    (leaves_both net (part_cells TDO given first (cell_count old.lists)) (tdo_driver first tdo (cell_count old.lists + 6) ∷ [])
    (leaves_before net first (part_cells TDO given first (cell_count old.lists)) low (part_drives first first (cell_count old.lists) TDO given (omega arith)))
    (leaves_other net (tdo_driver first tdo (cell_count old.lists + 6)) tdo refl differ))

-- What the boundary register needs is there behind the registers.

pub free_more : (old new : ArenaView) (nets : List ℕ) → length old.lists.nets ≤ length new.lists.nets
    → ((net : ℕ) → net < length old.lists.nets → IsFree old.lists net → IsFree new.lists net) → AreFree old.lists nets → AreFree new.lists nets
free_more old new [] more keeps free = tt
free_more old new (net ∷ nets) more keeps free = let low = free.0 in (omega arith, keeps net low free.1, free_more old new nets more keeps free.2)

pub rows_can_follow : AppendedCount → (old new : ArenaView) (B : Boundary) (f : Fitted) (port : TapPort) (part : List CellView) (count : ℕ) → CanTakeLogic old B f port → Appended old new count part
    → old.spare.nets ≤ new.spare.nets + logic_room f → old.spare.cells ≤ new.spare.cells + logic_room f
    → ((net : ℕ) → net < length old.lists.nets → IsFree old.lists net → IsFree new.lists net) → CanTakeRows new B
rows_can_follow counted old new B f port part count can added nets cells keeps =
    let more = counted old new count part added in
    let low : length old.lists.nets ≤ length new.lists.nets = omega arith in
    let room = can.nets in
    let places = can.cells in
    let between = can.between in
    let same : length B.rows ≡ length f.rows = ap length can.rows in
    record {
      boundary = can.boundary;
      nets = omega arith;
      cells = omega arith;
      between = omega arith;
      ready = All-weaker (IsReady B (length old.lists.nets)) (IsReady B (length new.lists.nets)) (λ row ready. ready_more B (length old.lists.nets) (length new.lists.nets) row low ready) B.rows can.ready;
      free = free_more old new (into_from B B.first B.rows) low keeps can.free;
      apart = can.apart;
    }

-- The bit nearest TDO.

pub nearest_below : AppendedCount → (old new : ArenaView) (B : Boundary) (part : List CellView) (tdi nearest : NetId) → Appended old new (nets_of_rows B.ports B.rows) part
    → tdi.0 < length old.lists.nets → nearest ≡ last_bit B.ports (length old.lists.nets) tdi B.rows → nearest.0 < length new.lists.nets
nearest_below counted old new B part tdi nearest added low is =
    let more = counted old new (nets_of_rows B.ports B.rows) part added in
    let there = last_there B.ports (length old.lists.nets) tdi B.rows low in
    let same : nearest.0 ≡ (last_bit B.ports (length old.lists.nets) tdi B.rows).0 = ap (λ (net : NetId). net.0) is in
    omega arith

-- Behind the boundary register.

pub same_between : (ports ports' : List PortView) (rows rows' : List FitRow) (first : NetId) → ports ≡ ports' → rows ≡ rows' → between ports rows first ≡ between ports' rows' first
same_between ports ports' rows rows' first e g =
    ap (λ (ps : List PortView). between ps rows first) e ∙ ap (λ (rs : List FitRow). between ports' rs first) g

-- what adding the rows of a boundary gave
pub record RowsThere (old new : ArenaView) (B : Boundary) (scan : ScanNets) (tdi nearest : NetId) : Type 0 where
  pub last : nearest ≡ last_bit B.ports (length old.lists.nets) tdi B.rows
  pub added : Appended old new (nets_of_rows B.ports B.rows) (rows_cells B scan (length old.lists.nets) (cell_count old.lists) tdi B.first B.rows)
  pub free : (net : ℕ) → IsApart (into_from B B.first B.rows) net → net < length old.lists.nets → IsFree old.lists net → IsFree new.lists net

pub rows_at : (old new : ArenaView) (B B' : Boundary) (scan : ScanNets) (tdi nearest : NetId) → B' ≡ B → RowsThere old new B' scan tdi nearest → RowsThere old new B scan tdi nearest
rows_at old new B B' scan tdi nearest same there = let P : Boundary → Type 0 = λ b. RowsThere old new b scan tdi nearest in subst P same there

pub rows_use : (old new : ArenaView) (B : Boundary) (scan : ScanNets) (tdi nearest : NetId) → RowsThere old new B scan tdi nearest
    → (old.spare.nets ≤ new.spare.nets + 7 * length B.rows) × (old.spare.cells ≤ new.spare.cells + 8 * length B.rows)
rows_use old new B scan tdi nearest there =
    let nets = there.added.net_room in
    let cells = there.added.cell_room in
    let few = nets_few B.ports B.rows in
    let few' = cells_few B scan (length old.lists.nets) (cell_count old.lists) tdi B.first B.rows in
    (omega arith, omega arith)

pub tdo_use : (old new : ArenaView) (tap : TapNets) (instruction : InstrNets) (bypass : NetId) (ident : Option NetId) (boundary tdo : NetId)
    → Appended old new 6 (tdo_cells (length old.lists.nets) (cell_count old.lists) tap instruction bypass ident boundary tdo)
    → (new.spare.nets + 6 ≡ old.spare.nets) × (new.spare.cells + 7 ≡ old.spare.cells)
tdo_use old new tap instruction bypass ident boundary tdo added =
    let nets = added.net_room in
    let cells = added.cell_room in
    let seven : length (tdo_cells (length old.lists.nets) (cell_count old.lists) tap instruction bypass ident boundary tdo) ≡ 7 = refl in
    (omega arith, omega arith)

pub tdo_count : (old new : ArenaView) (tap : TapNets) (instruction : InstrNets) (bypass : NetId) (ident : Option NetId) (boundary tdo : NetId)
    → Appended old new 6 (tdo_cells (length old.lists.nets) (cell_count old.lists) tap instruction bypass ident boundary tdo) → cell_count new.lists ≡ cell_count old.lists + 7
tdo_count old new tap instruction bypass ident boundary tdo added =
    let more = added.counted in
    let seven : length (tdo_cells (length old.lists.nets) (cell_count old.lists) tap instruction bypass ident boundary tdo) ≡ 7 = refl in
    omega (arith, more, seven)

pub ident_more : (n m : ℕ) (ident : Option NetId) → n ≤ m → AreIdentBelow n ident → AreIdentBelow m ident
ident_more n m None more below = tt
ident_more n m (Some net) more below = let b : net.0 < n = below in let r : net.0 < m = omega arith in r
