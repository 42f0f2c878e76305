-- The rows of the boundary register hold what the test logic has in their places, at every moment: all rows in one induction, since what
-- a row captures comes from the core, and what the core has from the rows.
use Rattle.std.proofs.Common.{◌≡◌, ℕ, zero, suc, ◌<◌, ◌≤◌, List, [], ◌∷◌, length, refl, ap, sym, ◌∙◌, Option, Some, None, arith}
use Rattle.std.specs.Prelude.{slice_get, true, false, option_and_then}
use Rattle.signal_values.specs.Values.{bit}
use Rattle.netlist_model.specs.declared.NetId.{NetId}
use Rattle.netlist_model.specs.declared.Dir.{Dir}
use Rattle.netlist_model.specs.Lists.{PortView, direction}
use Rattle.netlist_model.specs.Settled.{follows_pin}
use Rattle.wrapped_chip.specs.Realises.{SameBit}
use Rattle.bsdl_device.specs.declared.values.CellRow.{CellRow}
use Rattle.test_logic.specs.Registers.{shifted}
use Rattle.test_logic.specs.Machine.{in_effect}
use Rattle.boundary_cells.specs.Laws.{CarriesMode}
use Rattle.boundary_cells.specs.MachineRows.{bit_at}
use Rattle.surrounded_core.specs.Rows.{IsRowOf, IsSteered, HoldsRow}
use Rattle.surrounded_core.proofs.ChipRows.{kinds_long}
use Rattle.surrounded_core.specs.Places.{selection_nets}
use Rattle.surrounded_core.specs.Laws.{StandsAsChip, cell_of}
use Rattle.surrounded_core.proofs.Parts.{RunLaws, Scene, logic, levels_at, core_at, machine_at, caught_at, lists_long, next_at, settled_at, outside_now, levelled, carried, selected}
use Rattle.std.proofs.lemmas.Option.{slice_get_within}

-- all rows are held
abbrev pub AreHeld : Scene → ℕ → Type 0
AreHeld r t = (place : ℕ) (row : CellRow) → slice_get r.device.cells place ≡ Some row
    → HoldsRow (r.places.gates place) (r.places.row place) place (machine_at r t) (r.moment t).value

-- Places of a list.

ends_there : {A : Type 0} (xs : List A) (place : ℕ) (x : A) → slice_get xs place ≡ Some x → slice_get xs (suc place) ≡ None → suc place ≡ length xs
ends_there [] place x at none = absurd (cc)
ends_there (y ∷ []) zero x at none = refl
ends_there (y ∷ z ∷ ys) zero x at none = absurd (let bad : Some z ≡ None = none in cc)
ends_there (y ∷ ys) (suc place) x at none = ap (λ (n : ℕ). suc n) (ends_there ys place x at none)

boundary_long : RunLaws → (r : Scene) (t : ℕ) → length (machine_at r t).boundary ≡ length r.device.cells
boundary_long by r t = (lists_long by r t).boundary ∙ kinds_long r.device.cells

-- What steers a row.

-- the bit that is shifted into its place
next_bit : RunLaws → (r : Scene) (t : ℕ) → t ≤ length r.events → AreHeld r t → (place : ℕ) (row : CellRow) → slice_get r.device.cells place ≡ Some row
    → (r.moment t).value (r.places.next place).0 ≡ bit_at (shifted (bit (levels_at r t).tdi) (machine_at r t).boundary) place
next_bit by r t below held place row there = by_next (slice_get r.device.cells (suc place)) refl
  where
    by_next : (o : Option CellRow) → slice_get r.device.cells (suc place) ≡ o
        → (r.moment t).value (r.places.next place).0 ≡ bit_at (shifted (bit (levels_at r t).tdi) (machine_at r t).boundary) place
    by_next (Some other) at =
        let long : length (machine_at r t).boundary ≡ length r.device.cells = boundary_long by r t in
        let less : suc place < length r.device.cells = slice_get_within r.device.cells (suc place) other at in
        ap (λ (n : NetId). (r.moment t).value n.0) (r.around.rows.inner place other at) ∙ (held (suc place) other at).shift
        ∙ sym ((by.places.shifts (bit (levels_at r t).tdi) (machine_at r t).boundary place).inner (omega arith))
    by_next None at =
        let long : length (machine_at r t).boundary ≡ length r.device.cells = boundary_long by r t in
        let end : suc place ≡ length r.device.cells = ends_there r.device.cells place row there at in
        ap (λ (n : NetId). (r.moment t).value n.0) (r.around.rows.last place at) ∙ (levelled r t below).tdi
        ∙ sym ((by.places.shifts (bit (levels_at r t).tdi) (machine_at r t).boundary place).last (omega arith))

steered : RunLaws → (r : Scene) (t : ℕ) → t ≤ length r.events → AreHeld r t → (place : ℕ) (row : CellRow) → slice_get r.device.cells place ≡ Some row
    → IsSteered (selection_nets r.places).scan (r.places.next place) (logic r) (levels_at r t) (machine_at r t) place (r.moment t)
steered by r t below held place row there =
    by.steers (selection_nets r.places) (r.places.next place) (logic r) (levels_at r t) (machine_at r t) place (r.moment t) (carried r t below) (selected by r t below)
    (next_bit by r t below held place row there)

is_row : RunLaws → (r : Scene) (place : ℕ) (row : CellRow) → slice_get r.device.cells place ≡ Some row → IsRowOf (logic r) place (r.places.gates place)
is_row by r place row there =
    (by.chip.each r.device r.inner (machine_at r 0) (r.outside 0).pins (core_at r 0) place row there).kind
    ∙ ap (λ k. Some k) (r.around.rows.kinds place row there)

-- What stands at one moment, where all rows are held.

-- a port bit of N is the same bit of M, on the same net
pub bit_kept : RunLaws → (r : Scene) (net : ℕ) (dir : Dir) → direction r.inner.ports net ≡ Some dir → SameBit r.outer r.inner net net
bit_kept by r net dir e =
    let b = by.bits r.inner dir (record { 0 = net }) e in
    let of : Option PortView → Option NetId = option_and_then (λ (p : PortView). slice_get p.nets b.bit) in
    record {
      port = b.number;
      place = b.bit;
      here = ap of b.stands ∙ b.has;
      there = ap of (r.around.ports.kept b.number b.port b.stands) ∙ b.has;
    }

out_at : RunLaws → (r : Scene) (t : ℕ) → t ≤ length r.events → (net : ℕ) (side : Option Dir) → direction r.inner.ports net ≡ side → follows_pin side ≡ true
    → (r.moment t).pins net ≡ (r.outside t).pins net
out_at by r t below net None e g = absurd (let bad : false ≡ true = g in cc)
out_at by r t below net (Some dir) e g = (outside_now r t below).bits net net (bit_kept by r net dir e) (ap follows_pin e ∙ g)

modes : RunLaws → (r : Scene) (t : ℕ) → t ≤ length r.events → CarriesMode (selection_nets r.places).scan (in_effect (logic r) (machine_at r t)) (r.moment t).value
modes by r t below = let s = selected by r t below in record { extest = s.extest; m_out = s.m_out; m_in = s.m_in; hiz = s.hiz }

pub stands_then : RunLaws → (r : Scene) (t : ℕ) → t ≤ length r.events → AreHeld r t
    → StandsAsChip r.outer r.inner r.device r.places (machine_at r t) (r.outside t).pins (r.moment t)
stands_then by r t below held =
    by.stands r.outer r.inner r.device r.places r.shown r.around (machine_at r t) (r.outside t).pins (r.moment t) (settled_at r t below)
    (record { outside = λ net g. out_at by r t below net (direction r.inner.ports net) refl g; mode = modes by r t below; rows = held })

-- The induction.

pub held_always : RunLaws → (r : Scene) (t : ℕ) → t ≤ length r.events → AreHeld r t
held_always by r zero below place row there = r.holds.rows place row there
held_always by r (suc t) below place row there =
    let S = r.places in
    let before : t ≤ length r.events = omega arith in
    let held : AreHeld r t = held_always by r t before in
    let stands = stands_then by r t before held in
    let next = next_at r t below in
    let long : length (machine_at r t).boundary ≡ length r.device.cells = boundary_long by r t in
    let less : place < length r.device.cells = slice_get_within r.device.cells place row there in
    (by.rows (S.gates place) (S.row place) (S.row_number place) (selection_nets S).scan (S.next place)).step r.outer next.0 (levels_at r t) (levels_at r (suc t)) (r.moment t)
    (r.moment (suc t)) (logic r) (caught_at r t) (machine_at r t) place (cell_of r.device r.inner S (machine_at r t) (r.outside t).pins (r.moment t) place row)
    r.around.formed (r.around.rows.cells place row there) (settled_at r t before) next.1 (is_row by r place row there) (omega arith)
    (record { steered = steered by r t before held place row there; stands = stands.rows place row there }) (stands.captures place row there) (carried r (suc t) below)
    (held place row there)
