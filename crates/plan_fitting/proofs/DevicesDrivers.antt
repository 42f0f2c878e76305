-- An inout bit of a well-formed netlist has a three-state driver, so its line makes a row.
use Rattle.std.proofs.Common.{◌≡◌, ℕ, true, List, [], ◌∷◌, length, Option, Some, refl, sym, ap, ◌∙◌, arith}
use Rattle.std.specs.Prelude.{is_some}
use Rattle.cell_library.specs.declared.Kind.{Kind}
use Rattle.cell_library.specs.declared.Kind.TheVariants.{Bufif0, Bufif1}
use Rattle.cell_library.specs.declared.listed.ListedCell.{ListedCell}
use Rattle.cell_library.specs.Gates.{is_three_state, Takes}
use Rattle.netlist_model.specs.declared.Dir.{Dir}
use Rattle.netlist_model.specs.declared.Dir.TheVariants as dir
use Rattle.netlist_model.specs.declared.Feed.{Feed}
use Rattle.netlist_model.specs.Lists.{CellView, NetlistView, direction, Drives}
use Rattle.netlist_model.specs.Formed.{IsWellFormed}
use Rattle.netlist_model.specs.Ports.{BitHasDirection}
use Rattle.netlist_model.specs.Drivers.{DriverIsFound}
use Rattle.netlist_unlink.specs.netlist_link.Linked.{LinkedView}
use Rattle.plan_fitting.specs.Pins.{PinSeen, IsSeen}
use Rattle.plan_fitting.specs.Rows.{gate_driver, three_state}
use Rattle.plan_fitting.proofs.RowCounts.{makes_row}

gate_is_driver : (library : List ListedCell) (kind : Kind) (feeds : List Feed) → is_three_state kind ≡ true → Takes library kind (length feeds) → is_some (gate_driver kind feeds) ≡ true
gate_is_driver library Bufif1 [] h takes = absurd (let two : length {A = Feed} [] ≡ 2 = takes in omega arith)
gate_is_driver library Bufif1 (a ∷ []) h takes = absurd (let two : length (a ∷ []) ≡ 2 = takes in omega arith)
gate_is_driver library Bufif1 (a ∷ b ∷ []) h takes = refl
gate_is_driver library Bufif1 (a ∷ b ∷ c ∷ feeds) h takes = absurd (let two : length (a ∷ b ∷ c ∷ feeds) ≡ 2 = takes in omega arith)
gate_is_driver library Bufif0 [] h takes = absurd (let two : length {A = Feed} [] ≡ 2 = takes in omega arith)
gate_is_driver library Bufif0 (a ∷ []) h takes = absurd (let two : length (a ∷ []) ≡ 2 = takes in omega arith)
gate_is_driver library Bufif0 (a ∷ b ∷ []) h takes = refl
gate_is_driver library Bufif0 (a ∷ b ∷ c ∷ feeds) h takes = absurd (let two : length (a ∷ b ∷ c ∷ feeds) ≡ 2 = takes in omega arith)
gate_is_driver library _ feeds h takes = absurd (cc)

-- the direction of a bit's net is its port's
pub seen_direction : BitHasDirection → (L : LinkedView) → IsWellFormed L.arena.lists → (word : List ℕ) (one : PinSeen) → IsSeen L word one → direction L.arena.lists.ports one.net.0 ≡ Some one.side
seen_direction has L formed word one seen =
    has L.arena.lists formed one.side one.net (record { number = one.pin.port.0; port = seen.port; bit = one.pin.bit; stands = seen.there; has = seen.net; same = sym seen.side })

-- what drives a bit's net is what was seen
pub seen_driver : DriverIsFound → (L : LinkedView) → IsWellFormed L.arena.lists → (word : List ℕ) (one : PinSeen) → IsSeen L word one → (i : ℕ) (cell : CellView)
    → Drives L.arena.lists i cell one.net.0 → one.driver ≡ Some cell
seen_driver found L formed word one seen i cell drives = seen.driver ∙ found L.arena.lists formed.one_driver i cell one.net.0 drives

pub gate_has_driver : (N : NetlistView) → IsWellFormed N → (i : ℕ) (cell : CellView) (net : ℕ) → Drives N i cell net → is_three_state cell.kind ≡ true → is_some (three_state (Some cell)) ≡ true
gate_has_driver N formed i cell net drives three = gate_is_driver N.library cell.kind cell.feeds three (formed.counts i cell drives.live)

makes_at : BitHasDirection → DriverIsFound → (L : LinkedView) → IsWellFormed L.arena.lists → (word : List ℕ) (one : PinSeen) → IsSeen L word one → (side : Dir) → one.side ≡ side → makes_row one side ≡ true
makes_at has found L formed word one seen dir.Input is = refl
makes_at has found L formed word one seen dir.Output is = refl
makes_at has found L formed word one seen dir.Inout is =
    let at : direction L.arena.lists.ports one.net.0 ≡ Some dir.Inout = seen_direction has L formed word one seen ∙ ap (λ (s : Dir). Some s) is in
    let driven = formed.inouts_driven one.net.0 at in
    ap (λ (d : Option CellView). is_some (three_state d)) (seen_driver found L formed word one seen driven.number driven.cell driven.drives)
    ∙ gate_has_driver L.arena.lists formed driven.number driven.cell one.net.0 driven.drives (formed.inout_bufif driven.number driven.cell one.net.0 driven.drives at)

pub makes_rows : BitHasDirection → DriverIsFound → (L : LinkedView) → IsWellFormed L.arena.lists → (word : List ℕ) (one : PinSeen) → IsSeen L word one → makes_row one one.side ≡ true
makes_rows has found L formed word one seen = makes_at has found L formed word one seen one.side refl
