-- What was looked up of a cell makes its turn, its step and its drive.
use Rattle.std.proofs.Common.{◌≡◌, ℕ, zero, suc, ◌+◌, ◌<◌, ◌≤◌, true, false, List, [], ◌∷◌, length, map, take, set, refl, sym, ◌∙◌, inl, inr, arith, Option, Some, None, IsTrue, add-one}
use Rattle.std.specs.Option.{option_map, option_and_then}
use Rattle.std.specs.List.{slice_get}
use Rattle.netlist_model.specs.LawsRuns.{cell_next}
use Rattle.signal_values.specs.declared.Sig.{Sig}
use Rattle.signal_values.specs.declared.PinSig.{PinSig}
use Rattle.signal_values.specs.Values.{pin_of}
use Rattle.cell_library.specs.declared.Kind.{Kind}
use Rattle.cell_library.specs.declared.listed.ListedCell.{ListedCell}
use Rattle.cell_library.specs.declared.FlopKind.{FlopKind}
use Rattle.cell_library.specs.Gates.{flop_of, is_flop, is_three_state, is_two_state, gate_output, Takes}
use Rattle.cell_library.specs.Flops.{flop_next}
use Rattle.netlist_model.specs.declared.NetId.{NetId}
use Rattle.netlist_model.specs.declared.CellId.{CellId}
use Rattle.netlist_model.specs.declared.Dir.{Dir}
use Rattle.netlist_model.specs.declared.Feed.{Feed}
use Rattle.netlist_model.specs.Lists.{CellView, NetlistView, cell_at}
use Rattle.netlist_model.specs.Settled.{feed_values, cell_value, cell_drive, drive_by, driver_of}
use Rattle.netlist_model.specs.Formed.{IsWellFormed}
use Rattle.netlist_model.proofs.KindLaws.{flop_or_gate, cell_value-flop, cell_value-two_state, two_state}
use Rattle.netlist_settling.specs.Values.{value_at, feeds_of}
use Rattle.netlist_settling.specs.Passes.{driven_value, after_turn}
use Rattle.netlist_settling.specs.Tables.{IsDriverOf}

-- one operand more is gathered
gathered_suc : {X Y : Type 0} (f : X → Y) (xs : List X) (k : ℕ) (x : X) (y : Y) (buffer : List Y) → slice_get xs k ≡ Some x → y ≡ f x → k < length buffer → take k buffer ≡ map f (take k xs)
    → take (suc k) (set buffer k y) ≡ map f (take (suc k) xs)
gathered_suc f [] k x y buffer at is room so_far = absurd (cc)
gathered_suc f (z ∷ xs) k x y [] at is room so_far = absurd (omega arith)
gathered_suc f (z ∷ xs) zero x y (b ∷ buffer) at is room so_far = let same : z ≡ x = cc in rw (is, same) refl
gathered_suc f (z ∷ xs) (suc k) x y (b ∷ buffer) at is room so_far =
    let head : b ≡ f z = cc in
    let tail : take k buffer ≡ map f (take k xs) = cc in
    let rest = gathered_suc f xs k x y buffer at is (omega arith) tail in
    rw (head, rest) refl

pub gathered_next : {X Y : Type 0} (f : X → Y) (xs : List X) (k : ℕ) (x : X) (y : Y) (buffer : List Y) → slice_get xs k ≡ Some x → y ≡ f x → k < length buffer → take k buffer ≡ map f (take k xs)
    → take (k + 1) (set buffer k y) ≡ map f (take (k + 1) xs)
gathered_next f xs k x y buffer at is room so_far = rw (add-one k) (gathered_suc f xs k x y buffer at is room so_far)

-- an operand that was looked up stands among the cell's operands
pub feed_there : (found : Option CellView) (place : ℕ) (feed : Feed) → option_and_then (λ (cell : CellView). slice_get cell.feeds place) found ≡ Some feed → slice_get (feeds_of found) place ≡ Some feed
feed_there None place feed at = absurd (cc)
feed_there (Some cell) place feed at = at

-- a cell of a well-formed netlist has its kind's count of operands
pub takes_at : (N : NetlistView) (number : ℕ) (kind : Kind) (count : ℕ) → IsWellFormed N → option_map (λ (cell : CellView). cell.kind) (cell_at N number) ≡ Some kind
    → option_map (λ (cell : CellView). length cell.feeds) (cell_at N number) ≡ Some count → Takes N.library kind count
takes_at N number kind count formed kinds counts = go (cell_at N number) refl kinds counts
  where
    go : (found : Option CellView) → cell_at N number ≡ found → option_map (λ (cell : CellView). cell.kind) found ≡ Some kind
        → option_map (λ (cell : CellView). length cell.feeds) found ≡ Some count → Takes N.library kind count
    go None live k c = absurd (let none : None ≡ Some kind = k in cc)
    go (Some cell) live k c =
        let same : cell.kind ≡ kind = cc in
        let long : length cell.feeds ≡ count = cc in
        rw (← same, ← long) (formed.counts number cell live)

-- what a kind gives its net
pub value_of_flop : (library : List ListedCell) (kind : Kind) (inputs : List Sig) (kept : Sig) → is_flop library kind ≡ true → kept ≡ cell_value library kind inputs kept
value_of_flop library kind inputs kept is = elim (flop_or_gate library kind) [
  | inl k ↦ sym (cell_value-flop library kind k.0 inputs kept k.1)
  | inr gate ↦ absurd (let clash : true ≡ false = sym is ∙ gate in cc)
]

pub value_of_gate : (library : List ListedCell) (kind : Kind) (inputs : List Sig) (kept : Sig) → is_flop library kind ≡ false → is_three_state kind ≡ false
    → gate_output library kind inputs ≡ cell_value library kind inputs kept
value_of_gate library kind inputs kept gate plain = sym (cell_value-two_state library kind inputs kept gate plain)

pub always_drives : (library : List ListedCell) (kind : Kind) → is_flop library kind ≡ false → is_three_state kind ≡ false → IsTrue (is_two_state library kind)
always_drives library kind gate plain = two_state library kind gate plain

-- a cell that isn't connected changes no net
pub turn_none : (library : List ListedCell) (found : Option CellView) (sides : ℕ → Option Dir) (pins : ℕ → PinSig) (kept : Sig) (values : List Sig) → option_map (λ (cell : CellView). cell.output) found ≡ Some None
    → values ≡ after_turn library sides pins kept found values
turn_none library None sides pins kept values is = refl
turn_none library (Some cell) sides pins kept values is = let output : cell.output ≡ None = cc in rw output refl

pub turn_some : (library : List ListedCell) (found : Option CellView) (sides : ℕ → Option Dir) (pins : ℕ → PinSig) (kept : Sig) (values : List Sig) (net : NetId) (kind : Kind) (inputs : List Sig) (given : Sig)
    → option_map (λ (cell : CellView). cell.output) found ≡ Some (Some net) → option_map (λ (cell : CellView). cell.kind) found ≡ Some kind
    → inputs ≡ feed_values (value_at values) (feeds_of found) → given ≡ driven_value library (sides net.0) kind inputs kept (pins net.0)
    → set values net.0 given ≡ after_turn library sides pins kept found values
turn_some library None sides pins kept values net kind inputs given output kinds gathered is = absurd (cc)
turn_some library (Some cell) sides pins kept values net kind inputs given output kinds gathered is =
    let out : cell.output ≡ Some net = cc in
    let same : cell.kind ≡ kind = cc in
    rw (out, same, is, gathered) refl

-- what a flip-flop holds next
pub next_flop : (library : List ListedCell) (found : Option CellView) (before after : ℕ → Sig) (kept : Sig) (kind : FlopKind) (was is : List Sig)
    → option_map (λ (cell : CellView). flop_of library cell.kind) found ≡ Some (Some kind)
    → was ≡ feed_values before (feeds_of found) → is ≡ feed_values after (feeds_of found) → flop_next kind was is kept ≡ cell_next library found before after kept
next_flop library None before after kept kind was is flops b a = absurd (let none : None ≡ Some (Some kind) = flops in cc)
next_flop library (Some cell) before after kept kind was is flops b a =
    let same : flop_of library cell.kind ≡ Some kind = cc in rw (same, b, a) refl

pub next_gate : (library : List ListedCell) (found : Option CellView) (before after : ℕ → Sig) (kept : Sig)
    → option_map (λ (cell : CellView). flop_of library cell.kind) found ≡ Some None → kept ≡ cell_next library found before after kept
next_gate library None before after kept flops = refl
next_gate library (Some cell) before after kept flops =
    let same : flop_of library cell.kind ≡ None = cc in rw same refl

-- what the driver of a net gives it
pub drive_none : (N : NetlistView) (net : ℕ) (driver : Option CellId) (value : ℕ → Sig) → IsDriverOf N net driver → driver ≡ None → pin_of (value net) ≡ drive_by (driver_of N.cells net) value net
drive_none N net None value is none = rw is refl
drive_none N net (Some id) value is none = absurd (cc)

pub drive_some : (N : NetlistView) (net : ℕ) (id : CellId) (value : ℕ → Sig) (kind : Kind) (inputs : List Sig) → IsDriverOf N net (Some id)
    → option_map (λ (cell : CellView). cell.kind) (cell_at N id.0) ≡ Some kind → inputs ≡ feed_values value (feeds_of (cell_at N id.0))
    → cell_drive kind inputs (value net) ≡ drive_by (driver_of N.cells net) value net
drive_some N net id value kind inputs is kinds gathered =
    let live = is.1 in
    let named : Some is.0.kind ≡ Some kind = rw live at kinds in
    let same : is.0.kind ≡ kind = cc in
    let here : inputs ≡ feed_values value is.0.feeds = rw live at gathered in
    rw (is.2, ← same, here) refl
