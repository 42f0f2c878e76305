-- What drives TDO is added in two parts.
use Rattle.std.proofs.Common.{◌≡◌, ℕ, ◌+◌, ◌<◌, ◌≤◌, List, [], ◌∷◌, length, refl, sym, subst, arith, Some, None}
use Rattle.std.specs.Prelude.{Option}
use Rattle.std.proofs.lemmas.List.Elements.{All-nil, All-cons}
use Rattle.netlist_model.specs.declared.NetId.{NetId}
use Rattle.netlist_model.specs.declared.Feed.{Feed}
use Rattle.netlist_model.specs.declared.Feed.TheVariants.{Net}
use Rattle.netlist_model.specs.Lists.{cell_count}
use Rattle.netlist_model.specs.Below.{IsFeedBelow, AreFeedsBelow}
use Rattle.netlist_arena.specs.Arena.{ArenaView}
use Rattle.gate_parts.specs.Appended.{Appended}
use Rattle.gate_parts.specs.Laws.{AppendedCount, AppendedMore}
use Rattle.gate_parts.specs.Parts.{part_cells}
use Rattle.tap_gates.specs.test_logic.declared.InstrNets.{InstrNets}
use Rattle.tap_gates.specs.test_logic.declared.TapNets.{TapNets}
use Rattle.register_gates.specs.Bits.{AreNetsBelow}
use Rattle.register_gates.specs.declared.tdo.TheConstants.{TDO}
use Rattle.register_gates.specs.Tdo.{AreIdentBelow, ident_feed, tdo_given, tdo_driver, tdo_cells}
use Rattle.register_gates.proofs.Added.{in_turn}

pub ident_below : (nets : ℕ) (ident : Option NetId) (given : Feed) → given ≡ ident_feed ident → AreIdentBelow nets ident → IsFeedBelow nets given
ident_below nets None given e h = let P : Feed → Type 0 = λ x. IsFeedBelow nets x in subst P (sym e) tt
ident_below nets (Some net) given e h = let P : Feed → Type 0 = λ x. IsFeedBelow nets x in subst P (sym e) h

-- what is handed in, with the identification register's bit as it was found
abbrev pub handed : TapNets → InstrNets → NetId → Feed → NetId → List Feed
handed tap instruction bypass ident_bit boundary = Net tap.tck ∷ Net tap.trst ∷ Net tap.shift_dr ∷ Net tap.shift_ir ∷ Net instruction.last ∷ Net instruction.bypass_on
    ∷ Net instruction.ident_on ∷ Net bypass ∷ ident_bit ∷ Net boundary ∷ []

pub handed_below : (n : ℕ) (tap : TapNets) (instruction : InstrNets) (bypass : NetId) (ident_bit : Feed) (boundary : NetId) → AreNetsBelow n tap.tck tap.trst → AreNetsBelow n tap.shift_dr tap.shift_ir
    → instruction.last.0 < n → AreNetsBelow n instruction.bypass_on instruction.ident_on → AreNetsBelow n bypass boundary → IsFeedBelow n ident_bit
    → AreFeedsBelow n (handed tap instruction bypass ident_bit boundary)
handed_below n tap instruction bypass ident_bit boundary clock steps last selections bits ident =
    let P : Feed → Type 0 = IsFeedBelow n in
    let feeds0 : List Feed = Net boundary ∷ [] in
    let below0 : AreFeedsBelow n feeds0 = All-cons P (Net boundary) [] bits.1 (All-nil P) in
    let feeds1 : List Feed = ident_bit ∷ feeds0 in
    let below1 : AreFeedsBelow n feeds1 = All-cons P ident_bit feeds0 ident below0 in
    let feeds2 : List Feed = Net bypass ∷ feeds1 in
    let below2 : AreFeedsBelow n feeds2 = All-cons P (Net bypass) feeds1 bits.0 below1 in
    let feeds3 : List Feed = Net instruction.ident_on ∷ feeds2 in
    let below3 : AreFeedsBelow n feeds3 = All-cons P (Net instruction.ident_on) feeds2 selections.1 below2 in
    let feeds4 : List Feed = Net instruction.bypass_on ∷ feeds3 in
    let below4 : AreFeedsBelow n feeds4 = All-cons P (Net instruction.bypass_on) feeds3 selections.0 below3 in
    let feeds5 : List Feed = Net instruction.last ∷ feeds4 in
    let below5 : AreFeedsBelow n feeds5 = All-cons P (Net instruction.last) feeds4 last below4 in
    let feeds6 : List Feed = Net tap.shift_ir ∷ feeds5 in
    let below6 : AreFeedsBelow n feeds6 = All-cons P (Net tap.shift_ir) feeds5 steps.1 below5 in
    let feeds7 : List Feed = Net tap.shift_dr ∷ feeds6 in
    let below7 : AreFeedsBelow n feeds7 = All-cons P (Net tap.shift_dr) feeds6 steps.0 below6 in
    let feeds8 : List Feed = Net tap.trst ∷ feeds7 in
    let below8 : AreFeedsBelow n feeds8 = All-cons P (Net tap.trst) feeds7 clock.1 below7 in
    All-cons P (Net tap.tck) feeds8 clock.0 below8

pub driver_below : (k n : ℕ) (first : NetId) → first.0 ≡ k → n ≡ k + 6 → AreFeedsBelow n (Net first ∷ Net (record { 0 = first.0 + 1 }) ∷ [])
driver_below k n first at more =
    let P : Feed → Type 0 = IsFeedBelow n in
    let next : NetId = record { 0 = first.0 + 1 } in
    All-cons P (Net first) (Net next ∷ []) (omega arith) (All-cons P (Net next) [] (omega arith) (All-nil P))

pub one_left : (old middle : ArenaView) (given : List Feed) → Appended old middle 6 (part_cells TDO given (length old.lists.nets) (cell_count old.lists)) → 7 ≤ old.spare.cells → 0 < middle.spare.cells
one_left old middle given added room = let e : middle.spare.cells + 6 ≡ old.spare.cells = added.cell_room in omega arith

pub tdo_added : AppendedCount → AppendedMore → (old middle new : ArenaView) (tap : TapNets) (instruction : InstrNets) (bypass : NetId) (ident : Option NetId) (boundary tdo : NetId)
    (ident_bit : Feed) (first : NetId) → ident_bit ≡ ident_feed ident → first.0 ≡ length old.lists.nets
    → Appended old middle 6 (part_cells TDO (handed tap instruction bypass ident_bit boundary) (length old.lists.nets) (cell_count old.lists))
    → Appended middle new 0 (tdo_driver first.0 tdo (cell_count middle.lists) ∷ [])
    → Appended old new 6 (tdo_cells (length old.lists.nets) (cell_count old.lists) tap instruction bypass ident boundary tdo)
tdo_added count more old middle new tap instruction bypass ident boundary tdo ident_bit first e at a b =
    let P : Feed → Type 0 = λ x. Appended old middle 6 (part_cells TDO (handed tap instruction bypass x boundary) (length old.lists.nets) (cell_count old.lists)) in
    let Q : ℕ → Type 0 = λ n. Appended middle new 0 (tdo_driver n tdo (cell_count middle.lists) ∷ []) in
    in_turn count more old middle new 6 0 6 (part_cells TDO (tdo_given tap instruction bypass ident boundary) (length old.lists.nets) (cell_count old.lists))
    (λ nets number. tdo_driver (length old.lists.nets) tdo number ∷ []) (subst P e a) refl (subst Q at b) refl
