-- A latched bit is added in two parts, and is one of a row.
use Rattle.std.proofs.Common.{◌≡◌, ℕ, suc, ◌+◌, ◌*◌, ◌≤◌, Bool, List, [], ◌∷◌, length, refl, sym, ◌∙◌, ap, subst, arith}
use Rattle.netlist_model.specs.declared.NetId.{NetId}
use Rattle.netlist_model.specs.declared.Feed.{Feed}
use Rattle.netlist_model.specs.declared.Feed.TheVariants.{Net, Const}
use Rattle.netlist_model.specs.Lists.{CellView, cell_count}
use Rattle.netlist_arena.specs.Arena.{ArenaView}
use Rattle.gate_parts.specs.Appended.{Appended}
use Rattle.gate_parts.specs.Parts.{part_cells}
use Rattle.register_gates.specs.Bits.{held_bit_cells}
use Rattle.register_gates.proofs.Lengths.{held_length}
use Rattle.register_gates.specs.Steps.{AddedInTurn}
use Rattle.instruction_gates.specs.declared.latches.Latching.{Latching}
use Rattle.instruction_gates.specs.declared.latches.TheConstants.{LOADED}
use Rattle.instruction_gates.specs.Rows.{is_one}
use Rattle.instruction_gates.specs.Latches.{holding_of, loaded_given, latch_cells}
use Rattle.instruction_gates.specs.Matches.{match_before, match_cells}
use Rattle.instruction_gates.proofs.RowSteps.{Sized}

-- a latched bit of a row
abbrev pub latch_part : Latching → ℕ → ℕ → ℕ → ℕ → Feed → List CellView
latch_part by shifts behind at cell preset = latch_cells by (shifts + 3 * behind) at cell preset

pub latch_sized : (by : Latching) (shifts : ℕ) → Sized 3 (latch_part by shifts)
latch_sized by shifts = λ behind at cell preset. ap suc (held_length (at + 1) (cell + 1) (holding_of by) (is_one preset) (Net (record { 0 = at })))

pub one_room : (old middle : ArenaView) (given : List Feed) → Appended old middle 1 (part_cells LOADED given (length old.lists.nets) (cell_count old.lists)) → 3 ≤ old.spare.cells → 2 ≤ middle.spare.cells
one_room old middle given added room = let e : middle.spare.cells + 1 ≡ old.spare.cells = added.cell_room in omega arith

pub latch_added : AddedInTurn → (old middle new : ArenaView) (by : Latching) (shift : NetId) (preset : Feed) (is_preset : Bool) (loaded : NetId)
    → is_preset ≡ is_one preset → loaded.0 ≡ length old.lists.nets
    → Appended old middle 1 (part_cells LOADED (Net shift ∷ Const is_preset ∷ Net by.in_reset ∷ []) (length old.lists.nets) (cell_count old.lists))
    → Appended middle new 2 (held_bit_cells (length middle.lists.nets) (cell_count middle.lists) (holding_of by) is_preset (Net loaded))
    → Appended old new 3 (latch_cells by shift.0 (length old.lists.nets) (cell_count old.lists) preset)
latch_added in_turn old middle new by shift preset is_preset loaded e f a b =
    let P : Bool → Type 0 = λ x. Appended old middle 1 (part_cells LOADED (Net shift ∷ Const x ∷ Net by.in_reset ∷ []) (length old.lists.nets) (cell_count old.lists)) in
    let Q : Bool → Type 0 = λ x. Appended middle new 2 (held_bit_cells (length middle.lists.nets) (cell_count middle.lists) (holding_of by) x (Net loaded)) in
    let R : ℕ → Type 0 = λ n. Appended middle new 2 (held_bit_cells (length middle.lists.nets) (cell_count middle.lists) (holding_of by) (is_one preset) (Net (record { 0 = n }))) in
    in_turn old middle new 1 2 3 (part_cells LOADED (loaded_given by shift.0 preset) (length old.lists.nets) (cell_count old.lists))
    (λ at cell. held_bit_cells at cell (holding_of by) (is_one preset) (Net (record { 0 = length old.lists.nets }))) (subst P e a) refl (subst R f (subst Q e b)) refl

-- a bit of an opcode that is compared
abbrev pub match_part : ℕ → ℕ → ℕ → ℕ → ℕ → Feed → List CellView
match_part first latches behind at cell item = match_cells (match_before first behind) (latches + 3 * behind + 1) at cell item

pub match_sized : (first latches : ℕ) → Sized 2 (match_part first latches)
match_sized first latches = λ behind at cell item. refl

-- with what was told of the bits behind
pub match_at : (middle new : ArenaView) (first latches behind count : ℕ) (told item : Feed) → told ≡ match_before first count → behind ≡ count
    → Appended middle new 2 (match_cells told (latches + 3 * behind + 1) (length middle.lists.nets) (cell_count middle.lists) item)
    → Appended middle new 2 (match_part first latches behind (length middle.lists.nets) (cell_count middle.lists) item)
match_at middle new first latches behind count told item e f step =
    let P : Feed → Type 0 = λ x. Appended middle new 2 (match_cells x (latches + 3 * behind + 1) (length middle.lists.nets) (cell_count middle.lists) item) in
    let g : match_before first count ≡ match_before first behind = ap (λ (n : ℕ). match_before first n) (sym f) in
    subst P (e ∙ g) step
