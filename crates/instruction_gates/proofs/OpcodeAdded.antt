-- What is added for the opcode of an instruction.
use Rattle.std.proofs.Common.{◌≡◌, ℕ, zero, suc, ◌+◌, ◌*◌, ◌≤◌, List, length, sym, subst, None, arith}
use Rattle.std.specs.Prelude.{Option}
use Rattle.cell_library.specs.declared.codes.Bits.{Bits}
use Rattle.netlist_model.specs.declared.Feed.{Feed}
use Rattle.netlist_model.specs.Below.{IsFeedBelow}
use Rattle.netlist_model.specs.Contained.{IsDense}
use Rattle.netlist_model.specs.Lists.{CellView, cell_count}
use Rattle.netlist_arena.specs.Arena.{ArenaView}
use Rattle.gate_parts.specs.Appended.{Appended}
use Rattle.gate_parts.specs.Laws.{AppendedNone, AppendedCount}
use Rattle.test_logic.specs.declared.Codes.{Codes}
use Rattle.instruction_gates.specs.Matches.{match_before, matches_cells}
use Rattle.instruction_gates.specs.Register.{size_with, cells_with}
use Rattle.instruction_gates.proofs.Sizes.{matches_length}

-- the room that is left
pub match_room : (old new : ArenaView) (latches count : ℕ) (wanted : List Feed) → length wanted ≡ count
    → Appended old new (2 * length wanted) (matches_cells (length old.lists.nets) (cell_count old.lists) latches wanted) → old.spare.cells ≤ new.spare.cells + 2 * count
match_room old new latches count wanted e added =
    let room = added.cell_room in
    let whole = matches_length (length old.lists.nets) (cell_count old.lists) latches wanted in
    omega arith

before_below : (first nets behind : ℕ) → first + 2 * behind ≤ nets → IsFeedBelow nets (match_before first behind)
before_below first nets zero h = tt
before_below first nets (suc behind) h = omega arith

-- what tells stands on one of its nets
pub match_below : AppendedCount → (old new : ArenaView) (part : List CellView) (wanted : List Feed) (told : Feed) → told ≡ match_before (length old.lists.nets) (length wanted)
    → Appended old new (2 * length wanted) part → (nets : ℕ) → length new.lists.nets ≤ nets → IsFeedBelow nets told
match_below count old new part wanted told e added nets h =
    let more = count old new (2 * length wanted) part added in
    let P : Feed → Type 0 = λ x. IsFeedBelow nets x in
    subst P (sym e) (before_below (length old.lists.nets) nets (length wanted) (omega arith))

-- nothing, where there is none
pub none_added : AppendedNone → (old : ArenaView) (latches : ℕ) (codes : Codes) (found : Option Bits) → found ≡ None → IsDense old.lists
    → Appended old old (size_with codes found) (cells_with (length old.lists.nets) (cell_count old.lists) latches codes found)
none_added none old latches codes found e dense =
    let P : Option Bits → Type 0 = λ o. Appended old old (size_with codes o) (cells_with (length old.lists.nets) (cell_count old.lists) latches codes o) in
    subst P (sym e) (none old dense)
