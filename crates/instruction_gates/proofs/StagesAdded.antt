-- The instruction register is added in three parts.
use Rattle.std.proofs.Common.{◌≡◌, ℕ, suc, ◌+◌, ◌*◌, ◌≤◌, List, length, refl, ◌∙◌, ap, subst, arith}
use Rattle.netlist_model.specs.declared.NetId.{NetId}
use Rattle.netlist_model.specs.declared.Feed.{Feed}
use Rattle.netlist_model.specs.Lists.{cell_count}
use Rattle.netlist_arena.specs.Arena.{ArenaView}
use Rattle.gate_parts.specs.Appended.{Appended}
use Rattle.gate_parts.specs.Parts.{part_cells}
use Rattle.test_logic.specs.declared.TapNets.{TapNets}
use Rattle.register_gates.specs.declared.bits.Steering.{Steering}
use Rattle.register_gates.specs.Chains.{chain_cells}
use Rattle.register_gates.proofs.Lengths.{chain_length}
use Rattle.register_gates.specs.Steps.{AddedInTurn}
use Rattle.instruction_gates.specs.declared.stages.TheConstants.{LOADS}
use Rattle.instruction_gates.specs.Latches.{latches_cells}
use Rattle.instruction_gates.specs.Stages.{loads_given, ir_steering, ir_latching, shift_stage_cells, stages_cells}

pub one_left : (old a : ArenaView) (tap : TapNets) (n : ℕ) → Appended old a 1 (part_cells LOADS (loads_given tap) (length old.lists.nets) (cell_count old.lists))
    → 1 + 6 * n ≤ old.spare.cells → 6 * n ≤ a.spare.cells
one_left old a tap n added room = let e : a.spare.cells + 1 ≡ old.spare.cells = added.cell_room in omega arith

pub rest_left : (a b : ArenaView) (by : Steering) (tdi : NetId) (captured : List Feed) → Appended a b (3 * length captured) (chain_cells (length a.lists.nets) (cell_count a.lists) by tdi captured)
    → 6 * length captured ≤ a.spare.cells → 3 * length captured ≤ b.spare.cells
rest_left a b by tdi captured added room =
    let e = added.cell_room in
    let n = chain_length (length a.lists.nets) (cell_count a.lists) by tdi captured in
    omega arith

pub shift_stage_added : AddedInTurn → (old a b : ArenaView) (tap : TapNets) (tdi : NetId) (captured : List Feed)
    → Appended old a 1 (part_cells LOADS (loads_given tap) (length old.lists.nets) (cell_count old.lists))
    → Appended a b (3 * length captured) (chain_cells (length a.lists.nets) (cell_count a.lists) (ir_steering tap) tdi captured)
    → Appended old b (1 + 3 * length captured) (shift_stage_cells (length old.lists.nets) (cell_count old.lists) tap tdi captured)
shift_stage_added in_turn old a b tap tdi captured x y =
    in_turn old a b 1 (3 * length captured) (1 + 3 * length captured) (part_cells LOADS (loads_given tap) (length old.lists.nets) (cell_count old.lists))
    (λ at cell. chain_cells at cell (ir_steering tap) tdi captured) x refl y refl

pub stages_added : AddedInTurn → (old a b new : ArenaView) (tap : TapNets) (tdi : NetId) (captured presets : List Feed) (load shifts : NetId) → load.0 ≡ length old.lists.nets
    → shifts.0 ≡ length old.lists.nets + 1
    → Appended old a 1 (part_cells LOADS (loads_given tap) (length old.lists.nets) (cell_count old.lists))
    → Appended a b (3 * length captured) (chain_cells (length a.lists.nets) (cell_count a.lists) (ir_steering tap) tdi captured)
    → Appended b new (3 * length presets) (latches_cells (length b.lists.nets) (cell_count b.lists) (ir_latching load.0 tap) shifts.0 presets)
    → Appended old new (1 + 3 * length captured + 3 * length presets) (stages_cells (length old.lists.nets) (cell_count old.lists) tap tdi captured presets)
stages_added in_turn old a b new tap tdi captured presets load shifts e f x y z =
    let P : ℕ → Type 0 = λ n. Appended b new (3 * length presets) (latches_cells (length b.lists.nets) (cell_count b.lists) (ir_latching n tap) shifts.0 presets) in
    let Q : ℕ → Type 0 = λ n. Appended b new (3 * length presets) (latches_cells (length b.lists.nets) (cell_count b.lists) (ir_latching (length old.lists.nets) tap) n presets) in
    in_turn old b new (1 + 3 * length captured) (3 * length presets) (1 + 3 * length captured + 3 * length presets)
    (shift_stage_cells (length old.lists.nets) (cell_count old.lists) tap tdi captured)
    (λ at cell. latches_cells at cell (ir_latching (length old.lists.nets) tap) (length old.lists.nets + 1) presets)
    (shift_stage_added in_turn old a b tap tdi captured x y) (ap suc (chain_length (length old.lists.nets + 1) (cell_count old.lists + 1) (ir_steering tap) tdi captured) ∙ omega arith)
    (subst Q f (subst P e z)) refl
