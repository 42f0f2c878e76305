-- What is told of the bits behind, in a row that grows.
use Rattle.std.proofs.Common.{◌≡◌, ℕ, zero, suc, ◌+◌, ◌-◌, ◌*◌, ◌<◌, ◌≤◌, true, List, length, drop, length-drop, sym, ◌∙◌, ap, subst, arith}
use Rattle.std.proofs.Math.Seq.{drop-length}
use Rattle.netlist_model.specs.declared.NetId.{NetId}
use Rattle.netlist_model.specs.declared.Feed.{Feed}
use Rattle.netlist_model.specs.declared.Feed.TheVariants.{Net, Const}
use Rattle.netlist_model.specs.Lists.{CellView}
use Rattle.netlist_model.specs.Below.{IsFeedBelow}
use Rattle.netlist_arena.specs.Arena.{ArenaView}
use Rattle.gate_parts.specs.Appended.{Appended}
use Rattle.gate_parts.specs.Laws.{AppendedCount}
use Rattle.instruction_gates.specs.Matches.{match_before}

pub before_below : (first nets behind : ℕ) (told : Feed) → told ≡ match_before first behind → nets ≡ first + 2 * behind → IsFeedBelow nets told
before_below first nets zero told e h = let P : Feed → Type 0 = λ x. IsFeedBelow nets x in subst P (sym e) tt
before_below first nets (suc behind) told e h = let P : Feed → Type 0 = λ x. IsFeedBelow nets x in subst P (sym e) (omega arith)

pub told_none : (first : ℕ) (wanted : List Feed) → Const true ≡ match_before first (length (drop (length wanted) wanted))
told_none first wanted = sym (ap (λ (xs : List Feed). match_before first (length xs)) (drop-length wanted))

pub told_more : AppendedCount → (old middle : ArenaView) (width : ℕ) (part : List CellView) (wanted : List Feed) (place : ℕ) (net : NetId) → 0 < place → place ≤ length wanted
    → Appended old middle (2 * length (drop place wanted)) part → net.0 ≡ length middle.lists.nets
    → Net net ≡ match_before (length old.lists.nets) (length (drop (place - 1) wanted))
told_more count old middle width part wanted place net low high added at =
    let more : length middle.lists.nets ≡ length old.lists.nets + 2 * length (drop place wanted) = count old middle (2 * length (drop place wanted)) part added in
    let a = length-drop place wanted in
    let b = length-drop (place - 1) wanted in
    let one : suc (length (drop place wanted)) ≡ length (drop (place - 1) wanted) = omega arith in
    ap (λ (n : ℕ). let id : NetId = record { 0 = n } in let feed : Feed = Net id in feed) (at ∙ more) ∙ ap (λ (n : ℕ). match_before (length old.lists.nets) n) one
