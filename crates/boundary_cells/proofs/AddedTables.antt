-- A table of gates is added, and then a cell on a net that was there.
use Rattle.std.proofs.Common.{◌≡◌, ℕ, ◌+◌, ◌≤◌, ◌<◌, List, [], ◌∷◌, ◌++◌, length, ap, ◌∙◌, arith}
use Rattle.std.proofs.lemmas.List.Elements.{All-weaker}
use Rattle.netlist_model.specs.declared.Feed.{Feed}
use Rattle.netlist_model.specs.declared.Feed.TheVariants.{Net, Const}
use Rattle.netlist_model.specs.Lists.{CellView, cell_count}
use Rattle.netlist_model.specs.Below.{IsFeedBelow, AreFeedsBelow}
use Rattle.netlist_arena.specs.Arena.{ArenaView}
use Rattle.gate_parts.specs.Appended.{Appended}
use Rattle.gate_parts.specs.Laws.{AppendedMore}

pub feed_more : (n m : ℕ) → n ≤ m → (feed : Feed) → IsFeedBelow n feed → IsFeedBelow m feed
feed_more n m more (Net net) below = let b : net.0 < n = below in let r : net.0 < m = omega arith in r
feed_more n m more (Const b) below = tt

pub feeds_more : (n m : ℕ) → n ≤ m → (feeds : List Feed) → AreFeedsBelow n feeds → AreFeedsBelow m feeds
feeds_more n m more feeds below = All-weaker (IsFeedBelow n) (IsFeedBelow m) (feed_more n m more) feeds below

-- what is added, and then one cell, which has the next number
pub joined : AppendedMore → (old middle new : ArenaView) (count n : ℕ) (part : List CellView) (cell : ℕ → CellView) → length part ≡ n → Appended old middle count part
    → Appended middle new 0 (cell (cell_count middle.lists) ∷ []) → Appended old new count (part ++ cell (cell_count old.lists + n) ∷ [])
joined more old middle new count n part cell long added step =
    let z : count + 0 ≡ count = omega arith in
    let next : cell_count middle.lists ≡ cell_count old.lists + n = added.counted ∙ ap (λ (k : ℕ). cell_count old.lists + k) long in
    let step' : Appended middle new 0 (cell (cell_count old.lists + n) ∷ []) = rw next at step in
    rw z at (more old middle new count 0 part (cell (cell_count old.lists + n) ∷ []) added step')
