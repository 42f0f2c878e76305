-- A netlist inside another.
use Rattle.std.proofs.Common.{◌≡◌, ℕ, List, [], ◌∷◌, map, refl, ap, ◌∙◌, Option, Some}
use Rattle.std.specs.Option.{option_map}
use Rattle.cell_library.specs.signal_values.declared.Sig.{Sig}
use Rattle.cell_library.specs.declared.listed.ListedCell.{ListedCell}
use Rattle.cell_library.specs.Gates.{flop_of}
use Rattle.cell_library.specs.Flops.{flop_next, flop_start}
use Rattle.netlist_model.specs.declared.Feed.{Feed}
use Rattle.netlist_model.specs.declared.Feed.TheVariants.{Net, Const}
use Rattle.netlist_model.specs.declared.NetId.{NetId}
use Rattle.netlist_model.specs.Settled.{feed_values, cell_value, Meets}
use Rattle.netlist_model.specs.Nested.{renamed_feed, renamed_net, renamed_cell, Nested}
use Rattle.netlist_model.specs.Lists.{NetlistView}
use Rattle.netlist_model.specs.Runs.{FlopsStart, FlopsStep}

pub feeds_renamed : (to : ℕ → ℕ) (v : ℕ → Sig) (feeds : List Feed) → feed_values v (map (renamed_feed to) feeds) ≡ feed_values (λ n. v (to n)) feeds
feeds_renamed to v [] = refl
feeds_renamed to v (Net net ∷ feeds) = let e = feeds_renamed to v feeds in cc
feeds_renamed to v (Const b ∷ feeds) = let e = feeds_renamed to v feeds in cc

pub output_renamed : (to : ℕ → ℕ) (output : Option NetId) (net : ℕ) → output ≡ Some (record { 0 = net }) → option_map (renamed_net to) output ≡ Some (record { 0 = to net })
output_renamed to output net e = rw e refl

-- own: what is nested meets its own equations, where its pins' nets have what the other netlist gives them
pub nested_meets : (N M : NetlistView) (to at : ℕ → ℕ) (given : (ℕ → Sig) → ℕ → Sig) (state value : ℕ → Sig) → Nested N M to at
    → Meets M given state value → Meets N (λ v net. value (to net)) (λ i. state (at i)) (λ net. value (to net))
nested_meets N M to at given state value nested meets = record {
  pins = λ net g. refl;
  cells = λ i cell net drives g.
      let there = nested.cells i cell drives.live in
      meets.cells (at i) (renamed_cell to there.name cell) (to net) (record { live = there.live; output = output_renamed to cell.output net drives.output }) (nested.inside net g)
      ∙ ap (λ xs. cell_value M.library cell.kind xs (state (at i))) (feeds_renamed to value cell.feeds)
      ∙ ap (λ (l : List ListedCell). cell_value l cell.kind (feed_values (λ n. value (to n)) cell.feeds) (state (at i))) nested.library;
  undriven = λ net g none. meets.undriven (to net) (nested.inside net g) (nested.undriven net g none);
}

-- own: and step as they do
pub nested_steps : (N M : NetlistView) (to at : ℕ → ℕ) (before after state next : ℕ → Sig) → Nested N M to at → FlopsStep M before after state next
    → FlopsStep N (λ net. before (to net)) (λ net. after (to net)) (λ i. state (at i)) (λ i. next (at i))
nested_steps N M to at before after state next nested step = record {
  each = λ i cell kind live is.
      let there = nested.cells i cell live in
      step.each (at i) (renamed_cell to there.name cell) kind there.live (ap (λ (l : List ListedCell). flop_of l cell.kind) nested.library ∙ is)
      ∙ ap (λ xs. flop_next kind xs (feed_values after (map (renamed_feed to) cell.feeds)) (state (at i))) (feeds_renamed to before cell.feeds)
      ∙ ap (λ xs. flop_next kind (feed_values (λ n. before (to n)) cell.feeds) xs (state (at i))) (feeds_renamed to after cell.feeds);
}

-- own: its flip-flops start as those of the other netlist
pub nested_starts : (N M : NetlistView) (to at : ℕ → ℕ) (given value state : ℕ → Sig) → Nested N M to at → FlopsStart M given value state
    → FlopsStart N (λ i. given (at i)) (λ net. value (to net)) (λ i. state (at i))
nested_starts N M to at given value state nested start = record {
  each = λ i cell kind live is.
      let there = nested.cells i cell live in
      start.each (at i) (renamed_cell to there.name cell) kind there.live (ap (λ (l : List ListedCell). flop_of l cell.kind) nested.library ∙ is)
      ∙ ap (λ xs. flop_start kind xs (given (at i))) (feeds_renamed to value cell.feeds);
}
