-- A netlist inside another that gives its three-state gates other operands.
use Rattle.std.proofs.Common.{◌≡◌, ℕ, suc, Bool, true, false, List, [], ◌∷◌, ◌++◌, map, refl, ap, sym, ◌∙◌, Option, Some, None, inl, inr, if◌then◌else◌}
use Rattle.std.specs.Prelude.{slice_get}
use Rattle.cell_library.specs.signal_values.declared.Sig.{Sig}
use Rattle.cell_library.specs.signal_values.Values.{see}
use Rattle.cell_library.specs.declared.Kind.{Kind}
use Rattle.cell_library.specs.declared.Kind.TheVariants.{Bufif0, Bufif1}
use Rattle.cell_library.specs.Flops.{flop_next, flop_start}
use Rattle.cell_library.specs.declared.listed.ListedCell.{ListedCell}
use Rattle.cell_library.specs.Gates.{flop_of, is_three_state}
use Rattle.netlist_model.proofs.KindLaws.{flop_no_bufif}
use Rattle.netlist_model.specs.declared.Feed.{Feed}
use Rattle.netlist_model.specs.declared.Feed.TheVariants.{Net, Const}
use Rattle.netlist_model.specs.Lists.{CellView, NetlistView, cell_at, direction, Drives, IsUndriven}
use Rattle.netlist_model.specs.Settled.{feed_values, follows_pin, cell_drive, cell_value, driver_of}
use Rattle.netlist_model.specs.Formed.{IsWellFormed}
use Rattle.netlist_model.specs.Drivers.{IsDriverOf, DriverDrives, DriverIsFound}
use Rattle.netlist_model.specs.Nested.{renamed_cell, renamed_feed}
use Rattle.netlist_model.specs.Behind.{driven_value, own_value, BehindMeets, BehindStarts, BehindSteps, OperandsAreGiven}
use Rattle.netlist_model.proofs.Nests.{feeds_renamed, output_renamed}

-- a net that a cell reads has the given value: a three-state gate drives none but output bits, which nobody reads, and inout bits, which follow pins
read_value : DriverDrives → (N : NetlistView) → IsWellFormed N → (value : ℕ → Sig) (j : ℕ) (other : CellView) (place net : ℕ) → cell_at N j ≡ Some other
    → slice_get other.feeds place ≡ Some (Net (record { 0 = net })) → own_value N value net ≡ value net
read_value drivers N formed value j other place net live at = by_pin (follows_pin (direction N.ports net)) refl
  where
    by_kind : (cell : CellView) (i : ℕ) → Drives N i cell net → follows_pin (direction N.ports net) ≡ false → (three : Bool) → is_three_state cell.kind ≡ three
        → (if three then see (cell_drive cell.kind (feed_values value cell.feeds) (value net)) else value net) ≡ value net
    by_kind cell i drives inside false is = refl
    by_kind cell i drives inside true is = absurd (elim (formed.bufif_outside i cell net drives is) [
      | inl e ↦ formed.bufif_unread i j cell other place net drives is (record { live = live; operand = at }) e
      | inr e ↦ (let bad : true ≡ false = sym (ap follows_pin e) ∙ inside in cc)
    ])

    by_driver : (o : Option CellView) → IsDriverOf N net o → follows_pin (direction N.ports net) ≡ false → driven_value o value net ≡ value net
    by_driver None none inside = refl
    by_driver (Some cell) d inside = by_kind cell d.0 d.1 inside (is_three_state cell.kind) refl

    by_pin : (b : Bool) → follows_pin (direction N.ports net) ≡ b → (if b then value net else driven_value (driver_of N.cells net) value net) ≡ value net
    by_pin true e = refl
    by_pin false e = by_driver (driver_of N.cells net) (drivers N net) e

read_values : DriverDrives → (N : NetlistView) → IsWellFormed N → (value : ℕ → Sig) (j : ℕ) (other : CellView) → cell_at N j ≡ Some other → (feeds : List Feed)
    → ((place net : ℕ) → slice_get feeds place ≡ Some (Net (record { 0 = net })) → own_value N value net ≡ value net)
    → feed_values (own_value N value) feeds ≡ feed_values value feeds
read_values drivers N formed value j other live [] each = refl
read_values drivers N formed value j other live (Net net ∷ feeds) each =
    ap (λ x. x ∷ feed_values (own_value N value) feeds) (each 0 net.0 refl)
    ∙ ap (λ xs. value net.0 ∷ xs) (read_values drivers N formed value j other live feeds (λ place n at. each (suc place) n at))
read_values drivers N formed value j other live (Const b ∷ feeds) each =
    ap (λ xs. feed_values value (Const b ∷ []) ++ xs) (read_values drivers N formed value j other live feeds (λ place n at. each (suc place) n at))

pub operands_are_given : DriverDrives → OperandsAreGiven
operands_are_given drivers N formed value i cell live =
    read_values drivers N formed value i cell live cell.feeds (λ place net at. read_value drivers N formed value i cell place net live at)

three_state_value : (library : List ListedCell) (kind : Kind) (inputs : List Sig) (value kept : Sig) → is_three_state kind ≡ true → see (cell_drive kind inputs value) ≡ cell_value library kind inputs kept
three_state_value library Bufif0 inputs value kept is = refl
three_state_value library Bufif1 inputs value kept is = refl
three_state_value library kind inputs value kept is = absurd (let bad : false ≡ true = is in cc)

-- a net that follows no pin, by its driver
own_inside : (N : NetlistView) (value : ℕ → Sig) (net : ℕ) → follows_pin (direction N.ports net) ≡ false → own_value N value net ≡ driven_value (driver_of N.cells net) value net
own_inside N value net inside = rw inside refl

own_driven : (library : List ListedCell) (cell : CellView) (value : ℕ → Sig) (net : ℕ) (kept : Sig) (three : Bool) → is_three_state cell.kind ≡ three
    → (three ≡ false → value net ≡ cell_value library cell.kind (feed_values value cell.feeds) kept)
    → driven_value (Some cell) value net ≡ cell_value library cell.kind (feed_values value cell.feeds) kept
own_driven library cell value net kept true is plain = rw is (three_state_value library cell.kind (feed_values value cell.feeds) (value net) kept is)
own_driven library cell value net kept false is plain = rw is (plain refl)

none_found : (N : NetlistView) (net : ℕ) (o : Option CellView) → IsDriverOf N net o → IsUndriven N net → o ≡ None
none_found N net None d none = refl
none_found N net (Some cell) d none = absurd (none d.0 cell d.1.live d.1.output)

pub behind_meets : DriverDrives → DriverIsFound → BehindMeets
behind_meets drivers found N M to at given state value formed nested meets =
    let inner : ℕ → Sig = λ net. value (to net) in
    record {
      pins = λ net g. rw g refl;
      cells = λ i cell net drives inside.
          own_inside N inner net inside ∙ ap (λ o. driven_value o inner net) (found N formed.one_driver i cell net drives)
          ∙ own_driven N.library cell inner net (state (at i)) (is_three_state cell.kind) refl (λ two. plain i cell net drives inside two)
          ∙ ap (λ xs. cell_value N.library cell.kind xs (state (at i))) (sym (operands_are_given drivers N formed inner i cell drives.live));
      undriven = λ net inside none.
          own_inside N inner net inside ∙ ap (λ o. driven_value o inner net) (none_found N net (driver_of N.cells net) (drivers N net) none)
          ∙ meets.undriven (to net) (nested.inside net inside) (nested.undriven net inside none);
    }
  where
    plain : (i : ℕ) (cell : CellView) (net : ℕ) → Drives N i cell net → follows_pin (direction N.ports net) ≡ false → is_three_state cell.kind ≡ false
        → value (to net) ≡ cell_value N.library cell.kind (feed_values (λ n. value (to n)) cell.feeds) (state (at i))
    plain i cell net drives inside two =
        let there = nested.cells i cell drives.live two in
        meets.cells (at i) (renamed_cell to there.name cell) (to net) (record { live = there.live; output = output_renamed to cell.output net drives.output }) (nested.inside net inside)
        ∙ ap (λ xs. cell_value M.library cell.kind xs (state (at i))) (feeds_renamed to value cell.feeds)
        ∙ ap (λ (l : List ListedCell). cell_value l cell.kind (feed_values (λ n. value (to n)) cell.feeds) (state (at i))) nested.library

pub behind_steps : DriverDrives → BehindSteps
behind_steps drivers N M to at before after state next formed nested step = record {
  each = λ i cell kind live is.
      let there = nested.cells i cell live (flop_no_bufif N.library cell.kind kind is) in
      let first = feeds_renamed to before cell.feeds ∙ sym (operands_are_given drivers N formed (λ n. before (to n)) i cell live) in
      let second = feeds_renamed to after cell.feeds ∙ sym (operands_are_given drivers N formed (λ n. after (to n)) i cell live) in
      step.each (at i) (renamed_cell to there.name cell) kind there.live (ap (λ (l : List ListedCell). flop_of l cell.kind) nested.library ∙ is)
      ∙ ap (λ xs. flop_next kind xs (feed_values after (map (renamed_feed to) cell.feeds)) (state (at i))) first
      ∙ ap (λ xs. flop_next kind (feed_values (own_value N (λ n. before (to n))) cell.feeds) xs (state (at i))) second;
}

pub behind_starts : DriverDrives → BehindStarts
behind_starts drivers N M to at given value state formed nested start = record {
  each = λ i cell kind live is.
      let there = nested.cells i cell live (flop_no_bufif N.library cell.kind kind is) in
      start.each (at i) (renamed_cell to there.name cell) kind there.live (ap (λ (l : List ListedCell). flop_of l cell.kind) nested.library ∙ is)
      ∙ ap (λ xs. flop_start kind xs (given (at i)))
      (feeds_renamed to value cell.feeds ∙ sym (operands_are_given drivers N formed (λ n. value (to n)) i cell live));
}
