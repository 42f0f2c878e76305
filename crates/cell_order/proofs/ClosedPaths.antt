-- A closed path, taken from its end back to where it closes, is a loop.
use Rattle.std.proofs.Common.{◌≡◌, ℕ, ◌+◌, ◌-◌, ◌<◌, List, length, slice_index, inl, inr, arith, refl, sym, ap, ◌∙◌, subst, false, Some}
use Rattle.std.proofs.lemmas.Bool.{cases_lt}
use Rattle.std.proofs.lemmas.Option.{slice_get_within}
use Rattle.list_laws.proofs.Lists.{slice_get_there}
use Rattle.netlist_model.proofs.Search.{cell_at_once}
use Rattle.cell_library.specs.Gates.{is_flop}
use Rattle.netlist_model.specs.declared.CellId.{CellId}
use Rattle.netlist_model.specs.Lists.{CellView, NetlistView, cell_at}
use Rattle.netlist_model.specs.Orders.{StandsAt}
use Rattle.cell_order.specs.Walk.{IsClosed, IsPathBack, WaitsFor}
use Rattle.cell_order.specs.Loops.{IsGateLoop, ReadsGate}

-- a gate with this number
pub record IsGate (N : NetlistView) (number : ℕ) : Type 0 where
  pub cell : CellView
  pub live : cell_at N number ≡ Some cell
  pub gate : is_flop N.library cell.kind ≡ false

waiting_gate : (N : NetlistView) (v w : ℕ) → WaitsFor N v w → IsGate N v
waiting_gate N v w b = record { cell = b.1.cell; live = b.1.reads.live; gate = b.1.gate }

-- each cell of a closed path is one
pub path_gate : (N : NetlistView) (path : List CellId) (on i v : ℕ) → IsClosed N path on → StandsAt path i v → IsGate N v
path_gate N path on i v c there =
    let inside = slice_get_within path i (record { 0 = v }) there in
    elim (cases_lt (i + 1) (length path)) [
      | inl more ↦ let next = slice_get_there path (i + 1) more in waiting_gate N v next.0.0 (c.chain i v next.0.0 there next.1)
      | inr all ↦ waiting_gate N v on (c.closes i v there (omega (arith, inside, all)))
    ]

reads_gate : (N : NetlistView) (v w : ℕ) → WaitsFor N v w → IsGate N w → ReadsGate N v w
reads_gate N v w b g =
    let same : b.1.driver ≡ g.cell = cell_at_once N w w b.1.driver g.cell refl b.1.drives.live g.live in
    record {
      reading = b.1.cell;
      driving = b.1.driver;
      place = b.0;
      net = b.1.net;
      reader_gate = b.1.gate;
      driver_gate = ap (λ (x : CellView). is_flop N.library x.kind) same ∙ g.gate;
      reads = b.1.reads;
      drives = b.1.drives;
    }

module _ (N : NetlistView) (path : List CellId) (on : ℕ) (numbers : List ℕ) (c : IsClosed N path on) (b : IsPathBack path on numbers) where
  -- the cell of a number stands on the path
  spot : (i : ℕ) → i < length numbers → StandsAt path (length path - 1 - i) (slice_index numbers i)
  spot i low =
      let count = b.count in
      let there = slice_get_there path (length path - 1 - i) (omega (arith, low, count)) in
      let same = b.each i there.0.0 low there.1 in
      subst (λ v. StandsAt path (length path - 1 - i) v) (sym same) there.1

  inside : b.from < length path
  inside = slice_get_within path b.from (record { 0 = on }) b.there

  pub loop_of : IsGateLoop N numbers
  loop_of = record {
    some = let count = b.count in omega (arith, count, inside);
    each = λ i more.
        let here = spot (i + 1) more in
        let low : i < length numbers = omega (arith, more) in
        let count = b.count in
        let next : length path - 1 - i ≡ length path - 1 - (i + 1) + 1 = omega (arith, more, count) in
        let after = subst (λ k. StandsAt path k (slice_index numbers i)) next (spot i low) in
        reads_gate N (slice_index numbers (i + 1)) (slice_index numbers i) (c.chain (length path - 1 - (i + 1)) (slice_index numbers (i + 1)) (slice_index numbers i) here after)
        (path_gate N path on (length path - 1 - i) (slice_index numbers i) c (spot i low));
    closes =
        let count = b.count in
        let first : 0 < length numbers = omega (arith, count, inside) in
        let last : length numbers - 1 < length numbers = omega (arith, first) in
        let end : length path ≡ length path - 1 - 0 + 1 = omega (arith, inside) in
        let waits = c.closes (length path - 1 - 0) (slice_index numbers 0) (spot 0 first) end in
        let from : length path - 1 - (length numbers - 1) ≡ b.from = omega (arith, count, inside) in
        let same : slice_index numbers (length numbers - 1) ≡ on = b.each (length numbers - 1) on last (subst (λ k. StandsAt path k on) (sym from) b.there) in
        reads_gate N (slice_index numbers 0) (slice_index numbers (length numbers - 1)) (subst (λ v. WaitsFor N (slice_index numbers 0) v) (sym same) waits)
        (path_gate N path on (length path - 1 - (length numbers - 1)) (slice_index numbers (length numbers - 1)) c (spot (length numbers - 1) last));
    once = λ i j hi hj e.
        let one = c.once (length path - 1 - i) (length path - 1 - j) (slice_index numbers j) (subst (λ v. StandsAt path (length path - 1 - i) v) e (spot i hi)) (spot j hj) in
        let count = b.count in
        omega (arith, one, hi, hj, count);
  }
