-- What was added stays, and what a flip-flop does.
use Rattle.std.proofs.Common.{◌≡◌, ◌≢◌, ℕ, zero, suc, ◌+◌, ◌-◌, ◌<◌, ◌≤◌, List, [], ◌∷◌, length, All, sym, ◌∙◌, arith, ap, Option, None, Some, inl, inr}
use Rattle.std.proofs.lemmas.Bool.{cases_lt}
use Rattle.std.specs.List.{slice_get, range_with_len}
use Rattle.std.proofs.lemmas.List.FromFn.{length-range_with_len, get_or-range_with_len}
use Rattle.signal_values.specs.declared.Sig.{Sig}
use Rattle.netlist_arena.specs.cell_library.declared.FlopKind.{FlopKind}
use Rattle.netlist_arena.specs.cell_library.Gates.{flop_of}
use Rattle.netlist_arena.specs.cell_library.Flops.{flop_next, flop_start}
use Rattle.netlist_arena.proofs.netlist_model.KindLaws.{cell_value-flop}
use Rattle.netlist_arena.specs.netlist_model.declared.Feed.{Feed}
use Rattle.netlist_arena.specs.netlist_model.declared.NetId.{NetId}
use Rattle.netlist_arena.specs.netlist_model.Lists.{CellView, NetlistView, cell_at, cell_count}
use Rattle.netlist_arena.specs.netlist_model.Settled.{feed_values, Meets}
use Rattle.netlist_arena.specs.netlist_model.Contained.{HasCells}
use Rattle.netlist_arena.specs.Arena.{ArenaView}
use Rattle.netlist_arena.proofs.Puts.{dense_past}
use Rattle.gate_parts.specs.Appended.{Appended, Grows}
use Rattle.gate_parts.specs.declared.Gate.{Gate}
use Rattle.gate_parts.specs.Parts.{gate_cell, cells_from, part_cells}
use Rattle.gate_parts.specs.Laws.{AppendedIsThere, AppendedMore, FreeStays, PartLeavesFree, AppendedGrows, GrowthKeeps, FlopOn, FlopStarts, FlopSteps}
use Rattle.gate_parts.proofs.Steps.{appended_count, appended_more}

pub has_from : (N : NetlistView) (first : ℕ) (part : List CellView) → ((k : ℕ) → cell_at N (first + k) ≡ slice_get part k) → HasCells N part
has_from N first [] at = tt
has_from N first (cell ∷ cells) at = (
  record { number = first; name = cell.name; live = let e : first + 0 ≡ first = omega arith in rw e at (at 0) },
  has_from N (suc first) cells (λ k. let e : first + suc k ≡ suc first + k = omega arith in rw e at (at (suc k))),
)

-- the numbers of a range lie below its end
range_below : (first count nets : ℕ) → nets ≡ first + count → All (λ net. net < nets) (range_with_len first count)
range_below first count nets end = λ k d h.
    let inside : k < count = (let e = length-range_with_len first count in omega (arith, e)) in
    let at = get_or-range_with_len first count k d inside in omega (arith, at)

pub appended_there : AppendedIsThere
appended_there = λ old new count part added. record {
  nets = range_below (length old.lists.nets) count (length new.lists.nets) (appended_count old new count part added);
  cells = has_from new.lists (cell_count old.lists) part added.added;
}

pub more_appended : AppendedMore
more_appended = λ old middle new count more part rest first then. appended_more old middle new count more part rest first then

pub free_stays : FreeStays
free_stays = λ old new count part added net free off. record {
  undriven = λ i cell here drives.
      elim (cases_lt i (cell_count old.lists)) [
        | inl low ↦ free.undriven i cell (sym (added.kept i low) ∙ here) drives
        | inr past ↦ (let k : ℕ = i - cell_count old.lists in
            let e : cell_count old.lists + k ≡ i = omega arith in
            let at : cell_at new.lists i ≡ slice_get part k = rw e at (added.added k) in absurd (off k cell (sym at ∙ here) drives))
      ];
  outside = rw added.ports free.outside;
}

-- each cell of a part drives the net of its own place
output_at : (first : ℕ) (given : List Feed) (number net : ℕ) (gates : List Gate) (k : ℕ) (cell : CellView) → slice_get (cells_from first given number net gates) k ≡ Some cell
    → cell.output ≡ Some (record { 0 = net + k })
output_at first given number net [] k cell at = absurd (cc)
output_at first given number net (gate ∷ gates) zero cell at =
    let a : net + 0 ≡ net = omega arith in
    let same : gate_cell first given number net gate ≡ cell = cc in
    rw a (sym (ap (λ (c : CellView). c.output) same))
output_at first given number net (gate ∷ gates) (suc k) cell at =
    let b : net + suc k ≡ suc net + k = omega arith in rw b (output_at first given (suc number) (suc net) gates k cell at)

other_net : (out net : ℕ) → net < out → (output : Option NetId) → output ≡ Some (record { 0 = out }) → output ≢ Some (record { 0 = net })
other_net out net less output is e =
    let number : Option NetId → ℕ = λ o. elim o [ None ↦ 0 | Some n ↦ n.0 ] in
    let same : out ≡ net = ap number (sym is ∙ e) in omega arith

pub part_leaves_free : PartLeavesFree
part_leaves_free = λ old new count gates given first number added net less free.
    free_stays old new count (part_cells gates given first number) added net free
    (λ k cell at. other_net (first + k) net (omega arith) cell.output (output_at first given number first gates k cell at))

-- a cell of a dense netlist has a number below the count
kept_at : (old new : ArenaView) (count : ℕ) (part : List CellView) → Appended old new count part → (number : ℕ) (cell : CellView) → cell_at old.lists number ≡ Some cell
    → cell_at new.lists number ≡ Some cell
kept_at old new count part added number cell at =
    elim (cases_lt number (cell_count old.lists)) [
      | inl below ↦ added.kept number below ∙ at
      | inr past ↦ (let k : ℕ = number - cell_count old.lists in
          let e : cell_count old.lists + k ≡ number = omega arith in
          let none : cell_at old.lists number ≡ None = rw e at (dense_past old.lists k added.dense) in absurd (cc))
    ]

pub grows_appended : AppendedGrows
grows_appended = λ old new count part added. record {
  nets = let e = appended_count old new count part added in omega arith;
  cells = kept_at old new count part added;
}

kept : (old new : NetlistView) (part : List CellView) → Grows old new → HasCells old part → HasCells new part
kept old new [] grows has = tt
kept old new (cell ∷ cells) grows has = (record { number = has.0.number; name = has.0.name; live = grows.cells has.0.number _ has.0.live }, kept old new cells grows has.1)

more_below : (nets more : ℕ) (numbers : List ℕ) → nets ≤ more → All (λ net. net < nets) numbers → All (λ net. net < more) numbers
more_below nets more numbers h below = λ k d inside. let at = below k d inside in omega (arith, at)

pub growth_keeps_all : GrowthKeeps
growth_keeps_all = λ old new numbers part grows contains. record {
  nets = more_below (length old.nets) (length new.nets) numbers grows.nets contains.nets;
  cells = kept old new part grows contains.cells;
}

-- the net of a flip-flop has what it holds
flop_holds : (N : NetlistView) (given : (ℕ → Sig) → ℕ → Sig) (state value : ℕ → Sig) (kind : FlopKind) (feeds : List Feed) (net : ℕ) (on : FlopOn N kind feeds net) → Meets N given state value
    → value net ≡ state on.has.number
flop_holds N given state value kind feeds net on meets =
    meets.cells on.has.number (record on.cell { name = on.has.name }) net (record { live = on.has.live; output = on.output }) on.inside
    ∙ cell_value-flop N.library on.cell.kind kind (feed_values value on.cell.feeds) (state on.has.number) (ap (flop_of N.library) on.kind_is)

pub flop_starts_by : FlopStarts
flop_starts_by = λ N kind feeds net on given m start.
    let here = flop_holds N _ m.state m.value kind feeds net on start.settled in
    let held = start.flops.each on.has.number (record on.cell { name = on.has.name }) kind on.has.live (ap (flop_of N.library) on.kind_is) in
    let operands = ap (λ (fs : List Feed). flop_start kind (feed_values m.value fs) (given on.has.number)) on.feeds_are in
    here ∙ held ∙ operands

pub flop_steps_by : FlopSteps
flop_steps_by = λ N kind feeds net on event m m' settled step.
    let before = flop_holds N _ m.state m.value kind feeds net on settled in
    let after = flop_holds N _ m'.state m'.value kind feeds net on step.settled in
    let held = step.flops.each on.has.number (record on.cell { name = on.has.name }) kind on.has.live (ap (flop_of N.library) on.kind_is) in
    let operands = ap (λ (fs : List Feed). flop_next kind (feed_values m.value fs) (feed_values m'.value fs) (m.state on.has.number)) on.feeds_are in
    rw before (after ∙ held ∙ operands)
