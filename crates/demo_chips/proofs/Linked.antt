-- Each demonstration netlist can be linked: besides, no gates read in a loop, and no clock or clear is derived.
use Rattle.std.proofs.Common.{◌≡◌, ◌⊎◌, inl, inr, ℕ, ◌+◌, ◌-◌, ◌<◌, ◌≤◌, List, ◌++◌, refl, ap, sym, ◌∙◌, subst, Some, arith, lit<}
use Rattle.std.specs.Prelude.{codes, if◌then◌else◌, nat_lt, option_and_then, slice_get}
use Rattle.std.specs.Fmt.{decimal}
use Rattle.std.specs.List.{AllByRecursion, flat_map}
use Rattle.std.proofs.lemmas.Bool.{cases_lt, le-ltb, lt-ltb}
use Rattle.verilog_tree.specs.declared.tree.Bit.{Bit}
use Rattle.netlist_model.specs.declared.Feed.TheVariants.{Net}
use Rattle.cell_library.specs.declared.listed.ListedCell.{ListedCell}
use Rattle.netlist_model.specs.declared.NetId.{NetId}
use Rattle.link_model.specs.Nets.{Declared, NamedNet, declared_names, declared_nets, net_of, nets_in}
use Rattle.link_model.specs.Cells.{NamedCell}
use Rattle.link_model.specs.Faults.{cells_in, driver_fault}
use Rattle.link_model.specs.Lists.{or_else}
use Rattle.link_model.specs.Late.{ControlLink, InCone, IsDerived, IsInoutNet, IsKept, IsLinkable, control_links, item_links}
use Rattle.link_model.specs.Late.InCone.{itself, behind}
use Rattle.netlist_link.proofs.Loops.{IsRising, no_loop}
use Rattle.demo_chips.specs.Netlists.{bit_of, demo_items, demo_module, gate_count, pool_bit, scalar}
use Rattle.demo_chips.proofs.NetlistsPlaces.{all_there, flat_all}
use Rattle.demo_chips.proofs.Items.{flop_with, items_at}
use Rattle.demo_chips.proofs.NetlistsBits.{IsBit, IsRead, Knows, clear_bit, clock_bit, knows}
use Rattle.demo_chips.proofs.Text.{text_clear}
use Rattle.demo_chips.proofs.NetlistsCells.{IsDemoCell, read_at}
use Rattle.demo_chips.proofs.Drivers.{IsLaid, drivers_clear, laid, net_driven}

-- Loops: inputs and flip-flops stand lowest, then the gates one by one, then the outputs.

abbrev rank : ℕ → ℕ → ℕ
rank count net = if nat_lt net 18 then 0 else if nat_lt net 34 then count + 1 else if nat_lt net 66 then 0 else 66 + count - net

rank_input : (count net : ℕ) → net < 18 → rank count net ≡ 0
rank_input count net less = rw (lt-ltb net 18 less) refl

rank_output : (count net : ℕ) → 18 ≤ net → net < 34 → rank count net ≡ count + 1
rank_output count net low high = rw (le-ltb net 18 low, lt-ltb net 34 high) refl

rank_flop : (count net : ℕ) → 34 ≤ net → net < 66 → rank count net ≡ 0
rank_flop count net low high = rw (le-ltb net 18 (omega arith), le-ltb net 34 low, lt-ltb net 66 high) refl

rank_gate : (count net : ℕ) → 66 ≤ net → rank count net ≡ 66 + count - net
rank_gate count net low = rw (le-ltb net 18 (omega arith), le-ltb net 34 (omega arith), le-ltb net 66 low) refl

-- what is read stands no higher than the gates, nor than the number of the item
read_low : (count number net : ℕ) → IsRead count number net → (rank count net ≤ count) × (rank count net ≤ number)
read_low count number net read = by (cases_lt net 18) (cases_lt net 66)
  where
    by : (net < 18) ⊎ (18 ≤ net) → (net < 66) ⊎ (66 ≤ net) → (rank count net ≤ count) × (rank count net ≤ number)
    by (inl low) other = let zeroth = rank_input count net low in (omega arith, omega arith)
    by (inr high) (inl low) = let zeroth = rank_flop count net (read.inner high) low in (omega arith, omega arith)
    by (inr high) (inr higher) = let less = read.before higher in let place = rank_gate count net higher in (omega arith, omega arith)

-- and a gate drives a net that stands higher
rises : (count number net other place : ℕ) (cell : NamedCell) → IsDemoCell count number cell → (number < count) ⊎ (count + 32 ≤ number) → net + number ≡ 65 + count
    → slice_get cell.feeds place ≡ Some (Net (record { 0 = other })) → rank count other < rank count net
rises count number net other place cell is side driven at =
    let low = read_low count number other (read_at count number cell place other is at) in
    let one = low.0 in
    let two = low.1 in
    let last = is.last in
    elim side [
      | inl gate ↦ let own = rank_gate count net (omega arith) in omega arith
      | inr out ↦ let own = rank_output count net (omega arith) (omega arith) in omega arith
    ]

rising : (count : ℕ) (nets : List NamedNet) (cells : List NamedCell) → IsLaid count nets cells → IsRising cells (rank count)
rising count nets cells w net other r =
    let is = w.each r.number r.cell r.gate.there in
    rises count r.number net other r.reads.place r.cell is (is.gate r.gate.gate) (net_driven count r.number net r.cell is r.drives) r.reads.operand

-- Clocks and clears: they are the first two inputs.

abbrev IsFirstInput : ControlLink → Type 0
IsFirstInput link = link.net < 2

flop_controls : (library : List ListedCell) (names : List (List ℕ × Declared)) (name : List ℕ) (datum clock clear output : Bit) → IsBit names clock 0 → IsBit names clear 1
    → AllByRecursion IsFirstInput (item_links library names (flop_with name datum clock clear output))
flop_controls library names name datum clock clear output ck rn = (first 0 clock ck (lit< tt), (first 1 clear rn (lit< tt), tt))
  where
    first : (net : ℕ) (bit : Bit) → IsBit names bit net → net < 2 → (net_of names bit).0 < 2
    first net bit is less = let P : NetId → Type 0 = λ x. x.0 < 2 in subst P (sym is.net_is) less

controls : (library : List ListedCell) (n : ℕ) (names : List (List ℕ × Declared)) → Knows names (gate_count n) → AllByRecursion IsFirstInput (flat_map (item_links library names) (demo_items n))
controls library n names w =
    flat_all IsFirstInput (item_links library names) (demo_items n) (items_at (λ place it. AllByRecursion IsFirstInput (item_links library names it)) n (λ kind k a b plain less first second. tt)
    (λ i a less inside.
    flop_controls library names (codes "f_" ++ decimal i) (pool_bit a) (scalar (codes "clk")) (scalar (codes "rn")) (bit_of (codes "f") i) (clock_bit names (gate_count n) w) (clear_bit names (gate_count n) w)) (λ j a less inside. tt))

-- no cell drives an input, so nothing stands in its cone but itself
undriven : (count number net : ℕ) (nets : List NamedNet) (cells : List NamedCell) (cell : NamedCell) → IsLaid count nets cells → net < 18 → slice_get cells number ≡ Some cell → cell.output ≡ Some (record { 0 = net }) → ⊥
undriven count number net nets cells cell w first there drives =
    let is = w.each number cell there in
    let place = net_driven count number net cell is drives in
    let last = is.last in
    omega arith

alone : (count : ℕ) (nets : List NamedNet) (cells : List NamedCell) (root net : ℕ) → IsLaid count nets cells → root < 18 → InCone cells root net → root ≡ net
alone count nets cells root _ w first itself = refl
alone count nets cells root other w first (behind {net = net} cone reads) =
    let same = alone count nets cells root net w first cone in
    absurd (undriven count reads.number net nets cells reads.cell w (omega arith) reads.gate.there reads.drives)

not_derived : (count root : ℕ) (nets : List NamedNet) (cells : List NamedCell) → IsLaid count nets cells → root < 18 → IsDerived nets cells root → ⊥
not_derived count root nets cells w first d = by (alone count nets cells root d.net w first d.cone) d.sequential
  where
    by : root ≡ d.net → IsKept cells d.net ⊎ IsInoutNet nets d.net → ⊥
    by same (inl kept) = undriven count kept.number d.net nets cells kept.cell w (omega arith) kept.there kept.drives
    by same (inr io) = (w.directions d.net).inout (ap (option_and_then (λ (named : NamedNet). named.dir)) io.there ∙ io.inout)

pub demo_can_be_linked : (library : List ListedCell) (n : ℕ) → n < 10000 → IsLinkable library (demo_module n)
demo_can_be_linked library n low = record {
  early = ap (λ o. or_else o (driver_fault (nets_in (declared_nets (demo_module n))) (cells_in library (demo_module n)))) (text_clear library n low) ∙ drivers_clear library n low;
  loops = λ numbers l. no_loop (cells_in library (demo_module n)) (rank (gate_count n)) numbers (rising (gate_count n) (nets_in (declared_nets (demo_module n))) (cells_in library (demo_module n)) (laid library n low)) l;
  derived = λ place link d.
      let first : link.net < 2 = all_there IsFirstInput (control_links library (demo_module n)) (controls library n (declared_names (demo_module n)) (knows n)) place link d.there in
      not_derived (gate_count n) link.net (nets_in (declared_nets (demo_module n))) (cells_in library (demo_module n)) (laid library n low) (omega arith) d.derived;
}
