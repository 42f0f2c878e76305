-- Netlists with the same ports, nets and live cells: what is seen in them is the same.
use Rattle.std.proofs.Common.{◌≡◌, ℕ, suc, ◌+◌, ◌⊎◌, inl, inr, List, [], ◌∷◌, filter_map, count_by, is_some, refl, sym, ◌∙◌, ap, Option, Some, None, slice_get, if◌then◌else◌, arith}
use Rattle.std.proofs.lemmas.List.Sums.{sum_by-cons}
use Rattle.cell_library.specs.declared.listed.ListedCell.{ListedCell}
use Rattle.cell_library.specs.Gates.{is_flop, flop_of}
use Rattle.netlist_model.specs.Lists.{PortView, CellView, NetlistView, live_cell, cell_at, direction, Drives, Reads}
use Rattle.netlist_model.specs.Settled.{driver_of}
use Rattle.netlist_model.specs.Cones.{GateReads, InCone, itself, behind, FlopReads, IsClockPort, IsControlPort}

abbrev pub SameCells : List (Option CellView) → List (Option CellView) → Type 0
SameCells one other = (i : ℕ) → live_cell (slice_get one i) ≡ live_cell (slice_get other i)

no_cell : (a : CellView) → None ≡ Some a → ⊥
no_cell a e = cc

some_cell : (a : CellView) → Some a ≡ None → ⊥
some_cell a e = cc

same_cell : (a b : CellView) → Some a ≡ Some b → a ≡ b
same_cell a b e = cc

pub filtered : {X : Type 0} (g : Option CellView → Option X) → g None ≡ None → (one other : List (Option CellView)) → SameCells one other → filter_map g one ≡ filter_map g other
filtered g none [] [] same = refl
filtered g none [] (None ∷ other) same = filtered g none [] other (λ i. same (suc i)) ∙ rw none refl
filtered g none [] (Some b ∷ other) same = absurd (no_cell b (same 0))
filtered g none (None ∷ one) [] same = rw none (filtered g none one [] (λ i. same (suc i)))
filtered g none (Some a ∷ one) [] same = absurd (some_cell a (same 0))
filtered g none (None ∷ one) (None ∷ other) same = rw none (filtered g none one other (λ i. same (suc i)))
filtered g none (None ∷ one) (Some b ∷ other) same = absurd (no_cell b (same 0))
filtered g none (Some a ∷ one) (None ∷ other) same = absurd (some_cell a (same 0))
filtered {X} g none (Some a ∷ one) (Some b ∷ other) same =
    let rest = filtered g none one other (λ i. same (suc i)) in
    let is = same_cell a b (same 0) in rw (is, rest) refl

pub drivers_same : (net : ℕ) (one other : List (Option CellView)) → SameCells one other → driver_of one net ≡ driver_of other net
drivers_same net [] [] same = refl
drivers_same net [] (None ∷ other) same = drivers_same net [] other (λ i. same (suc i))
drivers_same net [] (Some b ∷ other) same = absurd (no_cell b (same 0))
drivers_same net (None ∷ one) [] same = drivers_same net one [] (λ i. same (suc i))
drivers_same net (Some a ∷ one) [] same = absurd (some_cell a (same 0))
drivers_same net (None ∷ one) (None ∷ other) same = drivers_same net one other (λ i. same (suc i))
drivers_same net (None ∷ one) (Some b ∷ other) same = absurd (no_cell b (same 0))
drivers_same net (Some a ∷ one) (None ∷ other) same = absurd (some_cell a (same 0))
drivers_same net (Some a ∷ one) (Some b ∷ other) same =
    let rest = drivers_same net one other (λ i. same (suc i)) in
    let is = same_cell a b (same 0) in rw (is, rest) refl

count_cons : (o : Option CellView) (xs : List (Option CellView)) → count_by is_some (o ∷ xs) ≡ (if is_some o then 1 else 0) + count_by is_some xs
count_cons o xs = sum_by-cons (λ (x : Option CellView). if is_some x then 1 else 0) o xs

pub counted : (one other : List (Option CellView)) → SameCells one other → count_by is_some one ≡ count_by is_some other
counted [] [] same = refl
counted [] (None ∷ other) same =
    let rest = counted [] other (λ i. same (suc i)) in
    let more = count_cons None other in omega (arith, rest, more)
counted [] (Some b ∷ other) same = absurd (no_cell b (same 0))
counted (None ∷ one) [] same =
    let rest = counted one [] (λ i. same (suc i)) in
    let more = count_cons None one in omega (arith, rest, more)
counted (Some a ∷ one) [] same = absurd (some_cell a (same 0))
counted (None ∷ one) (None ∷ other) same =
    let rest = counted one other (λ i. same (suc i)) in
    let more = count_cons None one in
    let less = count_cons None other in omega (arith, rest, more, less)
counted (None ∷ one) (Some b ∷ other) same = absurd (no_cell b (same 0))
counted (Some a ∷ one) (None ∷ other) same = absurd (some_cell a (same 0))
counted (Some a ∷ one) (Some b ∷ other) same =
    let rest = counted one other (λ i. same (suc i)) in
    let more = count_cons (Some a) one in
    let less = count_cons (Some b) other in omega (arith, rest, more, less)

-- Cones.

pub record SameLists (one other : NetlistView) : Type 0 where
  pub library : one.library ≡ other.library
  pub ports : one.ports ≡ other.ports
  pub nets : one.nets ≡ other.nets
  pub cells : (i : ℕ) → cell_at one i ≡ cell_at other i

pub turned : (one other : NetlistView) → SameLists one other → SameLists other one
turned one other same = record { library = sym same.library; ports = sym same.ports; nets = sym same.nets; cells = λ i. sym (same.cells i) }

drives : (one other : NetlistView) → SameLists one other → (i : ℕ) (cell : CellView) (net : ℕ) → Drives one i cell net → Drives other i cell net
drives one other same i cell net d = record { live = sym (same.cells i) ∙ d.live; output = d.output }

reads : (one other : NetlistView) → SameLists one other → (i : ℕ) (cell : CellView) (place net : ℕ) → Reads one i cell place net → Reads other i cell place net
reads one other same i cell place net r = record { live = sym (same.cells i) ∙ r.live; operand = r.operand }

gate : (one other : NetlistView) → SameLists one other → (net other_net : ℕ) → GateReads one net other_net → GateReads other net other_net
gate one other same net other_net g = record {
  number = g.number;
  cell = g.cell;
  place = g.place;
  gate = ap (λ (l : List ListedCell). is_flop l g.cell.kind) (sym same.library) ∙ g.gate;
  drives = drives one other same g.number g.cell net g.drives;
  reads = reads one other same g.number g.cell g.place other_net g.reads;
}

cone : (one other : NetlistView) → SameLists one other → (root net : ℕ) → InCone one root net → InCone other root net
cone one other same root net itself = itself
cone one other same root end (behind {net} back g) = behind (cone one other same root net back) (gate one other same net end g)

flop : (one other : NetlistView) → SameLists one other → (place net : ℕ) → FlopReads one place net → FlopReads other place net
flop one other same place net r = record { number = r.number; cell = r.cell; kind = r.kind; flop = ap (λ (l : List ListedCell). flop_of l r.cell.kind) (sym same.library) ∙ r.flop; reads = reads one other same r.number r.cell place net r.reads }

pub clock_port : (one other : NetlistView) → SameLists one other → (net : ℕ) → IsClockPort one net → IsClockPort other net
clock_port one other same net is = (
  ap (λ (ports : List PortView). direction ports net) (sym same.ports) ∙ is.0,
  record { root = is.1.root; operand = flop one other same 1 is.1.root is.1.operand; cone = cone one other same is.1.root net is.1.cone },
)

pub control_port : (one other : NetlistView) → SameLists one other → (net : ℕ) → IsControlPort one net → IsControlPort other net
control_port one other same net is = (
  ap (λ (ports : List PortView). direction ports net) (sym same.ports) ∙ is.0,
  record { root = is.1.root; operand = either is.1.operand; cone = cone one other same is.1.root net is.1.cone },
)
  where
    either : FlopReads one 1 is.1.root ⊎ FlopReads one 2 is.1.root → FlopReads other 1 is.1.root ⊎ FlopReads other 2 is.1.root
    either e = elim e [
      | inl r ↦ inl (flop one other same 1 is.1.root r)
      | inr r ↦ inr (flop one other same 2 is.1.root r)
    ]
