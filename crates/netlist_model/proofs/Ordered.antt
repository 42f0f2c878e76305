-- Numbering nets and numbering gates come to the same.
use Rattle.std.proofs.Common.{◌≡◌, ℕ, zero, suc, ◌+◌, ◌<◌, ◌⊎◌, if◌then◌else◌, Bool, true, false, List, [], ◌∷◌, Option, refl, ap, inl, inr, arith}
use Rattle.std.specs.Prelude.{Some, None, slice_get}
use Rattle.cell_library.specs.Gates.{is_flop}
use Rattle.netlist_model.specs.declared.NetId.{NetId}
use Rattle.netlist_model.specs.declared.Feed.{Feed}
use Rattle.netlist_model.specs.declared.Feed.TheVariants.{Net, Const}
use Rattle.netlist_model.specs.Lists.{CellView, NetlistView, cell_at, Drives, Reads}
use Rattle.netlist_model.specs.Formed.{FeedsBelow, IsNumbered}
use Rattle.netlist_model.specs.Settle.{IsDrivenOnce}
use Rattle.netlist_model.specs.Ordered.{IsOrdered, OrderedIsNumbered, NumberedIsOrdered}
use Rattle.netlist_model.proofs.Search.{Found, NoneDrives, search_driver, cell_at_once}
use Rattle.netlist_model.proofs.Once.{feeds_below_at}

-- a net of a gate has a number above 0, by the gate's
abbrev found_rank : (N : NetlistView) → (ℕ → ℕ) → (net : ℕ) → Found N.cells net ⊎ NoneDrives N.cells net → ℕ
found_rank N number net (inl f) = if is_flop N.library f.cell.kind then 0 else number f.number + 1
found_rank N number net (inr none) = 0

abbrev net_rank : NetlistView → (ℕ → ℕ) → ℕ → ℕ
net_rank N number net = found_rank N number net (search_driver N.cells net)

feeds_below : (rank : ℕ → ℕ) (bound : ℕ) (feeds : List Feed) → ((k net : ℕ) → slice_get feeds k ≡ Some (Net (record { 0 = net })) → rank net < bound) → FeedsBelow rank feeds bound
feeds_below rank bound [] below = tt
feeds_below rank bound (Net net ∷ feeds) below = (below 0 net.0 refl, feeds_below rank bound feeds (λ k. below (suc k)))
feeds_below rank bound (Const b ∷ feeds) below = feeds_below rank bound feeds (λ k. below (suc k))

rank_at : (N : NetlistView) (number : ℕ → ℕ) (i : ℕ) (cell : CellView) (net : ℕ) → IsDrivenOnce N → Drives N i cell net → is_flop N.library cell.kind ≡ false
    → (d : Found N.cells net ⊎ NoneDrives N.cells net) → found_rank N number net d ≡ number i + 1
rank_at N number i cell net once drives gate (inr none) = absurd (none i cell drives.live drives.output)
rank_at N number i cell net once drives gate (inl f) =
    let same : f.number ≡ i = once f.number i f.cell cell net (record { live = f.live; output = f.output }) drives in
    let one : f.cell ≡ cell = cell_at_once N f.number i f.cell cell same f.live drives.live in
    rw (one, gate, same) refl

rank_below : (N : NetlistView) (number : ℕ → ℕ) (i place : ℕ) (cell : CellView) (net : ℕ) → IsOrdered N number → Reads N i cell place net → is_flop N.library cell.kind ≡ false
    → (d : Found N.cells net ⊎ NoneDrives N.cells net) → found_rank N number net d < number i + 1
rank_below N number i place cell net ordered reads gate (inr none) = omega arith
rank_below N number i place cell net ordered reads gate (inl f) = go (is_flop N.library f.cell.kind) refl
  where
    go : (b : Bool) → is_flop N.library f.cell.kind ≡ b → found_rank N number net (inl f) < number i + 1
    go true e = rw e (omega arith)
    go false e =
        let less = ordered.gates i f.number cell f.cell place net reads gate (record { live = f.live; output = f.output }) e in
        rw e (omega arith)

pub ordered_is_numbered : OrderedIsNumbered
ordered_is_numbered N number once ordered = (
  net_rank N number,
  record {
    gates = λ i cell net d gate.
        let at : net_rank N number net ≡ number i + 1 = rank_at N number i cell net once d gate (search_driver N.cells net) in
        rw at (feeds_below (net_rank N number) (number i + 1) cell.feeds (λ k other e.
        rank_below N number i k cell other ordered (record { live = d.live; operand = e }) gate (search_driver N.cells other)));
  },
)

-- a number above those of all nets that are read
abbrev above_feeds : (ℕ → ℕ) → List Feed → ℕ
above_feeds rank [] = 1
above_feeds rank (Net net ∷ feeds) = rank net.0 + above_feeds rank feeds
above_feeds rank (Const b ∷ feeds) = above_feeds rank feeds

above_feeds-some : (rank : ℕ → ℕ) (feeds : List Feed) → 0 < above_feeds rank feeds
above_feeds-some rank [] = omega arith
above_feeds-some rank (Net net ∷ feeds) = let h = above_feeds-some rank feeds in omega arith
above_feeds-some rank (Const b ∷ feeds) = above_feeds-some rank feeds

above_feeds-at : (rank : ℕ → ℕ) (feeds : List Feed) (k net : ℕ) → slice_get feeds k ≡ Some (Net (record { 0 = net })) → rank net < above_feeds rank feeds
above_feeds-at rank [] k net at = absurd (cc)
above_feeds-at rank (Net other ∷ feeds) zero net at =
    let same : other ≡ record { 0 = net } = cc in
    let e : other.0 ≡ net = ap (λ (n : NetId). n.0) same in
    let r : rank other.0 ≡ rank net = ap rank e in
    let h = above_feeds-some rank feeds in
    omega arith
above_feeds-at rank (Net other ∷ feeds) (suc k) net at = let h = above_feeds-at rank feeds k net at in omega arith
above_feeds-at rank (Const b ∷ feeds) zero net at = absurd (cc)
above_feeds-at rank (Const b ∷ feeds) (suc k) net at = above_feeds-at rank feeds k net at

-- a gate's number is its net's, or above what it reads where it is not connected
abbrev output_number : (ℕ → ℕ) → List Feed → Option NetId → ℕ
output_number rank feeds None = above_feeds rank feeds
output_number rank feeds (Some net) = rank net.0

abbrev place_number : (ℕ → ℕ) → Option CellView → ℕ
place_number rank None = 0
place_number rank (Some cell) = output_number rank cell.feeds cell.output

number_above : (N : NetlistView) (rank : ℕ → ℕ) (i place : ℕ) (cell : CellView) (net : ℕ) → IsNumbered N rank → Reads N i cell place net → is_flop N.library cell.kind ≡ false
    → (output : Option NetId) → cell.output ≡ output → rank net < output_number rank cell.feeds output
number_above N rank i place cell net numbered reads gate None e = above_feeds-at rank cell.feeds place net reads.operand
number_above N rank i place cell net numbered reads gate (Some out) e =
    feeds_below_at rank cell.feeds (rank out.0) place net (numbered.gates i cell out.0 (record { live = reads.live; output = e }) gate) reads.operand

pub numbered_is_ordered : NumberedIsOrdered
numbered_is_ordered N rank numbered = (
  (λ i. place_number rank (cell_at N i)),
  record {
    gates = λ i j cell other place net reads gate drives other_gate.
        rw (reads.live, drives.live, drives.output) (number_above N rank i place cell net numbered reads gate cell.output refl);
  },
)
