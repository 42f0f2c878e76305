-- Numbers of the nets after the change.
use Rattle.std.proofs.Common.{◌≡◌, ◌≢◌, ℕ, zero, suc, ◌+◌, ◌<◌, ◌≤◌, ◌⊎◌, inl, inr, Bool, true, false, List, [], ◌∷◌, Option, Some, None, refl, ap, sym, ◌∙◌, subst, arith}
use Rattle.std.specs.Prelude.{slice_get, if◌then◌else◌}
use Rattle.cell_library.specs.declared.listed.ListedCell.{ListedCell}
use Rattle.cell_library.specs.Gates.{is_flop}
use Rattle.netlist_model.specs.declared.NetId.{NetId}
use Rattle.netlist_model.specs.declared.Feed.{Feed}
use Rattle.netlist_model.specs.declared.Feed.TheVariants.{Net, Const}
use Rattle.netlist_model.specs.Lists.{CellView, NetlistView, cell_at, Drives}
use Rattle.netlist_model.specs.Formed.{FeedsBelow, IsNumbered}
use Rattle.status_build.specs.ReconnectedLaws.{Reconnects, low_number, lowered, HasLowNets, ReconnectedToLow}
use Rattle.status_build.proofs.ReconnectedLaws.{some_same, old_cell, reads_old, drives_as, is_formed}

-- Lists of operands.

all_below : (rank : ℕ → ℕ) (feeds : List Feed) (bound : ℕ) → ((place net : ℕ) → slice_get feeds place ≡ Some (Net (record { 0 = net })) → rank net < bound)
    → FeedsBelow rank feeds bound
all_below rank [] bound each = tt
all_below rank (Net net ∷ feeds) bound each = (each 0 net.0 refl, all_below rank feeds bound (λ k. each (suc k)))
all_below rank (Const b ∷ feeds) bound each = all_below rank feeds bound (λ k. each (suc k))

net_same : (a b : NetId) → Some (Net a) ≡ Some (Net b) → a ≡ b
net_same a b e = cc

one_below : (rank : ℕ → ℕ) (feeds : List Feed) (bound : ℕ) → FeedsBelow rank feeds bound → (place net : ℕ) → slice_get feeds place ≡ Some (Net (record { 0 = net })) → rank net < bound
one_below rank [] bound below place net e = cc
one_below rank (Net n ∷ feeds) bound below zero net e = subst (λ (x : NetId). rank x.0 < bound) (net_same n (record { 0 = net }) e) below.0
one_below rank (Net n ∷ feeds) bound below (suc place) net e = one_below rank feeds bound below.1 place net e
one_below rank (Const b ∷ feeds) bound below zero net e = cc
one_below rank (Const b ∷ feeds) bound below (suc place) net e = one_below rank feeds bound below place net e

-- The strata.

at_most : (b : Bool) (x : ℕ) → (if b then 0 else x) ≤ x
at_most true x = omega arith
at_most false x = omega arith

lowered_most : (base : ℕ → Bool) (low : ℕ → Option ℕ) (count : ℕ) (rank : ℕ → ℕ) (net : ℕ) (o : Option ℕ) → low net ≡ o
    → lowered base low count rank net ≤ low_number o (count + rank net)
lowered_most base low count rank net o e =
    subst (λ (p : Option ℕ). lowered base low count rank net ≤ low_number p (count + rank net)) e (at_most (base net) (low_number (low net) (count + rank net)))

lowered_base : (base : ℕ → Bool) (low : ℕ → Option ℕ) (count : ℕ) (rank : ℕ → ℕ) (net : ℕ) → base net ≡ true → 0 ≡ lowered base low count rank net
lowered_base base low count rank net e = rw e refl

lowered_is : (base : ℕ → Bool) (low : ℕ → Option ℕ) (count : ℕ) (rank : ℕ → ℕ) (net : ℕ) (o : Option ℕ) → base net ≡ false → low net ≡ o
    → low_number o (count + rank net) ≡ lowered base low count rank net
lowered_is base low count rank net o free e = rw free (ap (λ (p : Option ℕ). low_number p (count + rank net)) (sym e))

-- beside a net of no stratum below
below_other : (base : ℕ → Bool) (low : ℕ → Option ℕ) (count : ℕ) (rank : ℕ → ℕ) (net bound : ℕ) (o : Option ℕ) → low net ≡ o
    → ((k : ℕ) → o ≡ Some k → k < count) → rank net < bound → lowered base low count rank net < suc (count + bound)
below_other base low count rank net bound (Some k) e bounded less =
    let most = lowered_most base low count rank net (Some k) e in
    let small = bounded k refl in
    omega (arith, most, small)
below_other base low count rank net bound None e bounded less =
    let most = lowered_most base low count rank net None e in
    omega (arith, most, less)

-- and a low net
below_low : (base : ℕ → Bool) (low : ℕ → Option ℕ) (count : ℕ) (rank : ℕ → ℕ) (net k : ℕ) → (base net ≡ true) ⊎ ((j : ℕ) × (low net ≡ Some j) × (j < k))
    → lowered base low count rank net < suc k
below_low base low count rank net k (inl e) = let zero_is = lowered_base base low count rank net e in omega (arith, zero_is)
below_low base low count rank net k (inr l) =
    let most = lowered_most base low count rank net (Some l.0) l.1 in
    let less = l.2 in
    omega (arith, most, less)

-- A gate of the new netlist.

numbered : (old new : NetlistView) (number to place : ℕ) (base : ℕ → Bool) (low : ℕ → Option ℕ) (count : ℕ) (rank : ℕ → ℕ) → IsNumbered old rank
    → (r : Reconnects old new number to) → HasLowNets old base low count → low to ≡ Some place
    → ((net : ℕ) → r.cell.output ≡ Some (record { 0 = net }) → low net ≡ None) → IsNumbered new (lowered base low count rank)
numbered old new number to place base low count rank ranks r lows is_low high = record { gates = each }
  where
    each : (i : ℕ) (cell : CellView) (net : ℕ) → Drives new i cell net → is_flop new.library cell.kind ≡ false → FeedsBelow (lowered base low count rank) cell.feeds (lowered base low count rank net)
    each i cell net d gate =
        let c = old_cell r i cell d.live in
        let old_gate = subst (λ (l : List ListedCell). is_flop l cell.kind ≡ false) r.library gate in
        let kind : is_flop old.library c.other.kind ≡ false = ap (is_flop old.library) c.kind ∙ old_gate in
        let mine = drives_as c net d.output in
        let free : base net ≡ false = lows.base_free i c.other net mine kind in
        by_low c.other c.live mine kind free (low net) refl
      where
        by_low : (other : CellView) → cell_at old i ≡ Some other → Drives old i other net → is_flop old.library other.kind ≡ false → base net ≡ false → (o : Option ℕ) → low net ≡ o
            → FeedsBelow (lowered base low count rank) cell.feeds (lowered base low count rank net)
        by_low other live mine kind free (Some k) e =
            let apart : i ≢ number = λ same.
            let changed : (record r.cell { feeds = r.feeds }) ≡ cell = some_same (cell_at new i) (record r.cell { feeds = r.feeds }) cell (ap (cell_at new) same ∙ r.changed) d.live in
            let out : r.cell.output ≡ Some (record { 0 = net }) = ap (λ (x : CellView). x.output) changed ∙ d.output in
            let none : low net ≡ None = high net out in
            let bad : Some k ≡ None = sym e ∙ none in cc in
            let here : cell_at old i ≡ Some cell = sym (r.others i apart) ∙ d.live in
            let is = lowered_is base low count rank net (Some k) free e in
            subst (FeedsBelow (lowered base low count rank) cell.feeds) is
            (all_below (lowered base low count rank) cell.feeds (suc k)
            (λ at read operand. below_low base low count rank read k (lows.gates i cell net k (record { live = here; output = d.output }) (subst (λ (l : List ListedCell). is_flop l cell.kind ≡ false) r.library gate) e at read operand)))
        by_low other live mine kind free None e =
            let is = lowered_is base low count rank net None free e in
            subst (FeedsBelow (lowered base low count rank) cell.feeds) is
            (all_below (lowered base low count rank) cell.feeds (suc (count + rank net)) reads)
          where
            reads : (at read : ℕ) → slice_get cell.feeds at ≡ Some (Net (record { 0 = read })) → lowered base low count rank read < suc (count + rank net)
            reads at read operand = elim (reads_old r i cell at read (record { live = d.live; operand = operand })) [
              | inl there ↦ (
                  let same : there.0 ≡ other = some_same (cell_at old i) there.0 other there.1.live live in
                  let before : rank read < rank net =
                  one_below rank other.feeds (rank net) (ranks.gates i other net mine kind) at read (ap (λ (x : CellView). slice_get x.feeds at) (sym same) ∙ there.1.operand) in
                  below_other base low count rank read (rank net) (low read) refl (λ k. lows.bounded read k) before)
              | inr is_to ↦ (
                  let most = lowered_most base low count rank read (Some place) (ap low is_to ∙ is_low) in
                  let small = lows.bounded to place is_low in
                  omega (arith, most, small))
            ]

pub to_low : ReconnectedToLow
to_low old new number to place base low count formed r flop readable lows is_low high =
    is_formed old new number to (lowered base low count formed.ordered.0) formed r flop readable
    (numbered old new number to place base low count formed.ordered.0 formed.ordered.1 r lows is_low high)
