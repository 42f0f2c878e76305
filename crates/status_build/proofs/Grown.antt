-- Cones of clocks, clears and presets in a netlist that grew.
use Rattle.std.proofs.Common.{◌≡◌, ◌≢◌, ℕ, ◌⊎◌, inl, inr, true, false, List, Option, Some, None, refl, ap, sym, ◌∙◌, subst}
use Rattle.std.specs.Prelude.{is_some}
use Rattle.cell_library.specs.declared.FlopKind.{FlopKind}
use Rattle.cell_library.specs.declared.Kind.{Kind}
use Rattle.cell_library.specs.declared.listed.ListedCell.{ListedCell}
use Rattle.cell_library.specs.Gates.{flop_of, is_flop}
use Rattle.netlist_model.specs.declared.Dir.TheVariants.{Input}
use Rattle.netlist_model.specs.Lists.{CellView, NetlistView, cell_at, direction, Drives}
use Rattle.netlist_model.specs.Cones.{GateReads, InCone, itself, behind, FlopReads, IsControlNet, IsControlPort}
use Rattle.netlist_model.specs.Formed.{IsDriven, IsCombinational, IsWellFormed}
use Rattle.netlist_model.proofs.Search.{cell_at_once}
use Rattle.wrapped_chip.specs.Realises.{tap_place}
use Rattle.wrapped_chip.specs.Legal.{IsTapControl, HasControls}
use Rattle.status_build.specs.ReconnectedLaws.{ReadsFlop}
use Rattle.status_build.specs.ControlPortsLaws.{IsRewired, Grows, GrownHasControls}
use Rattle.status_build.proofs.Same.{side_same, tap_before, same_controls}

there_or_not : (o : Option CellView) → (found : Option CellView) → o ≡ found → ((cell : CellView) × (o ≡ Some cell)) ⊎ (o ≡ None)
there_or_not o None e = inr e
there_or_not o (Some cell) e = inl (cell, e)

-- a flip-flop is no gate
flop_is : (found : Option FlopKind) (kind : FlopKind) → found ≡ Some kind → is_some found ≡ true
flop_is found kind e = ap (λ (k : Option FlopKind). is_some k) e

-- the net that a flip-flop drives is in no cone
no_flop : (N : NetlistView) → IsWellFormed N → (i : ℕ) (flop : CellView) (net : ℕ) → is_flop N.library flop.kind ≡ true → Drives N i flop net → IsControlNet N net → ⊥
no_flop N formed i flop net is drives control = elim (formed.cones net control) [
  | inl input ↦ formed.inputs_free i flop net drives input
  | inr gate ↦ (
      let d : IsDriven N net = gate.0 in
      let one : i ≡ d.number = formed.one_driver i d.number flop d.cell net drives d.drives in
      let same : flop ≡ d.cell = cell_at_once N i d.number flop d.cell one drives.live d.drives.live in
      let bad : true ≡ false = sym is ∙ ap (λ (c : CellView). is_flop N.library c.kind) same ∙ gate.1 in cc)
]

-- so a gate that reads such a net stands in none
stands_apart : (N : NetlistView) → IsWellFormed N → (number : ℕ) (cell : CellView) → cell_at N number ≡ Some cell → is_flop N.library cell.kind ≡ false → ReadsFlop N cell → (root : ℕ)
    → (FlopReads N 1 root ⊎ FlopReads N 2 root) → (net : ℕ) → InCone N root net → cell.output ≢ Some (record { 0 = net })
stands_apart N formed number cell live gate flop root operand net cone out =
    let reads : GateReads N net flop.source = record {
      number = number;
      cell = cell;
      place = flop.place;
      gate = gate;
      drives = record { live = live; output = out };
      reads = record { live = live; operand = flop.reads };
    } in
    no_flop N formed flop.number flop.flop flop.source flop.is flop.drives (record { root = root; operand = operand; cone = behind cone reads })

-- What stands under a number in the new netlist.

-- the old netlist's driver of a net drives it in the new
still_drives : (old new N : NetlistView) → Grows old new N → (i : ℕ) (cell : CellView) (net : ℕ) → Drives old i cell net → (other : CellView) × Drives new i other net
still_drives old new N grows i cell net d = elim (grows.kept i cell d.live) [
  | inl live ↦ (cell, record { live = live; output = d.output })
  | inr r ↦ (r.other, record { live = r.live; output = r.output ∙ d.output })
]

-- a flip-flop stays as it is
kept_flop : (old new N : NetlistView) → Grows old new N → (i : ℕ) (cell : CellView) (kind : FlopKind) → cell_at old i ≡ Some cell → flop_of old.library cell.kind ≡ Some kind → cell_at new i ≡ Some cell
kept_flop old new N grows i cell kind live flop = elim (grows.kept i cell live) [
  | inl there ↦ there
  | inr r ↦ absurd (let bad : true ≡ false = sym (flop_is (flop_of old.library cell.kind) kind flop) ∙ r.gate in cc)
]

-- What is in a cone of the old netlist is in one of the new.

flop_after : (old new N : NetlistView) → Grows old new N → (place root : ℕ) → FlopReads old place root → FlopReads new place root
flop_after old new N grows place root f = record {
  number = f.number;
  cell = f.cell;
  kind = f.kind;
  flop = ap (λ (l : List ListedCell). flop_of l f.cell.kind) grows.library ∙ f.flop;
  reads = record { live = kept_flop old new N grows f.number f.cell f.kind f.reads.live f.flop; operand = f.reads.operand };
}

operand_after : (old new N : NetlistView) → Grows old new N → (root : ℕ) → (FlopReads old 1 root ⊎ FlopReads old 2 root) → (FlopReads new 1 root ⊎ FlopReads new 2 root)
operand_after old new N grows root (inl f) = inl (flop_after old new N grows 1 root f)
operand_after old new N grows root (inr f) = inr (flop_after old new N grows 2 root f)

gate_after : (old new N : NetlistView) → IsWellFormed old → Grows old new N → (root : ℕ) → (FlopReads old 1 root ⊎ FlopReads old 2 root) → (net other : ℕ) → InCone old root net → GateReads old net other
    → GateReads new net other
gate_after old new N was grows root operand net other cone g = elim (grows.kept g.number g.cell g.drives.live) [
  | inl live ↦ record {
    number = g.number;
    cell = g.cell;
    place = g.place;
    gate = ap (λ (l : List ListedCell). is_flop l g.cell.kind) grows.library ∙ g.gate;
    drives = record { live = live; output = g.drives.output };
    reads = record { live = live; operand = g.reads.operand };
  }
  | inr r ↦ absurd (stands_apart old was g.number g.cell g.drives.live r.gate r.flop root operand net cone g.drives.output)
]

cone_after : (old new N : NetlistView) → IsWellFormed old → Grows old new N → (root : ℕ) → (FlopReads old 1 root ⊎ FlopReads old 2 root) → (net : ℕ) → InCone old root net → InCone new root net
cone_after old new N was grows root operand _ itself = itself
cone_after old new N was grows root operand _ (behind {net} {other} cone g) =
    behind (cone_after old new N was grows root operand net cone) (gate_after old new N was grows root operand net other cone g)

control_after : (old new N : NetlistView) → IsWellFormed old → Grows old new N → (net : ℕ) → IsControlNet old net → IsControlNet new net
control_after old new N was grows net c =
    record { root = c.root; operand = operand_after old new N grows c.root c.operand; cone = cone_after old new N was grows c.root c.operand net c.cone }

-- And the other way round.

-- a gate of the new netlist on a net of such a cone stood there
stood : (old new N : NetlistView) → IsWellFormed old → IsWellFormed new → Grows old new N → (root : ℕ) → (FlopReads old 1 root ⊎ FlopReads old 2 root) → (net : ℕ) → InCone old root net
    → (i : ℕ) (cell : CellView) → Drives new i cell net → cell_at old i ≡ Some cell
stood old new N was formed grows root operand net cone i cell d = by (there_or_not (cell_at old i) (cell_at old i) refl)
  where
    by_old : (before : CellView) → cell_at old i ≡ Some before → (cell_at new i ≡ Some before) ⊎ IsRewired old new i before → cell_at old i ≡ Some cell
    by_old before live (inl there) = live ∙ ap (λ (c : CellView). Some c) (cell_at_once new i i before cell refl there d.live)
    by_old before live (inr r) =
        let same : r.other ≡ cell = cell_at_once new i i r.other cell refl r.live d.live in
        absurd (stands_apart old was i before live r.gate r.flop root operand net cone (sym r.output ∙ ap (λ (c : CellView). c.output) same ∙ d.output))

    by_driver : cell_at old i ≡ None → IsCombinational old net → cell_at old i ≡ Some cell
    by_driver none (inl input) = absurd (formed.inputs_free i cell net d (side_same old new grows.ports net ∙ input))
    by_driver none (inr gate) =
        let still = still_drives old new N grows gate.0.number gate.0.cell net gate.0.drives in
        let one : i ≡ gate.0.number = formed.one_driver i gate.0.number cell still.0 net d still.1 in
        absurd (let bad : ◌≡◌ {A = Option CellView} None (Some gate.0.cell) = sym none ∙ ap (cell_at old) one ∙ gate.0.drives.live in cc)

    by : ((before : CellView) × (cell_at old i ≡ Some before)) ⊎ (cell_at old i ≡ None) → cell_at old i ≡ Some cell
    by (inl there) = by_old there.0 there.1 (grows.kept i there.0 there.1)
    by (inr none) = by_driver none (was.cones net (record { root = root; operand = operand; cone = cone }))

cone_before : (old new N : NetlistView) → IsWellFormed old → IsWellFormed new → Grows old new N → (root : ℕ) → (FlopReads old 1 root ⊎ FlopReads old 2 root) → (net : ℕ) → InCone new root net
    → InCone old root net
cone_before old new N was formed grows root operand _ itself = itself
cone_before old new N was formed grows root operand _ (behind {net} {other} cone g) =
    let before : InCone old root net = cone_before old new N was formed grows root operand net cone in
    let live : cell_at old g.number ≡ Some g.cell = stood old new N was formed grows root operand net before g.number g.cell g.drives in
    behind before (record {
      number = g.number;
      cell = g.cell;
      place = g.place;
      gate = ap (λ (l : List ListedCell). is_flop l g.cell.kind) (sym grows.library) ∙ g.gate;
      drives = record { live = live; output = g.drives.output };
      reads = record { live = live; operand = g.reads.operand };
    })

-- the cone of an input bit holds that bit alone
alone : (N : NetlistView) (root : ℕ) → IsWellFormed N → direction N.ports root ≡ Some Input → (net : ℕ) → InCone N root net → root ≡ net
alone N root formed input _ itself = refl
alone N root formed input _ (behind {net} {other} cone g) =
    let same : root ≡ net = alone N root formed input net cone in
    absurd (formed.inputs_free g.number g.cell net g.drives (ap (direction N.ports) (sym same) ∙ input))

-- a flip-flop was there, or TCK or TRST controls it
flop_before : (old new N : NetlistView) → Grows old new N → (place root : ℕ) → (place ≡ 1) ⊎ (place ≡ 2) → FlopReads new place root → FlopReads old place root ⊎ IsTapControl new N root
flop_before old new N grows place root is f = by (there_or_not (cell_at old f.number) (cell_at old f.number) refl)
  where
    flop : flop_of old.library f.cell.kind ≡ Some f.kind
    flop = ap (λ (l : List ListedCell). flop_of l f.cell.kind) (sym grows.library) ∙ f.flop

    found : cell_at old f.number ≡ Some f.cell → FlopReads old place root
    found live = record { number = f.number; cell = f.cell; kind = f.kind; flop = flop; reads = record { live = live; operand = f.reads.operand } }

    by_old : (before : CellView) → cell_at old f.number ≡ Some before → (cell_at new f.number ≡ Some before) ⊎ IsRewired old new f.number before → FlopReads old place root
    by_old before live (inl there) = found (live ∙ ap (λ (c : CellView). Some c) (cell_at_once new f.number f.number before f.cell refl there f.reads.live))
    by_old before live (inr r) =
        let same : r.other ≡ f.cell = cell_at_once new f.number f.number r.other f.cell refl r.live f.reads.live in
        let kind : before.kind ≡ f.cell.kind = sym r.kind ∙ ap (λ (c : CellView). c.kind) same in
        absurd (let bad : true ≡ false = sym (flop_is (flop_of old.library f.cell.kind) f.kind flop) ∙ ap (λ (k : Kind). is_flop old.library k) (sym kind) ∙ r.gate in cc)

    by : ((before : CellView) × (cell_at old f.number ≡ Some before)) ⊎ (cell_at old f.number ≡ None) → FlopReads old place root ⊎ IsTapControl new N root
    by (inl there) = inl (by_old there.0 there.1 (grows.kept f.number there.0 there.1))
    by (inr none) = inr ((grows.added f.number f.cell none f.reads.live).controls f.kind place root f.flop is f.reads.operand)

control_before : (old new N : NetlistView) → IsWellFormed old → IsWellFormed new → Grows old new N → HasControls old N → (net : ℕ) → IsControlNet new net → IsControlNet old net
control_before old new N was formed grows has net c = by c.operand
  where
    from_old : (FlopReads old 1 c.root ⊎ FlopReads old 2 c.root) → IsControlNet old net
    from_old operand = record { root = c.root; operand = operand; cone = cone_before old new N was formed grows c.root operand net c.cone }

    from_tap : IsTapControl new N c.root → IsControlNet old net
    from_tap t =
        let there : IsControlPort old c.root = has.added t.input c.root t.which (tap_before old new N grows.ports (tap_place t.input) c.root t.tap) in
        let input : direction new.ports c.root ≡ Some Input = side_same old new grows.ports c.root ∙ there.0 in
        subst (IsControlNet old) (alone new c.root formed input net c.cone) there.1

    by : (FlopReads new 1 c.root ⊎ FlopReads new 2 c.root) → IsControlNet old net
    by (inl f) = elim (flop_before old new N grows 1 c.root (inl refl) f) [ inl g ↦ from_old (inl g) | inr t ↦ from_tap t ]
    by (inr f) = elim (flop_before old new N grows 2 c.root (inr refl) f) [ inl g ↦ from_old (inr g) | inr t ↦ from_tap t ]

pub grown_controls : GrownHasControls
grown_controls old new N was formed grows has =
    same_controls old new N grows.ports (λ net c. control_before old new N was formed grows has net c) (λ net c. control_after old new N was grows net c) has
