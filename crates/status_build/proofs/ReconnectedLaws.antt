-- A gate that reads a flip-flop reads another net instead.
use Rattle.std.proofs.Common.{◌≡◌, ◌≢◌, ℕ, ◌==◌, ◌⊎◌, inl, inr, Bool, true, false, List, [], length, Option, Some, refl, ap, sym, ◌∙◌, subst, eqb-true, eq-eqb}
use Rattle.std.specs.Prelude.{slice_get, is_some}
use Rattle.cell_library.specs.declared.Kind.{Kind}
use Rattle.cell_library.specs.declared.listed.ListedCell.{ListedCell}
use Rattle.cell_library.specs.declared.FlopKind.{FlopKind}
use Rattle.cell_library.specs.Gates.{is_three_state, flop_of, is_flop, Takes}
use Rattle.netlist_model.specs.Lists.{PortView, CellView, NetlistView, cell_at, bit_net, direction, Drives, Reads}
use Rattle.netlist_model.specs.Cones.{GateReads, InCone, itself, behind, FlopReads, IsControlNet}
use Rattle.netlist_model.specs.Formed.{IsDriven, IsWellFormed}
use Rattle.status_build.specs.ReconnectedLaws.{Reconnects, ReadsFlop, ReconnectedIsFormed, ReconnectedHasControls}

-- Two numbers are one or not.

same_or_not : (a b : ℕ) → (a ≡ b) ⊎ (a ≢ b)
same_or_not a b = by_test (a == b) refl
  where
    by_test : (t : Bool) → (a == b) ≡ t → (a ≡ b) ⊎ (a ≢ b)
    by_test true e = inl (eqb-true a b e)
    by_test false e = inr (λ f. let bad : false ≡ true = sym e ∙ eq-eqb a b f in cc)

pub some_same : {A : Type 0} (o : Option A) (a b : A) → o ≡ Some a → o ≡ Some b → a ≡ b
some_same o a b e f = cc

-- Cells of one netlist in the other.

dir_same : {old new : NetlistView} {number to : ℕ} → Reconnects old new number to → (net : ℕ) → direction new.ports net ≡ direction old.ports net
dir_same r net = ap (λ (ps : List PortView). direction ps net) r.ports

bit_same : {old new : NetlistView} {number to : ℕ} → Reconnects old new number to → (p k : ℕ) → bit_net new p k ≡ bit_net old p k
bit_same r p k = ap (λ (ps : List PortView). bit_net (let N : NetlistView = record { library = []; ports = ps; nets = []; cells = [] } in N) p k) r.ports

-- a cell that stands under a number, and the other netlist's there: of one kind and with one output
pub record IsCell (N : NetlistView) (i : ℕ) (cell : CellView) : Type 0 where
  pub other : CellView
  pub live : cell_at N i ≡ Some other
  pub kind : other.kind ≡ cell.kind
  pub output : other.output ≡ cell.output
  pub long : length other.feeds ≡ length cell.feeds

pub old_cell : {old new : NetlistView} {number to : ℕ} → (r : Reconnects old new number to) → (i : ℕ) (cell : CellView) → cell_at new i ≡ Some cell → IsCell old i cell
old_cell {old} {new} {number} r i cell live = elim (same_or_not i number) [
  | inl e ↦ (
      let mine : cell_at new i ≡ Some (record r.cell { feeds = r.feeds }) = ap (cell_at new) e ∙ r.changed in
      let same : (record r.cell { feeds = r.feeds }) ≡ cell = some_same (cell_at new i) (record r.cell { feeds = r.feeds }) cell mine live in
      record {
        other = r.cell;
        live = ap (cell_at old) e ∙ r.live;
        kind = ap (λ (c : CellView). c.kind) same;
        output = ap (λ (c : CellView). c.output) same;
        long = sym r.long ∙ ap (λ (c : CellView). length c.feeds) same;
      })
  | inr apart ↦ record { other = cell; live = sym (r.others i apart) ∙ live; kind = refl; output = refl; long = refl }
]

new_cell : {old new : NetlistView} {number to : ℕ} → (r : Reconnects old new number to) → (i : ℕ) (cell : CellView) → cell_at old i ≡ Some cell → IsCell new i cell
new_cell {old} {new} {number} r i cell live = elim (same_or_not i number) [
  | inl e ↦ (
      let same : r.cell ≡ cell = some_same (cell_at old i) r.cell cell (ap (cell_at old) e ∙ r.live) live in
      record {
        other = record r.cell { feeds = r.feeds };
        live = ap (cell_at new) e ∙ r.changed;
        kind = ap (λ (c : CellView). c.kind) same;
        output = ap (λ (c : CellView). c.output) same;
        long = r.long ∙ ap (λ (c : CellView). length c.feeds) same;
      })
  | inr apart ↦ record { other = cell; live = r.others i apart ∙ live; kind = refl; output = refl; long = refl }
]

pub drives_as : {N : NetlistView} {i : ℕ} {cell : CellView} → (c : IsCell N i cell) → (net : ℕ) → cell.output ≡ Some (record { 0 = net }) → Drives N i c.other net
drives_as c net out = record { live = c.live; output = c.output ∙ out }

-- what is read in the new netlist is read in the old one, or is `to`
pub reads_old : {old new : NetlistView} {number to : ℕ} → (r : Reconnects old new number to) → (i : ℕ) (cell : CellView) (place net : ℕ) → Reads new i cell place net
    → ((c : CellView) × Reads old i c place net) ⊎ (net ≡ to)
reads_old {old} {new} {number} {to} r i cell place net reads = elim (same_or_not i number) [
  | inl e ↦ (
      let mine : cell_at new i ≡ Some (record r.cell { feeds = r.feeds }) = ap (cell_at new) e ∙ r.changed in
      let same : cell ≡ (record r.cell { feeds = r.feeds }) = some_same (cell_at new i) cell (record r.cell { feeds = r.feeds }) reads.live mine in
      elim (r.each place net (ap (λ (c : CellView). slice_get c.feeds place) (sym same) ∙ reads.operand)) [
        | inl there ↦ inl (r.cell, record { live = ap (cell_at old) e ∙ r.live; operand = there })
        | inr is ↦ inr is
      ])
  | inr apart ↦ inl (cell, record { live = sym (r.others i apart) ∙ reads.live; operand = reads.operand })
]

driven_new : {old new : NetlistView} {number to : ℕ} → (r : Reconnects old new number to) → (net : ℕ) → (d : IsDriven old net)
    → (e : IsDriven new net) × (e.cell.kind ≡ d.cell.kind)
driven_new r net d =
    let c = new_cell r d.number d.cell d.drives.live in
    (record { number = d.number; cell = c.other; drives = drives_as c net d.drives.output }, c.kind)

-- Cones.

-- the net that a flip-flop drives is in no cone of a clock
no_flop : (N : NetlistView) → IsWellFormed N → (i : ℕ) (flop : CellView) (net : ℕ) → is_flop N.library flop.kind ≡ true → Drives N i flop net → IsControlNet N net → ⊥
no_flop N formed i flop net is drives control = elim (formed.cones net control) [
  | inl input ↦ formed.inputs_free i flop net drives input
  | inr gate ↦ (
      let d = gate.0 in
      let one : i ≡ d.number = formed.one_driver i d.number flop d.cell net drives d.drives in
      let same : flop ≡ d.cell = some_same (cell_at N d.number) flop d.cell (ap (cell_at N) (sym one) ∙ drives.live) d.drives.live in
      let bad : true ≡ false = sym is ∙ ap (λ (c : CellView). is_flop N.library c.kind) same ∙ gate.1 in cc)
]

-- the gate's own net stands in no cone
record Apart (old : NetlistView) (root net : ℕ) (cell : CellView) : Type 0 where
  cone : InCone old root net
  apart : cell.output ≢ Some (record { 0 = net })

not_there : (old : NetlistView) → IsWellFormed old → (number : ℕ) (cell : CellView) → cell_at old number ≡ Some cell → is_flop old.library cell.kind ≡ false → ReadsFlop old cell
    → (root : ℕ) → (FlopReads old 1 root ⊎ FlopReads old 2 root) → (net : ℕ) → InCone old root net → cell.output ≢ Some (record { 0 = net })
not_there old formed number cell live gate flop root operand net cone out =
    let reads : GateReads old net flop.source = record {
      number = number;
      cell = cell;
      place = flop.place;
      gate = gate;
      drives = record { live = live; output = out };
      reads = record { live = live; operand = flop.reads };
    } in
    no_flop old formed flop.number flop.flop flop.source flop.is flop.drives (record { root = root; operand = operand; cone = behind cone reads })

-- a flip-flop is another cell
flop_is : (library : List ListedCell) (cell : CellView) (kind : FlopKind) → flop_of library cell.kind ≡ Some kind → is_flop library cell.kind ≡ true
flop_is library cell kind e = ap (λ (k : Option FlopKind). is_some k) e

flop_apart : {old new : NetlistView} {number to : ℕ} → (r : Reconnects old new number to) → (i : ℕ) (cell : CellView) → is_flop old.library cell.kind ≡ true
    → (cell_at new i ≡ Some cell) ⊎ (cell_at old i ≡ Some cell) → i ≢ number
flop_apart {old} {new} r i cell is (inl live) e =
    let same : (record r.cell { feeds = r.feeds }) ≡ cell = some_same (cell_at new i) (record r.cell { feeds = r.feeds }) cell (ap (cell_at new) e ∙ r.changed) live in
    let bad : false ≡ true = sym r.gate ∙ ap (λ (c : CellView). is_flop old.library c.kind) same ∙ is in cc
flop_apart {old} {new} r i cell is (inr live) e =
    let same : r.cell ≡ cell = some_same (cell_at old i) r.cell cell (ap (cell_at old) e ∙ r.live) live in
    let bad : false ≡ true = sym r.gate ∙ ap (λ (c : CellView). is_flop old.library c.kind) same ∙ is in cc

flop_old : {old new : NetlistView} {number to : ℕ} → (r : Reconnects old new number to) → (place root : ℕ) → FlopReads new place root → FlopReads old place root
flop_old {old} r place root f =
    let flop : flop_of old.library f.cell.kind ≡ Some f.kind = subst (λ (l : List ListedCell). flop_of l f.cell.kind ≡ Some f.kind) r.library f.flop in
    let apart = flop_apart r f.number f.cell (flop_is old.library f.cell f.kind flop) (inl f.reads.live) in
    record {
      number = f.number;
      cell = f.cell;
      kind = f.kind;
      flop = flop;
      reads = record { live = sym (r.others f.number apart) ∙ f.reads.live; operand = f.reads.operand };
    }

flop_new : {old new : NetlistView} {number to : ℕ} → (r : Reconnects old new number to) → (place root : ℕ) → FlopReads old place root → FlopReads new place root
flop_new {old} r place root f =
    let apart = flop_apart r f.number f.cell (flop_is old.library f.cell f.kind f.flop) (inr f.reads.live) in
    record {
      number = f.number;
      cell = f.cell;
      kind = f.kind;
      flop = subst (λ (l : List ListedCell). flop_of l f.cell.kind ≡ Some f.kind) (sym r.library) f.flop;
      reads = record { live = r.others f.number apart ∙ f.reads.live; operand = f.reads.operand };
    }

-- a gate that drives another net than the changed one's is another cell
gate_apart : {old new : NetlistView} {number to : ℕ} → (r : Reconnects old new number to) → (i : ℕ) (cell : CellView) (net : ℕ) → cell.output ≡ Some (record { 0 = net })
    → (cell_at new i ≡ Some cell) ⊎ (cell_at old i ≡ Some cell) → r.cell.output ≢ Some (record { 0 = net }) → i ≢ number
gate_apart {old} {new} r i cell net out (inl live) apart e =
    let same : cell ≡ (record r.cell { feeds = r.feeds }) = some_same (cell_at new i) cell (record r.cell { feeds = r.feeds }) live (ap (cell_at new) e ∙ r.changed) in
    apart (sym (ap (λ (c : CellView). c.output) same) ∙ out)
gate_apart {old} {new} r i cell net out (inr live) apart e =
    let same : cell ≡ r.cell = some_same (cell_at old i) cell r.cell live (ap (cell_at old) e ∙ r.live) in
    apart (sym (ap (λ (c : CellView). c.output) same) ∙ out)

cone_old : {old new : NetlistView} {number to : ℕ} → IsWellFormed old → (r : Reconnects old new number to) → ReadsFlop old r.cell → (root : ℕ)
    → (FlopReads old 1 root ⊎ FlopReads old 2 root) → (net : ℕ) → InCone new root net → InCone old root net
cone_old formed r flop root operand net itself = itself
cone_old {old} {new} {number} formed r flop root operand other (behind {net} c g) =
    let before : InCone old root net = cone_old formed r flop root operand net c in
    let apart = not_there old formed number r.cell r.live r.gate flop root operand net before in
    let i : g.number ≢ number = gate_apart r g.number g.cell net g.drives.output (inl g.drives.live) apart in
    let same : cell_at old g.number ≡ Some g.cell = sym (r.others g.number i) ∙ g.drives.live in
    behind before (record {
      number = g.number;
      cell = g.cell;
      place = g.place;
      gate = subst (λ (l : List ListedCell). is_flop l g.cell.kind ≡ false) r.library g.gate;
      drives = record { live = same; output = g.drives.output };
      reads = record { live = same; operand = g.reads.operand };
    })

cone_new : {old new : NetlistView} {number to : ℕ} → IsWellFormed old → (r : Reconnects old new number to) → ReadsFlop old r.cell → (root : ℕ)
    → (FlopReads old 1 root ⊎ FlopReads old 2 root) → (net : ℕ) → InCone old root net → InCone new root net
cone_new formed r flop root operand net itself = itself
cone_new {old} {new} {number} formed r flop root operand other (behind {net} c g) =
    let apart = not_there old formed number r.cell r.live r.gate flop root operand net c in
    let i : g.number ≢ number = gate_apart r g.number g.cell net g.drives.output (inr g.drives.live) apart in
    let same : cell_at new g.number ≡ Some g.cell = r.others g.number i ∙ g.drives.live in
    behind (cone_new formed r flop root operand net c) (record {
      number = g.number;
      cell = g.cell;
      place = g.place;
      gate = subst (λ (l : List ListedCell). is_flop l g.cell.kind ≡ false) (sym r.library) g.gate;
      drives = record { live = same; output = g.drives.output };
      reads = record { live = same; operand = g.reads.operand };
    })

operand_old : {old new : NetlistView} {number to : ℕ} → (r : Reconnects old new number to) → (root : ℕ) → (FlopReads new 1 root ⊎ FlopReads new 2 root)
    → (FlopReads old 1 root ⊎ FlopReads old 2 root)
operand_old r root (inl f) = inl (flop_old r 1 root f)
operand_old r root (inr f) = inr (flop_old r 2 root f)

operand_new : {old new : NetlistView} {number to : ℕ} → (r : Reconnects old new number to) → (root : ℕ) → (FlopReads old 1 root ⊎ FlopReads old 2 root)
    → (FlopReads new 1 root ⊎ FlopReads new 2 root)
operand_new r root (inl f) = inl (flop_new r 1 root f)
operand_new r root (inr f) = inr (flop_new r 2 root f)

pub has_controls : ReconnectedHasControls
has_controls old new number to formed r flop net = (
  λ c. let operand = operand_old r c.root c.operand in record { root = c.root; operand = operand; cone = cone_old formed r flop c.root operand net c.cone },
  λ c. record { root = c.root; operand = operand_new r c.root c.operand; cone = cone_new formed r flop c.root c.operand net c.cone },
)

-- The whole.

pub is_formed : ReconnectedIsFormed
is_formed old new number to rank formed r flop readable numbered = record {
  counts = λ i cell live.
      let c = old_cell r i cell live in
      let kept : Takes old.library cell.kind (length cell.feeds) =
      subst (Takes old.library cell.kind) c.long (subst (λ (k : Kind). Takes old.library k (length c.other.feeds)) c.kind (formed.counts i c.other c.live)) in
      subst (λ (l : List ListedCell). Takes l cell.kind (length cell.feeds)) (sym r.library) kept;
  bits_apart = λ p q j k net e f. formed.bits_apart p q j k net (sym (bit_same r p j) ∙ e) (sym (bit_same r q k) ∙ f);
  inputs_free = λ i cell net d e. let c = old_cell r i cell d.live in formed.inputs_free i c.other net (drives_as c net d.output) (sym (dir_same r net) ∙ e);
  one_driver = λ i j cell other net d e.
      let c = old_cell r i cell d.live in
      let f = old_cell r j other e.live in
      formed.one_driver i j c.other f.other net (drives_as c net d.output) (drives_as f net e.output);
  outputs_driven = λ net e. (driven_new r net (formed.outputs_driven net (sym (dir_same r net) ∙ e))).0;
  inouts_driven = λ net e. (driven_new r net (formed.inouts_driven net (sym (dir_same r net) ∙ e))).0;
  read_driven = λ i cell place net reads e. elim (reads_old r i cell place net reads) [
    | inl there ↦ (driven_new r net (formed.read_driven i there.0 place net there.1 (sym (dir_same r net) ∙ e))).0
    | inr is ↦ subst (IsDriven new) (sym is) (driven_new r to (readable.driven (ap (direction old.ports) (sym is) ∙ sym (dir_same r net) ∙ e))).0
  ];
  bufif_outside = λ i cell net d is.
      let c = old_cell r i cell d.live in
      elim (formed.bufif_outside i c.other net (drives_as c net d.output) (ap is_three_state c.kind ∙ is)) [ inl e ↦ inl (dir_same r net ∙ e) | inr e ↦ inr (dir_same r net ∙ e) ];
  inout_bufif = λ i cell net d e.
      let c = old_cell r i cell d.live in sym (ap is_three_state c.kind) ∙ formed.inout_bufif i c.other net (drives_as c net d.output) (sym (dir_same r net) ∙ e);
  bufif_unread = λ i j cell other place net d is reads e.
      let c = old_cell r i cell d.live in
      elim (reads_old r j other place net reads) [
        | inl there ↦ formed.bufif_unread i j c.other there.0 place net (drives_as c net d.output) (ap is_three_state c.kind ∙ is) there.1 (sym (dir_same r net) ∙ e)
        | inr same ↦ readable.steady i c.other (subst (Drives old i c.other) same (drives_as c net d.output)) (ap is_three_state c.kind ∙ is)
            (ap (direction old.ports) (sym same) ∙ sym (dir_same r net) ∙ e)
      ];
  ordered = (rank, numbered);
  cones = λ net control. elim (formed.cones net ((has_controls old new number to formed r flop net).0 control)) [
    | inl input ↦ inl (dir_same r net ∙ input)
    | inr gate ↦ (
        let d = driven_new r net gate.0 in
        let is_gate = subst (λ (l : List ListedCell). is_flop l gate.0.cell.kind ≡ false) (sym r.library) gate.1 in
        inr (d.0, ap (is_flop new.library) d.1 ∙ is_gate, λ e. gate.2 (sym (dir_same r net) ∙ e)))
  ];
}
