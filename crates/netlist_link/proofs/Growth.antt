-- A netlist to which cells are added stays well formed.
use Rattle.std.proofs.Common.{◌≡◌, ◌≢◌, ℕ, ◌⊎◌, false, List, length, subst, refl, ap, sym, ◌∙◌, inl, inr}
use Rattle.std.specs.Prelude.{Some, None, slice_get}
use Rattle.std.specs.Option.{option_and_then}
use Rattle.netlist_model.proofs.Search.{cell_at_once}
use Rattle.cell_library.specs.declared.listed.ListedCell.{ListedCell}
use Rattle.cell_library.specs.Gates.{is_three_state, is_flop, flop_of, Takes}
use Rattle.netlist_model.specs.declared.Dir.TheVariants.{Input}
use Rattle.netlist_model.specs.Lists.{PortView, CellView, NetlistView, bit_net, direction, Drives}
use Rattle.netlist_model.specs.Cones.{InCone, itself, behind, GateReads, FlopReads}
use Rattle.netlist_model.specs.Formed.{IsDriven, IsCombinational, IsWellFormed}
use Rattle.netlist_model.specs.Settle.{IsDrivenOnce}
use Rattle.netlist_link.specs.Readable.{CanBeRead, IsPure}
use Rattle.netlist_link.specs.Grown.{IsOneOf, AddsCells, AreSoundCells, GrownIsFormed}

-- directions are the same
dir_over : (old new : NetlistView) (part : List CellView) → AddsCells old new part → (net : ℕ) → direction new.ports net ≡ direction old.ports net
dir_over old new part adds net = ap (λ (ports : List PortView). direction ports net) adds.ports

bit_over : (old new : NetlistView) (part : List CellView) → AddsCells old new part → (p j : ℕ) → bit_net new p j ≡ bit_net old p j
bit_over old new part adds p j = ap (λ (ports : List PortView). option_and_then (λ (x : PortView). slice_get x.nets j) (slice_get ports p)) adds.ports

abbrev driven_over : (old new : NetlistView) (part : List CellView) → AddsCells old new part → (net : ℕ) → IsDriven old net → IsDriven new net
driven_over old new part adds net d = record { number = d.number; cell = d.cell; drives = record { live = adds.kept d.number d.cell d.drives.live; output = d.drives.output } }

combinational_over : (old new : NetlistView) (part : List CellView) → AddsCells old new part → (net : ℕ) → IsCombinational old net → IsCombinational new net
combinational_over old new part adds net (inl e) = inl (dir_over old new part adds net ∙ e)
combinational_over old new part adds net (inr d) = inr (driven_over old new part adds net d.0, ap (λ (l : List ListedCell). is_flop l d.0.cell.kind) adds.library ∙ d.1, λ e. d.2 (sym (dir_over old new part adds net) ∙ e))

-- the outputs of added cells are nets of no port
abbrev DriveWires : NetlistView → List CellView → Type 0
DriveWires new part = (cell : CellView) (out : ℕ) → IsOneOf part cell → cell.output ≡ Some (record { 0 = out }) → direction new.ports out ≡ None

-- nothing that is added drives an input bit
no_input : (old new : NetlistView) (part : List CellView) → IsWellFormed old → AddsCells old new part → DriveWires new part → (i : ℕ) (cell : CellView) (net : ℕ) → Drives new i cell net
    → direction new.ports net ≢ Some Input
no_input old new part formed adds wires i cell net d e =
    elim (adds.either i cell d.live) [
      | inl before ↦ formed.inputs_free i cell net (record { live = before; output = d.output }) (sym (dir_over old new part adds net) ∙ e)
      | inr of ↦ (let none = wires cell net of d.output in cc)
    ]

-- a gate on a combinational net of the old netlist reads there what it reads in the new
gate_before : (old new : NetlistView) (part : List CellView) → IsWellFormed old → AddsCells old new part → IsDrivenOnce new → DriveWires new part → (net other : ℕ) → IsCombinational old net
    → GateReads new net other → GateReads old net other
gate_before old new part formed adds once wires net other (inl e) g =
    absurd (no_input old new part formed adds wires g.number g.cell net g.drives (dir_over old new part adds net ∙ e))
gate_before old new part formed adds once wires net other (inr d) g =
    let there : Drives new d.0.number d.0.cell net = record { live = adds.kept d.0.number d.0.cell d.0.drives.live; output = d.0.drives.output } in
    let number : g.number ≡ d.0.number = once g.number d.0.number g.cell d.0.cell net g.drives there in
    let same : g.cell ≡ d.0.cell = cell_at_once new g.number d.0.number g.cell d.0.cell number g.drives.live there.live in
    record {
      number = d.0.number;
      cell = d.0.cell;
      place = g.place;
      gate = d.1;
      drives = d.0.drives;
      reads = record { live = d.0.drives.live; operand = ap (λ (c : CellView). slice_get c.feeds g.place) (sym same) ∙ g.reads.operand };
    }

cone_before : (old new : NetlistView) (part : List CellView) → IsWellFormed old → AddsCells old new part → IsDrivenOnce new → DriveWires new part → (root : ℕ) → IsPure old root → (net : ℕ)
    → InCone new root net → InCone old root net
cone_before old new part formed adds once wires root pure _ itself = itself
cone_before old new part formed adds once wires root pure _ (behind {net} {other} cone gate) =
    let before : InCone old root net = cone_before old new part formed adds once wires root pure net cone in
    behind before (gate_before old new part formed adds once wires net other (pure net before) gate)

-- own: what is pure in the old netlist, is pure in the new
pub pure_stays_so : (old new : NetlistView) (part : List CellView) (net : ℕ) → IsWellFormed old → AddsCells old new part → IsDrivenOnce new
    → ((cell : CellView) (out : ℕ) → IsOneOf part cell → cell.output ≡ Some (record { 0 = out }) → direction new.ports out ≡ None) → IsPure old net → IsPure new net
pure_stays_so old new part net formed adds once wires pure =
    λ other cone. combinational_over old new part adds other (pure other (cone_before old new part formed adds once wires net pure other cone))

-- own: what can be read in the old netlist, can be in the new
pub readable_stays_so : (old new : NetlistView) (part : List CellView) (net : ℕ) → AddsCells old new part → ((cell : CellView) → IsOneOf part cell → is_three_state cell.kind ≡ false)
    → CanBeRead old net → CanBeRead new net
readable_stays_so old new part net adds two_state can = record {
  driven = λ e. driven_over old new part adds net (can.driven (sym (dir_over old new part adds net) ∙ e));
  steady = λ i cell d three e. elim (adds.either i cell d.live) [
    | inl before ↦ can.steady i cell (record { live = before; output = d.output }) three (sym (dir_over old new part adds net) ∙ e)
    | inr of ↦ (let two = two_state cell of in cc)
  ];
}

wires_of : (new : NetlistView) (part : List CellView) → AreSoundCells new part → DriveWires new part
wires_of new part sound cell out of is = (sound cell of).output out is

-- the operand that clocks, clears or presets a flip-flop is pure
operand_is_pure : (old new : NetlistView) (part : List CellView) → IsWellFormed old → AddsCells old new part → IsDrivenOnce new → AreSoundCells new part → (place root : ℕ) → (place ≡ 1) ⊎ (place ≡ 2)
    → ((reads : FlopReads old place root) → IsPure old root) → FlopReads new place root → IsPure new root
operand_is_pure old new part formed adds once sound place root is before reads =
    elim (adds.either reads.number reads.cell reads.reads.live) [
      | inl live ↦ pure_stays_so old new part root formed adds once (wires_of new part sound)
          (before (record { number = reads.number; cell = reads.cell; kind = reads.kind; flop = ap (λ (l : List ListedCell). flop_of l reads.cell.kind) (sym adds.library) ∙ reads.flop; reads = record { live = live; operand = reads.reads.operand } }))
      | inr of ↦ (sound reads.cell of).controls reads.kind place root reads.flop is reads.reads.operand
    ]

root_is_pure : (old new : NetlistView) (part : List CellView) → IsWellFormed old → AddsCells old new part → IsDrivenOnce new → AreSoundCells new part → (root : ℕ)
    → (FlopReads new 1 root) ⊎ (FlopReads new 2 root) → IsPure new root
root_is_pure old new part formed adds once sound root (inl reads) =
    operand_is_pure old new part formed adds once sound 1 root (inl refl)
    (λ r other cone. formed.cones other (record { root = root; operand = inl r; cone = cone })) reads
root_is_pure old new part formed adds once sound root (inr reads) =
    operand_is_pure old new part formed adds once sound 2 root (inr refl)
    (λ r other cone. formed.cones other (record { root = root; operand = inr r; cone = cone })) reads

pub grown_formed : GrownIsFormed
grown_formed old new part rank formed adds once numbered sound =
    let dirs : (net : ℕ) → direction new.ports net ≡ direction old.ports net = dir_over old new part adds in
    record {
      counts = λ i cell live. elim (adds.either i cell live) [
        | inl before ↦ subst (λ (l : List ListedCell). Takes l cell.kind (length cell.feeds)) (sym adds.library) (formed.counts i cell before)
        | inr of ↦ (sound cell of).takes
      ];
      bits_apart = λ p q j k net a b. formed.bits_apart p q j k net (sym (bit_over old new part adds p j) ∙ a) (sym (bit_over old new part adds q k) ∙ b);
      inputs_free = λ i cell net d e. no_input old new part formed adds (wires_of new part sound) i cell net d e;
      one_driver = once;
      outputs_driven = λ net e. driven_over old new part adds net (formed.outputs_driven net (sym (dirs net) ∙ e));
      inouts_driven = λ net e. driven_over old new part adds net (formed.inouts_driven net (sym (dirs net) ∙ e));
      read_driven = λ i cell place net reads e. elim (adds.either i cell reads.live) [
        | inl before ↦ driven_over old new part adds net (formed.read_driven i cell place net (record { live = before; operand = reads.operand }) (sym (dirs net) ∙ e))
        | inr of ↦ ((sound cell of).reads place net reads.operand).driven e
      ];
      bufif_outside = λ i cell net d three. elim (adds.either i cell d.live) [
        | inl before ↦ elim (formed.bufif_outside i cell net (record { live = before; output = d.output }) three) [
          | inl e ↦ inl (dirs net ∙ e)
          | inr e ↦ inr (dirs net ∙ e)
        ]
        | inr of ↦ absurd (let two = (sound cell of).two_state in cc)
      ];
      inout_bufif = λ i cell net d e. elim (adds.either i cell d.live) [
        | inl before ↦ formed.inout_bufif i cell net (record { live = before; output = d.output }) (sym (dirs net) ∙ e)
        | inr of ↦ absurd (let none = (sound cell of).output net d.output in cc)
      ];
      bufif_unread = λ i j cell other place net d three reads e. elim (adds.either i cell d.live) [
        | inl before ↦ elim (adds.either j other reads.live) [
          | inl read ↦ formed.bufif_unread i j cell other place net (record { live = before; output = d.output }) three (record { live = read; operand = reads.operand }) (sym (dirs net) ∙ e)
          | inr of ↦ ((sound other of).reads place net reads.operand).steady i cell d three e
        ]
        | inr of ↦ (let two = (sound cell of).two_state in cc)
      ];
      ordered = (rank, numbered);
      cones = λ net c. root_is_pure old new part formed adds once sound c.root c.operand net c.cone;
    }
