-- Ports, operands, drivers and cones under other numbers.
use Rattle.std.proofs.Common.{◌≡◌, ℕ, zero, suc, ◌⊎◌, List, [], ◌∷◌, map, refl, ap, sym, ◌∙◌, inl, inr}
use Rattle.cell_library.specs.declared.listed.ListedCell.{ListedCell}
use Rattle.cell_library.specs.Gates.{flop_of, is_flop}
use Rattle.std.specs.Prelude.{Option, Some, None, slice_get, ◌==◌}
use Rattle.std.specs.Option.{option_map}
use Rattle.std.proofs.lemmas.Bool.Decides.{eqb_tells}
use Rattle.netlist_model.specs.declared.Feed.TheVariants.{Net}
use Rattle.netlist_model.specs.declared.NetId.{NetId}
use Rattle.netlist_model.specs.Lists.{PortView, CellView, NetlistView, bit_net, is_among, direction, Drives, Reads}
use Rattle.netlist_model.specs.Settled.{follows_pin}
use Rattle.netlist_model.specs.Cones.{GateReads, InCone, itself, behind, FlopReads, IsClockNet, IsControlNet}
use Rattle.netlist_model.specs.Formed.{IsDriven}
use Rattle.netlist_model.specs.Nested.{renamed_net, renamed_feed, renamed_cell, Nested}
use Rattle.netlist_model.specs.Renumbered.{IsPortImage, ArePortImages, IsCopied}
use Rattle.netlist_model.proofs.Nests.{output_renamed}

-- what stands at a place of a mapped list
pub slice_get-mapped : {A B : Type 0} (f : A → B) (xs : List A) (k : ℕ) (x : A) → slice_get xs k ≡ Some x → slice_get (map f xs) k ≡ Some (f x)
slice_get-mapped f [] k x e = absurd (cc)
slice_get-mapped f (y ∷ xs) zero x e = let same : y ≡ x = cc in ap (λ z. Some (f z)) same
slice_get-mapped f (y ∷ xs) (suc k) x e = slice_get-mapped f xs k x e

-- two numbers are the same exactly where their new ones are
pub same_test : (to back : ℕ → ℕ) → ((n : ℕ) → back (to n) ≡ n) → (a b : ℕ) → (to a == to b) ≡ (a == b)
same_test to back undo a b =
    elim (eqb_tells a b) [
      | inl h ↦ elim (eqb_tells (to a) (to b)) [
        | inl g ↦ rw (h.0, g.0) refl
        | inr g ↦ absurd (g.1 (ap to h.1))
      ]
      | inr h ↦ elim (eqb_tells (to a) (to b)) [
        | inl g ↦ absurd (h.1 (sym (undo a) ∙ ap back g.1 ∙ undo b))
        | inr g ↦ rw (h.0, g.0) refl
      ]
    ]

among_same : (to back : ℕ → ℕ) → ((n : ℕ) → back (to n) ≡ n) → (net : ℕ) (nets : List NetId) → is_among (to net) (map (renamed_net to) nets) ≡ is_among net nets
among_same to back undo net [] = refl
among_same to back undo net (n ∷ nets) = rw (same_test to back undo n.0 net, among_same to back undo net nets) refl

-- each net keeps its direction
direction_same : (to back : ℕ → ℕ) → ((n : ℕ) → back (to n) ≡ n) → (ports images : List PortView) → ArePortImages to ports images → (net : ℕ)
    → direction images (to net) ≡ direction ports net
direction_same to back undo [] [] are net = refl
direction_same to back undo [] (y ∷ ys) are net = absurd are
direction_same to back undo (x ∷ xs) [] are net = absurd are
direction_same to back undo (x ∷ xs) (y ∷ ys) are net =
    let first = are.0 in
    let among : is_among (to net) y.nets ≡ is_among net x.nets = ap (λ ns. is_among (to net) ns) first.nets ∙ among_same to back undo net x.nets in
    rw (among, first.dir, direction_same to back undo xs ys are.1 net) refl

pub copied_direction : (N M : NetlistView) (to at back from : ℕ → ℕ) → IsCopied N M to at back from → (net : ℕ) → direction M.ports (to net) ≡ direction N.ports net
copied_direction N M to at back from c = direction_same to back c.nets N.ports M.ports c.ports

-- the image of a port of a list
record HasPortImage (to : ℕ → ℕ) (images : List PortView) (p : ℕ) (port : PortView) : Type 0 where
  pub image : PortView
  pub there : slice_get images p ≡ Some image
  pub is : IsPortImage to port image

port_image : (to : ℕ → ℕ) (ports images : List PortView) → ArePortImages to ports images → (p : ℕ) (port : PortView) → slice_get ports p ≡ Some port → HasPortImage to images p port
port_image to [] images are p port e = absurd (cc)
port_image to (x ∷ xs) [] are p port e = absurd are
port_image to (x ∷ xs) (y ∷ ys) are zero port e =
    let same : x ≡ port = cc in
    let here : HasPortImage to (y ∷ ys) 0 x = record { image = y; there = refl; is = are.0 } in rw same at here
port_image to (x ∷ xs) (y ∷ ys) are (suc p) port e =
    let rest = port_image to xs ys are.1 p port e in record { image = rest.image; there = rest.there; is = rest.is }

-- each bit of a port has its net's new number
at_port : (o : Option PortView) (N : NetlistView) (p k : ℕ) (net : NetId) → slice_get N.ports p ≡ o → bit_net N p k ≡ Some net
    → (port : PortView) × (slice_get N.ports p ≡ Some port) × (slice_get port.nets k ≡ Some net)
at_port None N p k net e h = absurd (let g = rw e at h in cc)
at_port (Some port) N p k net e h = let g = rw e at h in (port, e, g)

pub copied_bit : (N M : NetlistView) (to at back from : ℕ → ℕ) → IsCopied N M to at back from → (p k : ℕ) (net : NetId) → bit_net N p k ≡ Some net
    → bit_net M p k ≡ Some (renamed_net to net)
copied_bit N M to at back from c p k net h =
    let port = at_port (slice_get N.ports p) N p k net refl h in
    let image = port_image to N.ports M.ports c.ports p port.0 port.1 in
    let nets : slice_get image.image.nets k ≡ Some (renamed_net to net) = ap (λ ns. slice_get ns k) image.is.nets ∙ slice_get-mapped (renamed_net to) port.0.nets k net port.2 in
    rw image.there nets

-- what drives a net drives it under its new number
pub drives_over : (N M : NetlistView) (to at : ℕ → ℕ) (n : Nested N M to at) (i : ℕ) (cell : CellView) (net : ℕ) (d : Drives N i cell net)
    → Drives M (at i) (renamed_cell to (n.cells i cell d.live).name cell) (to net)
drives_over N M to at n i cell net d = record { live = (n.cells i cell d.live).live; output = output_renamed to cell.output net d.output }

pub reads_over : (N M : NetlistView) (to at : ℕ → ℕ) (n : Nested N M to at) (i : ℕ) (cell : CellView) (place net : ℕ) (r : Reads N i cell place net)
    → Reads M (at i) (renamed_cell to (n.cells i cell r.live).name cell) place (to net)
reads_over N M to at n i cell place net r = record {
  live = (n.cells i cell r.live).live;
  operand = slice_get-mapped (renamed_feed to) cell.feeds place (Net (record { 0 = net })) r.operand;
}

abbrev pub driven_over : (N M : NetlistView) (to at : ℕ → ℕ) → Nested N M to at → (net : ℕ) → IsDriven N net → IsDriven M (to net)
driven_over N M to at n net d = record {
  number = at d.number;
  cell = renamed_cell to (n.cells d.number d.cell d.drives.live).name d.cell;
  drives = drives_over N M to at n d.number d.cell net d.drives;
}

-- cones go over
gate_reads_over : (N M : NetlistView) (to at : ℕ → ℕ) → Nested N M to at → (net other : ℕ) → GateReads N net other → GateReads M (to net) (to other)
gate_reads_over N M to at n net other g = record {
  number = at g.number;
  cell = renamed_cell to (n.cells g.number g.cell g.drives.live).name g.cell;
  place = g.place;
  gate = ap (λ (l : List ListedCell). is_flop l g.cell.kind) n.library ∙ g.gate;
  drives = drives_over N M to at n g.number g.cell net g.drives;
  reads = record {
    live = (n.cells g.number g.cell g.drives.live).live;
    operand = slice_get-mapped (renamed_feed to) g.cell.feeds g.place (Net (record { 0 = other })) g.reads.operand;
  };
}

cone_over : (N M : NetlistView) (to at : ℕ → ℕ) → Nested N M to at → (root net : ℕ) → InCone N root net → InCone M (to root) (to net)
cone_over N M to at n root net itself = itself
cone_over N M to at n root end (behind {net} back g) = behind (cone_over N M to at n root net back) (gate_reads_over N M to at n net end g)

flop_reads_over : (N M : NetlistView) (to at : ℕ → ℕ) → Nested N M to at → (place net : ℕ) → FlopReads N place net → FlopReads M place (to net)
flop_reads_over N M to at n place net f = record {
  number = at f.number;
  cell = renamed_cell to (n.cells f.number f.cell f.reads.live).name f.cell;
  kind = f.kind;
  flop = ap (λ (l : List ListedCell). flop_of l f.cell.kind) n.library ∙ f.flop;
  reads = reads_over N M to at n f.number f.cell place net f.reads;
}

operand_over : (N M : NetlistView) (to at : ℕ → ℕ) → Nested N M to at → (root : ℕ) → FlopReads N 1 root ⊎ FlopReads N 2 root → FlopReads M 1 (to root) ⊎ FlopReads M 2 (to root)
operand_over N M to at n root (inl f) = inl (flop_reads_over N M to at n 1 root f)
operand_over N M to at n root (inr f) = inr (flop_reads_over N M to at n 2 root f)

pub control_over : (N M : NetlistView) (to at : ℕ → ℕ) → Nested N M to at → (net : ℕ) → IsControlNet N net → IsControlNet M (to net)
control_over N M to at n net c = record { root = to c.root; operand = operand_over N M to at n c.root c.operand; cone = cone_over N M to at n c.root net c.cone }

pub clock_over : (N M : NetlistView) (to at : ℕ → ℕ) → Nested N M to at → (net : ℕ) → IsClockNet N net → IsClockNet M (to net)
clock_over N M to at n net c = record { root = to c.root; operand = flop_reads_over N M to at n 1 c.root c.operand; cone = cone_over N M to at n c.root net c.cone }

-- a renumbered netlist holds the other
pub copied_nested : (N M : NetlistView) (to at back from : ℕ → ℕ) → IsCopied N M to at back from → IsCopied M N back from to at → Nested N M to at
copied_nested N M to at back from c b = record {
  library = c.library;
  cells = c.cells;
  inside = λ net g. ap follows_pin (copied_direction N M to at back from c net) ∙ g;
  undriven = λ net g none j cell live out.
      let there = b.cells j cell live in
      let drives : option_map (renamed_net back) cell.output ≡ Some (record { 0 = net })
      = output_renamed back cell.output (to net) out ∙ ap (λ k. Some (record { 0 = k })) (c.nets net) in
      none (from j) (renamed_cell back there.name cell) there.live drives;
}

-- Renamed twice.
