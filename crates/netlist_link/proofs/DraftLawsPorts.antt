-- A netlist with one scalar port more stays well formed.
use Rattle.std.proofs.Common.{◌≡◌, ◌≢◌, ℕ, zero, suc, ◌⊎◌, ◌==◌, false, List, [], ◌∷◌, ◌++◌, length, refl, ap, sym, ◌∙◌, inl, inr, Option}
use Rattle.std.specs.Prelude.{Some, None, slice_get}
use Rattle.std.specs.Option.{option_and_then}
use Rattle.std.proofs.lemmas.Bool.Decides.{eqb_tells}
use Rattle.list_laws.proofs.Lists.{at_push}
use Rattle.netlist_model.specs.declared.Name.{Name}
use Rattle.netlist_model.specs.declared.NetId.{NetId}
use Rattle.netlist_model.specs.declared.Dir.{Dir}
use Rattle.netlist_model.specs.declared.Dir.TheVariants.{Input, Output, Inout}
use Rattle.netlist_model.specs.Lists.{PortView, CellView, NetlistView, bit_net, direction, Drives, Reads}
use Rattle.netlist_model.specs.Cones.{InCone, itself, behind, FlopReads, IsControlNet}
use Rattle.netlist_model.specs.Formed.{IsDriven, IsWellFormed}
use Rattle.netlist_model.specs.Ports.{BitHasDirection}
use Rattle.netlist_arena.specs.Adds.{with_port}
use Rattle.gate_parts.proofs.Ports.{dir_stays, dir_of_more}
use Rattle.netlist_link.specs.Pins.{scalar, PortIsFormed}

-- the net of the port has its direction, and the others have theirs
pub dir_cases : (N : NetlistView) (name : Name) (dir : Dir) (net : NetId) → direction N.ports net.0 ≡ None → (other : ℕ)
    → ((other ≡ net.0) × (direction (with_port (scalar name dir net) N).ports other ≡ Some dir))
    ⊎ ((other ≢ net.0) × (direction (with_port (scalar name dir net) N).ports other ≡ direction N.ports other))
dir_cases N name dir net outside other = elim (eqb_tells net.0 other) [
  | inl h ↦ (let none : direction N.ports other ≡ None = ap (direction N.ports) (sym h.1) ∙ outside in
      let one : direction (scalar name dir net ∷ []) other ≡ Some dir = rw h.0 refl in
      inl (sym h.1, dir_of_more N.ports (scalar name dir net ∷ []) other none ∙ one))
  | inr h ↦ inr (λ e. h.1 (sym e), dir_other N.ports name dir net other h.0 (direction N.ports other) refl)
]
  where
    dir_other : (ports : List PortView) (name : Name) (dir : Dir) (net : NetId) (other : ℕ) → (net.0 == other) ≡ false → (found : Option Dir) → direction ports other ≡ found
        → direction (ports ++ scalar name dir net ∷ []) other ≡ direction ports other
    dir_other ports name dir net other apart None e =
        let one : direction (scalar name dir net ∷ []) other ≡ None = rw apart refl in dir_of_more ports (scalar name dir net ∷ []) other e ∙ one ∙ sym e
    dir_other ports name dir net other apart (Some d) e = dir_stays ports (scalar name dir net ∷ []) other d e ∙ sym e

-- what a bit of the netlist with the port is
record IsNewBit (N : NetlistView) (net : NetId) (p j : ℕ) (found : NetId) : Type 0 where
  pub port : p ≡ length N.ports
  pub bit : j ≡ 0
  pub same : net ≡ found

port_of_bit : (ports : List PortView) (p j : ℕ) (net : NetId) → option_and_then (λ (x : PortView). slice_get x.nets j) (slice_get ports p) ≡ Some net
    → (port : PortView) × (slice_get ports p ≡ Some port) × (slice_get port.nets j ≡ Some net)
port_of_bit [] p j net at = absurd (cc)
port_of_bit (x ∷ xs) zero j net at = (x, refl, at)
port_of_bit (x ∷ xs) (suc p) j net at = port_of_bit xs p j net at

one_bit : (net found : NetId) (j : ℕ) → slice_get (net ∷ []) j ≡ Some found → (j ≡ 0) × (net ≡ found)
one_bit net found zero at = (refl, cc)
one_bit net found (suc j) at = absurd (cc)

bit_cases : (N : NetlistView) (name : Name) (dir : Dir) (net : NetId) (p j : ℕ) (found : NetId) → bit_net (with_port (scalar name dir net) N) p j ≡ Some found
    → (bit_net N p j ≡ Some found) ⊎ IsNewBit N net p j found
bit_cases N name dir net p j found at =
    let whose = port_of_bit (N.ports ++ scalar name dir net ∷ []) p j found at in
    elim (at_push N.ports (scalar name dir net) whose.0 p whose.1) [
      | inl last ↦ (let has : slice_get (net ∷ []) j ≡ Some found = ap (λ (x : PortView). slice_get x.nets j) last.1 ∙ whose.2 in
          let one = one_bit net found j has in inr (record { port = last.0; bit = one.0; same = one.1 }))
      | inr before ↦ inl (ap (option_and_then (λ (x : PortView). slice_get x.nets j)) before.1 ∙ whose.2)
    ]

-- no port bit has a net without a direction
no_bit : BitHasDirection → (N : NetlistView) → IsWellFormed N → (p j : ℕ) (net : NetId) → bit_net N p j ≡ Some net → direction N.ports net.0 ≢ None
no_bit law N formed p j net at none =
    let whose = port_of_bit N.ports p j net at in
    let has = law N formed whose.0.dir net (record { number = p; port = whose.0; bit = j; stands = whose.1; has = whose.2; same = refl }) in
    let no : Some whose.0.dir ≡ None = sym has ∙ none in cc

-- the cells of the netlist with the port are those of the netlist
abbrev NewPort : NetlistView → Name → Dir → NetId → NetlistView
NewPort N name dir net = with_port (scalar name dir net) N

abbrev drives_old : (N : NetlistView) (name : Name) (dir : Dir) (net : NetId) (i : ℕ) (cell : CellView) (out : ℕ) → Drives (NewPort N name dir net) i cell out → Drives N i cell out
drives_old N name dir net i cell out d = record { live = d.live; output = d.output }

abbrev reads_old : (N : NetlistView) (name : Name) (dir : Dir) (net : NetId) (i : ℕ) (cell : CellView) (place read : ℕ) → Reads (NewPort N name dir net) i cell place read → Reads N i cell place read
reads_old N name dir net i cell place read r = record { live = r.live; operand = r.operand }

abbrev driven_new : (N : NetlistView) (name : Name) (dir : Dir) (net : NetId) (out : ℕ) → IsDriven N out → IsDriven (NewPort N name dir net) out
driven_new N name dir net out d = record { number = d.number; cell = d.cell; drives = record { live = d.drives.live; output = d.drives.output } }

abbrev flop_reads_old : (N : NetlistView) (name : Name) (dir : Dir) (net : NetId) (place read : ℕ) → FlopReads (NewPort N name dir net) place read → FlopReads N place read
flop_reads_old N name dir net place read f = record { number = f.number; cell = f.cell; kind = f.kind; flop = f.flop; reads = record { live = f.reads.live; operand = f.reads.operand } }

cone_old : (N : NetlistView) (name : Name) (dir : Dir) (pin : NetId) (root other : ℕ) → InCone (NewPort N name dir pin) root other → InCone N root other
cone_old N name dir pin root _ itself = itself
cone_old N name dir pin root _ (behind {net} {other} cone g) =
    behind (cone_old N name dir pin root net cone) (record {
      number = g.number;
      cell = g.cell;
      place = g.place;
      gate = g.gate;
      drives = record { live = g.drives.live; output = g.drives.output };
      reads = record { live = g.reads.live; operand = g.reads.operand };
    })

control_old : (N : NetlistView) (name : Name) (dir : Dir) (net : NetId) (other : ℕ) → IsControlNet (NewPort N name dir net) other → IsControlNet N other
control_old N name dir net other c = record {
  root = c.root;
  operand = elim c.operand [ inl f ↦ inl (flop_reads_old N name dir net 1 c.root f) | inr f ↦ inr (flop_reads_old N name dir net 2 c.root f) ];
  cone = cone_old N name dir net c.root other c.cone;
}

same_dir : (d e : Dir) → Some d ≡ Some e → d ≡ e
same_dir d e h = cc

pub port_formed : BitHasDirection → PortIsFormed
port_formed law N name dir net formed can =
    let M : NetlistView = with_port (scalar name dir net) N in
    let dirs = dir_cases N name dir net can.outside in
    record {
      counts = formed.counts;
      bits_apart = λ p q j k found a b. elim (bit_cases N name dir net p j found a) [
        | inl old ↦ elim (bit_cases N name dir net q k found b) [
          | inl other ↦ formed.bits_apart p q j k found old other
          | inr new ↦ absurd (no_bit law N formed p j found old (ap (λ (n : NetId). direction N.ports n.0) (sym new.same) ∙ can.outside))
        ]
        | inr new ↦ elim (bit_cases N name dir net q k found b) [
          | inl other ↦ absurd (no_bit law N formed q k found other (ap (λ (n : NetId). direction N.ports n.0) (sym new.same) ∙ can.outside))
          | inr other ↦ (new.port ∙ sym other.port, new.bit ∙ sym other.bit)
        ]
      ];
      inputs_free = λ i cell out d e. elim (dirs out) [
        | inl new ↦ can.input (same_dir dir Input (sym new.1 ∙ e)) i cell d.live (d.output ∙ ap (λ n. Some (record { 0 = n })) new.0)
        | inr old ↦ formed.inputs_free i cell out (drives_old N name dir net i cell out d) (sym old.1 ∙ e)
      ];
      one_driver = λ i j cell other out a b. formed.one_driver i j cell other out (drives_old N name dir net i cell out a) (drives_old N name dir net j other out b);
      outputs_driven = λ out e. driven_new N name dir net out (elim (dirs out) [
        | inl new ↦ (let d = can.output (same_dir dir Output (sym new.1 ∙ e)) in rw (sym new.0) at d)
        | inr old ↦ formed.outputs_driven out (sym old.1 ∙ e)
      ]);
      inouts_driven = λ out e. driven_new N name dir net out (elim (dirs out) [
        | inl new ↦ absurd (can.no_inout (same_dir dir Inout (sym new.1 ∙ e)))
        | inr old ↦ formed.inouts_driven out (sym old.1 ∙ e)
      ]);
      read_driven = λ i cell place out r e. driven_new N name dir net out (elim (dirs out) [
        | inl new ↦ absurd (let no : Some dir ≡ None = sym new.1 ∙ e in cc)
        | inr old ↦ formed.read_driven i cell place out (reads_old N name dir net i cell place out r) (sym old.1 ∙ e)
      ]);
      bufif_outside = λ i cell out d three. elim (formed.bufif_outside i cell out (drives_old N name dir net i cell out d) three) [
        | inl e ↦ inl (dir_stays N.ports (scalar name dir net ∷ []) out Output e)
        | inr e ↦ inr (dir_stays N.ports (scalar name dir net ∷ []) out Inout e)
      ];
      inout_bufif = λ i cell out d e. elim (dirs out) [
        | inl new ↦ absurd (can.no_inout (same_dir dir Inout (sym new.1 ∙ e)))
        | inr old ↦ formed.inout_bufif i cell out (drives_old N name dir net i cell out d) (sym old.1 ∙ e)
      ];
      bufif_unread = λ i j cell other place out d three r e. elim (dirs out) [
        | inl new ↦ (let none : direction N.ports out ≡ None = ap (direction N.ports) new.0 ∙ can.outside in
            elim (formed.bufif_outside i cell out (drives_old N name dir net i cell out d) three) [ inl f ↦ cc | inr f ↦ cc ])
        | inr old ↦ formed.bufif_unread i j cell other place out (drives_old N name dir net i cell out d) three (reads_old N name dir net j other place out r) (sym old.1 ∙ e)
      ];
      ordered = (formed.ordered.0, record { gates = λ i cell out d gate. formed.ordered.1.gates i cell out (drives_old N name dir net i cell out d) gate });
      cones = λ out c. elim (formed.cones out (control_old N name dir net out c)) [
        | inl e ↦ inl (dir_stays N.ports (scalar name dir net ∷ []) out Input e)
        | inr d ↦ inr (
          driven_new N name dir net out d.0,
          d.1,
          λ e. elim (dirs out) [
            | inl new ↦ can.no_inout (same_dir dir Inout (sym new.1 ∙ e))
            | inr old ↦ d.2 (sym old.1 ∙ e)
          ],
        )
      ];
    }
