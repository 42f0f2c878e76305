-- A small netlist that is well formed.
use Rattle.std.proofs.Common.{◌≡◌, ◌≢◌, ℕ, zero, suc, ◌+◌, ◌<◌, ◌⊎◌, ◌==◌, if◌then◌else◌, true, false, [], ◌∷◌, length, Option, refl, ap, sym, subst, inl, inr, arith}
use Rattle.std.specs.Prelude.{Some, None, slice_get}
use Rattle.std.proofs.lemmas.Bool.Decides.{eqb_tells}
use Rattle.cell_library.specs.declared.Kind.TheVariants.{Xor, Bufif1, Flop}
use Rattle.cell_library.specs.declared.FlopKind.{FlopKind}
use Rattle.cell_library.specs.declared.Edge.TheVariants.{Rise}
use Rattle.cell_library.specs.declared.ResetTo.TheVariants.{Nothing}
use Rattle.cell_library.specs.Gates.{flop_of, is_flop, is_three_state, Takes}
use Rattle.netlist_model.specs.declared.NetId.{NetId}
use Rattle.netlist_model.specs.declared.Feed.{Feed}
use Rattle.netlist_model.specs.declared.Feed.TheVariants.{Net}
use Rattle.netlist_model.specs.declared.Dir.TheVariants.{Input, Output, Inout}
use Rattle.netlist_model.specs.Lists.{PortView, CellView, cell_at, bit_net, direction, Drives, Reads}
use Rattle.netlist_model.specs.Cones.{InCone, itself, behind, FlopReads}
use Rattle.netlist_model.specs.Formed.{width_of, IsLaidOut, IsDriven, FeedsBelow, IsWellFormed}
use Rattle.netlist_model.specs.Example.{scalar_port, net_feed, plain_cell, example, ExampleIsFormed}

abbrev flop_cell : CellView
flop_cell = plain_cell (Flop (record { edge = Rise; reset = Nothing })) (net_feed 3 ∷ net_feed 0 ∷ []) 4

abbrev bufif_cell : CellView
bufif_cell = plain_cell Bufif1 (net_feed 4 ∷ net_feed 1 ∷ []) 3

abbrev xor_cell : CellView
xor_cell = plain_cell Xor (net_feed 3 ∷ net_feed 4 ∷ []) 2

-- the cells by their numbers
data StandsAt : ℕ → CellView → Type 0 where
  first : StandsAt 0 flop_cell
  second : StandsAt 1 bufif_cell
  third : StandsAt 2 xor_cell

stands_at : (i : ℕ) (cell : CellView) → cell_at example i ≡ Some cell → StandsAt i cell
stands_at zero cell e = let same : flop_cell ≡ cell = cc in rw (← same) first
stands_at (suc zero) cell e = let same : bufif_cell ≡ cell = cc in rw (← same) second
stands_at (suc (suc zero)) cell e = let same : xor_cell ≡ cell = cc in rw (← same) third
stands_at (suc (suc (suc i))) cell e = absurd (let h : None ≡ Some cell = e in cc)

-- what drives what
data DrivesAt : ℕ → CellView → ℕ → Type 0 where
  flop_drives : DrivesAt 0 flop_cell 4
  bufif_drives : DrivesAt 1 bufif_cell 3
  xor_drives : DrivesAt 2 xor_cell 2

pub output_net : (a b : ℕ) → (let wrap : ℕ → Option NetId = λ n. Some (record { 0 = n }) in wrap a ≡ wrap b) → a ≡ b
output_net a b e =
    let x : NetId = record { 0 = a } in
    let y : NetId = record { 0 = b } in
    let same : x ≡ y = cc in
    let number : NetId → ℕ = λ n. n.0 in
    ap number same

drives_of : (i : ℕ) (cell : CellView) (net : ℕ) → StandsAt i cell → cell.output ≡ Some (record { 0 = net }) → DrivesAt i cell net
drives_of i cell net first e = rw (← (output_net 4 net e)) flop_drives
drives_of i cell net second e = rw (← (output_net 3 net e)) bufif_drives
drives_of i cell net third e = rw (← (output_net 2 net e)) xor_drives

drives_at : (i : ℕ) (cell : CellView) (net : ℕ) → Drives example i cell net → DrivesAt i cell net
drives_at i cell net d = drives_of i cell net (stands_at i cell d.live) d.output

-- what reads what
data ReadsAt : ℕ → CellView → ℕ → ℕ → Type 0 where
  flop_data : ReadsAt 0 flop_cell 0 3
  flop_clock : ReadsAt 0 flop_cell 1 0
  bufif_data : ReadsAt 1 bufif_cell 0 4
  bufif_control : ReadsAt 1 bufif_cell 1 1
  xor_left : ReadsAt 2 xor_cell 0 3
  xor_right : ReadsAt 2 xor_cell 1 4

feed_net : (a b : ℕ) → (let wrap : ℕ → Option Feed = λ n. Some (net_feed n) in wrap a ≡ wrap b) → a ≡ b
feed_net a b e =
    let x : NetId = record { 0 = a } in
    let y : NetId = record { 0 = b } in
    let same : x ≡ y = cc in
    let number : NetId → ℕ = λ n. n.0 in
    ap number same

reads_of : (i : ℕ) (cell : CellView) (place net : ℕ) → StandsAt i cell → slice_get cell.feeds place ≡ Some (Net (record { 0 = net })) → ReadsAt i cell place net
reads_of i cell zero net first e = rw (← (feed_net 3 net e)) flop_data
reads_of i cell (suc zero) net first e = rw (← (feed_net 0 net e)) flop_clock
reads_of i cell (suc (suc place)) net first e = absurd (let h : None ≡ Some (net_feed net) = e in cc)
reads_of i cell zero net second e = rw (← (feed_net 4 net e)) bufif_data
reads_of i cell (suc zero) net second e = rw (← (feed_net 1 net e)) bufif_control
reads_of i cell (suc (suc place)) net second e = absurd (let h : None ≡ Some (net_feed net) = e in cc)
reads_of i cell zero net third e = rw (← (feed_net 3 net e)) xor_left
reads_of i cell (suc zero) net third e = rw (← (feed_net 4 net e)) xor_right
reads_of i cell (suc (suc place)) net third e = absurd (let h : None ≡ Some (net_feed net) = e in cc)

reads_at : (i : ℕ) (cell : CellView) (place net : ℕ) → Reads example i cell place net → ReadsAt i cell place net
reads_at i cell place net r = reads_of i cell place net (stands_at i cell r.live) r.operand

-- the bits of ports: port p is net p
bit_is : (p j : ℕ) (net : NetId) → bit_net example p j ≡ Some net → (net.0 ≡ p) × (j ≡ 0) × (p < 4)
bit_is zero zero net e = let number : NetId → ℕ = λ n. n.0 in let x : NetId = record { 0 = 0 } in let same : x ≡ net = cc in (sym (ap number same), refl, omega arith)
bit_is (suc zero) zero net e = let number : NetId → ℕ = λ n. n.0 in let x : NetId = record { 0 = 1 } in let same : x ≡ net = cc in (sym (ap number same), refl, omega arith)
bit_is (suc (suc zero)) zero net e = let number : NetId → ℕ = λ n. n.0 in let x : NetId = record { 0 = 2 } in let same : x ≡ net = cc in (sym (ap number same), refl, omega arith)
bit_is (suc (suc (suc zero))) zero net e = let number : NetId → ℕ = λ n. n.0 in let x : NetId = record { 0 = 3 } in let same : x ≡ net = cc in (sym (ap number same), refl, omega arith)
bit_is zero (suc j) net e = absurd (let h : None ≡ Some net = e in cc)
bit_is (suc zero) (suc j) net e = absurd (let h : None ≡ Some net = e in cc)
bit_is (suc (suc zero)) (suc j) net e = absurd (let h : None ≡ Some net = e in cc)
bit_is (suc (suc (suc zero))) (suc j) net e = absurd (let h : None ≡ Some net = e in cc)
bit_is (suc (suc (suc (suc p)))) j net e = absurd (let h : None ≡ Some net = e in cc)

-- a net of this direction is this one
output_is : (net : ℕ) → direction example.ports net ≡ Some Output → net ≡ 2
output_is net e = grind (arith, eqb_tells 0 net, eqb_tells 1 net, eqb_tells 2 net, eqb_tells 3 net)

inout_is : (net : ℕ) → direction example.ports net ≡ Some Inout → net ≡ 3
inout_is net e = grind (arith, eqb_tells 0 net, eqb_tells 1 net, eqb_tells 2 net, eqb_tells 3 net)

-- each cell drives the net whose number is four less its own
sum_is_four : (i : ℕ) (cell : CellView) (net : ℕ) → DrivesAt i cell net → (i + net ≡ 4) × (i < 3)
sum_is_four i cell net flop_drives = (refl, omega arith)
sum_is_four i cell net bufif_drives = (refl, omega arith)
sum_is_four i cell net xor_drives = (refl, omega arith)

count_taken : (i : ℕ) (cell : CellView) → StandsAt i cell → Takes [] cell.kind (length cell.feeds)
count_taken i cell first = refl
count_taken i cell second = refl
count_taken i cell third = (omega arith, omega arith)

input_free : (i : ℕ) (cell : CellView) (net : ℕ) → DrivesAt i cell net → direction example.ports net ≢ Some Input
input_free i cell net flop_drives e = absurd (let h : None ≡ Some Input = e in cc)
input_free i cell net bufif_drives e = absurd (let h : Some Inout ≡ Some Input = e in cc)
input_free i cell net xor_drives e = absurd (let h : Some Output ≡ Some Input = e in cc)

driven_by_flop : IsDriven example 4
driven_by_flop = record { number = 0; cell = flop_cell; drives = record { live = refl; output = refl } }

driven_by_bufif : IsDriven example 3
driven_by_bufif = record { number = 1; cell = bufif_cell; drives = record { live = refl; output = refl } }

driven_by_xor : IsDriven example 2
driven_by_xor = record { number = 2; cell = xor_cell; drives = record { live = refl; output = refl } }

wire_driven : (i : ℕ) (cell : CellView) (place net : ℕ) → ReadsAt i cell place net → direction example.ports net ≡ None → IsDriven example net
wire_driven i cell place net flop_data e = driven_by_bufif
wire_driven i cell place net flop_clock e = absurd (let h : Some Input ≡ None = e in cc)
wire_driven i cell place net bufif_data e = driven_by_flop
wire_driven i cell place net bufif_control e = absurd (let h : Some Input ≡ None = e in cc)
wire_driven i cell place net xor_left e = driven_by_bufif
wire_driven i cell place net xor_right e = driven_by_flop

bufif_is_outside : (i : ℕ) (cell : CellView) (net : ℕ) → DrivesAt i cell net → is_three_state cell.kind ≡ true
    → (direction example.ports net ≡ Some Output) ⊎ (direction example.ports net ≡ Some Inout)
bufif_is_outside i cell net flop_drives e = absurd (let h : false ≡ true = e in cc)
bufif_is_outside i cell net bufif_drives e = inr refl
bufif_is_outside i cell net xor_drives e = absurd (let h : false ≡ true = e in cc)

inout_has_bufif : (i : ℕ) (cell : CellView) (net : ℕ) → DrivesAt i cell net → direction example.ports net ≡ Some Inout → is_three_state cell.kind ≡ true
inout_has_bufif i cell net flop_drives e = absurd (let h : None ≡ Some Inout = e in cc)
inout_has_bufif i cell net bufif_drives e = refl
inout_has_bufif i cell net xor_drives e = absurd (let h : Some Output ≡ Some Inout = e in cc)

bufif_not_read : (i : ℕ) (cell : CellView) (net : ℕ) → DrivesAt i cell net → is_three_state cell.kind ≡ true → direction example.ports net ≢ Some Output
bufif_not_read i cell net flop_drives h e = absurd (let k : false ≡ true = h in cc)
bufif_not_read i cell net bufif_drives h e = absurd (let k : Some Inout ≡ Some Output = e in cc)
bufif_not_read i cell net xor_drives h e = absurd (let k : false ≡ true = h in cc)

read_below : (i : ℕ) (cell : CellView) (place net : ℕ) → ReadsAt i cell place net → net < length example.nets
read_below i cell place net flop_data = omega arith
read_below i cell place net flop_clock = omega arith
read_below i cell place net bufif_data = omega arith
read_below i cell place net bufif_control = omega arith
read_below i cell place net xor_left = omega arith
read_below i cell place net xor_right = omega arith

-- each port is a scalar with one net
width_is : (p : ℕ) (port : PortView) → slice_get example.ports p ≡ Some port → length port.nets ≡ width_of port.range
width_is zero port e = let x = scalar_port 0 Input 0 in let same : x ≡ port = cc in rw (← same) refl
width_is (suc zero) port e = let x = scalar_port 1 Input 1 in let same : x ≡ port = cc in rw (← same) refl
width_is (suc (suc zero)) port e = let x = scalar_port 2 Output 2 in let same : x ≡ port = cc in rw (← same) refl
width_is (suc (suc (suc zero))) port e = let x = scalar_port 3 Inout 3 in let same : x ≡ port = cc in rw (← same) refl
width_is (suc (suc (suc (suc p)))) port e = absurd (let h : None ≡ Some port = e in cc)

-- the inout stands above the flip-flop's net, and the output above both
abbrev example_rank : ℕ → ℕ
example_rank net = if net == 2 then 2 else (if net == 3 then 1 else 0)

gate_numbered : (i : ℕ) (cell : CellView) (net : ℕ) → DrivesAt i cell net → is_flop [] cell.kind ≡ false → FeedsBelow example_rank cell.feeds (example_rank net)
gate_numbered i cell net flop_drives gate = absurd (let h : true ≡ false = gate in cc)
gate_numbered i cell net bufif_drives gate = (omega arith, (omega arith, tt))
gate_numbered i cell net xor_drives gate = (omega arith, (omega arith, tt))

-- the one clock is net 0, and nothing is cleared or preset
clock_is : (i : ℕ) (cell : CellView) (net : ℕ) (kind : FlopKind) → ReadsAt i cell 1 net → flop_of [] cell.kind ≡ Some kind → net ≡ 0
clock_is i cell net kind flop_clock e = refl
clock_is i cell net kind bufif_control e = absurd (let h : None ≡ Some kind = e in cc)
clock_is i cell net kind xor_right e = absurd (let h : None ≡ Some kind = e in cc)

no_reset : (i : ℕ) (cell : CellView) (net : ℕ) → ReadsAt i cell 2 net → ⊥
no_reset i cell net r = elim r [ ]

root_is : (root : ℕ) → FlopReads example 1 root ⊎ FlopReads example 2 root → root ≡ 0
root_is root (inl f) = clock_is f.number f.cell root f.kind (reads_at f.number f.cell 1 root f.reads) f.flop
root_is root (inr f) = absurd (no_reset f.number f.cell root (reads_at f.number f.cell 2 root f.reads))

-- its cone is itself
cone_is : (root net : ℕ) → root ≡ 0 → InCone example root net → net ≡ 0
cone_is root net e itself = e
cone_is root net e (behind {net = last} back g) =
    let there : last ≡ 0 = cone_is root last e back in
    let sum = sum_is_four g.number g.cell last (drives_at g.number g.cell last g.drives) in
    absurd (omega arith)

pub example_is_formed : ExampleIsFormed
example_is_formed = (laid_out, formed)
  where
    laid_out : IsLaidOut example
    laid_out = record {
      widths = width_is;
      port_nets = λ p bit net e. let h = bit_is p bit net e in omega arith;
      operands = λ i cell place net r. read_below i cell place net (reads_at i cell place net r);
      outputs = λ i cell net d. let h = sum_is_four i cell net (drives_at i cell net d) in omega arith;
    }

    formed : IsWellFormed example
    formed = record {
      counts = λ i cell e. count_taken i cell (stands_at i cell e);
      bits_apart = λ p q j k net e f. let h = bit_is p j net e in let g = bit_is q k net f in (omega arith, omega arith);
      inputs_free = λ i cell net d. input_free i cell net (drives_at i cell net d);
      one_driver = λ i j cell other net d e.
          let h = sum_is_four i cell net (drives_at i cell net d) in
          let g = sum_is_four j other net (drives_at j other net e) in
          omega arith;
      outputs_driven = λ net e. let P : ℕ → Type 0 = λ n. IsDriven example n in subst P (sym (output_is net e)) driven_by_xor;
      inouts_driven = λ net e. let P : ℕ → Type 0 = λ n. IsDriven example n in subst P (sym (inout_is net e)) driven_by_bufif;
      read_driven = λ i cell place net r e. wire_driven i cell place net (reads_at i cell place net r) e;
      bufif_outside = λ i cell net d h. bufif_is_outside i cell net (drives_at i cell net d) h;
      inout_bufif = λ i cell net d h. inout_has_bufif i cell net (drives_at i cell net d) h;
      bufif_unread = λ i j cell other place net d h r. bufif_not_read i cell net (drives_at i cell net d) h;
      ordered = (example_rank, record { gates = λ i cell net d gate. gate_numbered i cell net (drives_at i cell net d) gate });
      cones = λ net c. inl (rw (cone_is c.root net (root_is c.root c.operand) c.cone) refl);
    }
