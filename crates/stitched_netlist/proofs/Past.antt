-- Past all nets that cells drive and ports have there is none that they do.
use Rattle.std.proofs.Common.{◌≡◌, ℕ, zero, suc, ◌==◌, ◌<◌, ◌≤◌, false, List, [], ◌∷◌, refl, ap, ◌∙◌, Option, Some, None, arith}
use Rattle.std.specs.Prelude.{slice_get}
use Rattle.list_laws.proofs.Numbers.{eqb_less}
use Rattle.netlist_model.specs.declared.NetId.{NetId}
use Rattle.netlist_model.specs.Lists.{PortView, CellView, NetlistView, live_cell, is_among, direction, IsUndriven}
use Rattle.stitched_netlist.specs.Inner.{past_output, past_cells, past_bits, past_ports, past_nets}

output_below : (o : Option NetId) (net : ℕ) → o ≡ Some (record { 0 = net }) → net < past_output o
output_below None net e = absurd (cc)
output_below (Some n) net e = let id : NetId = record { 0 = net } in let same : n ≡ id = cc in let number : n.0 ≡ net = ap (λ (x : NetId). x.0) same in omega arith

driven_below : (places : List (Option CellView)) (i : ℕ) (cell : CellView) (net : ℕ) → live_cell (slice_get places i) ≡ Some cell → cell.output ≡ Some (record { 0 = net }) → net < past_cells places
driven_below [] i cell net live out = absurd (cc)
driven_below (None ∷ places) zero cell net live out = absurd (cc)
driven_below (None ∷ places) (suc i) cell net live out = driven_below places i cell net live out
driven_below (Some c ∷ places) zero cell net live out =
    let same : c ≡ cell = cc in
    let low : net < past_output c.output = output_below c.output net (ap (λ (x : CellView). x.output) same ∙ out) in
    omega arith
driven_below (Some c ∷ places) (suc i) cell net live out = let low : net < past_cells places = driven_below places i cell net live out in omega arith

pub past_undriven : (M : NetlistView) (net : ℕ) → past_nets M ≤ net → IsUndriven M net
past_undriven M net past i cell live out = let low : net < past_cells M.cells = driven_below M.cells i cell net live out in absurd (omega arith)

not_among : (nets : List NetId) (net : ℕ) → past_bits nets ≤ net → is_among net nets ≡ false
not_among [] net past = refl
not_among (n ∷ nets) net past =
    let first : (n.0 == net) ≡ false = eqb_less n.0 net (omega arith) in
    let rest : is_among net nets ≡ false = not_among nets net (omega arith) in
    rw (first, rest) refl

pub past_inside : (ports : List PortView) (net : ℕ) → past_ports ports ≤ net → direction ports net ≡ None
past_inside [] net past = refl
past_inside (port ∷ ports) net past =
    let first : is_among net port.nets ≡ false = not_among port.nets net (omega arith) in
    rw first (past_inside ports net (omega arith))
