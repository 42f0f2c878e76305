-- Rows by the nets of their bits.
use Rattle.std.proofs.Common.{◌≡◌, inl, inr, ℕ, ◌+◌, ◌<◌, ◌≤◌, true, List, length, slice_get, Option, Some, None, refl, sym, ap, ◌∙◌, arith}
use Rattle.std.specs.Prelude.{option_and_then}
use Rattle.std.proofs.lemmas.Bool.{cases_lt, le-leb, lt-ltb}
use Rattle.std.proofs.lemmas.Option.{slice_get_within}
use Rattle.list_laws.proofs.Options.{some_same}
use Rattle.list_laws.proofs.Tests.{and_true}
use Rattle.netlist_model.specs.declared.Dir.{Dir}
use Rattle.netlist_model.specs.declared.Dir.TheVariants.{Inout}
use Rattle.netlist_model.specs.declared.NetId.{NetId}
use Rattle.netlist_model.specs.declared.PinBit.{PinBit}
use Rattle.netlist_model.specs.Lists.{PortView, bit_net, direction}
use Rattle.netlist_model.specs.Drivers.{DriverIsFound}
use Rattle.netlist_model.specs.Ports.{IsBitOf, DirectionHasBit}
use Rattle.plan_fitting.specs.netlist_link.Linked.{LinkedView, is_straight}
use Rattle.wrapped_chip.specs.Cells.{Numbered, row_of}
use Rattle.plan_texts.specs.declared.plan.Plan.{Plan}
use Rattle.plan_fitting.specs.declared.fitted.FitRow.{FitRow}
use Rattle.plan_fitting.specs.Pins.{PinSeen}
use Rattle.plan_fitting.specs.Rows.{rows}
use Rattle.plan_fitting.specs.Devices.{fitted_of, cell_row, device_of}
use Rattle.plan_fitting.specs.FittingPlan.{IsFitting}
use Rattle.plan_fitting.specs.DevicesLaws.{RowsStandAtBits, BitsHaveRows, HiddenBitsHaveNone}
use Rattle.stitched_netlist.specs.Sites.{pin_net, row_net}
use Rattle.stitched_netlist.specs.RowsLaws.{RowsStandOnce, IsHiddenNet, NetsHaveRows}

-- the bit of a row with a net
pin_of : (ports : List PortView) (pin : Option PinBit) (net : NetId) → option_and_then (pin_net ports) pin ≡ Some net → (x : PinBit) × (pin ≡ Some x) × (pin_net ports x ≡ Some net)
pin_of ports None net h = absurd (cc)
pin_of ports (Some x) net h = (x, refl, h)

-- the row that a net is found to have
pub found_at : RowsStandAtBits → (L : LinkedView) (p : Plan) (seen : List PinSeen) → IsFitting L p seen → (k : ℕ) (row : FitRow) (net : NetId) → slice_get (rows p seen) k ≡ Some row
    → row_net L.arena.lists.ports row ≡ Some net → row_of (device_of L p seen) L.arena.lists net.0 ≡ Some (record { number = k; row = cell_row (fitted_of L p seen) row })
found_at stands L p seen fits k row net there at =
    let pin = pin_of L.arena.lists.ports row.pin net at in
    let is = stands L p seen fits k row pin.0 there pin.1 in
    let same : is.net ≡ net = some_same is.net net (bit_net L.arena.lists pin.0.port.0 pin.0.bit) is.at pin.2 in
    ap (λ (n : NetId). row_of (device_of L p seen) L.arena.lists n.0) (sym same) ∙ is.found

pub once : RowsStandAtBits → RowsStandOnce
once stands L p seen fits j k one other net a b c d =
    let f = found_at stands L p seen fits j one net a c in
    let g = found_at stands L p seen fits k other net b d in
    ap (λ (r : Numbered). r.number) (some_same _ _ (row_of (device_of L p seen) L.arena.lists net.0) f g)

-- no port stands behind the hidden ones
past_is_hidden : (L : LinkedView) (p : Plan) (seen : List PinSeen) → IsFitting L p seen → (number : ℕ) → L.straight.first ≤ number → number < length L.arena.lists.ports → is_straight L number ≡ true
past_is_hidden L p seen fits number past low =
    let ends : L.straight.first + L.straight.count ≡ length L.arena.lists.ports = fits.ends in
    and_true _ _ (le-leb L.straight.first number past) (lt-ltb number (L.straight.first + L.straight.count) (omega (arith, ends, low)))

both_ways : (o : Option Dir) (one other side : Dir) → one ≡ other → o ≡ Some other → o ≡ Some side → one ≡ side
both_ways o one other side same e f = let here : other ≡ side = some_same other side o e f in same ∙ here

-- a net of a port that isn't the netlist's own
hidden_net : DriverIsFound → HiddenBitsHaveNone → RowsStandAtBits → (L : LinkedView) (p : Plan) (seen : List PinSeen) → IsFitting L p seen → (net : NetId) (dir : Dir)
    → direction L.arena.lists.ports net.0 ≡ Some dir → (b : IsBitOf L.arena.lists dir net) → L.straight.first ≤ b.number → IsHiddenNet L (fitted_of L p seen) net.0
hidden_net found none stands L p seen fits net dir e b past =
    let N = L.arena.lists in
    let at : bit_net N b.number b.bit ≡ Some net = ap (option_and_then (λ (q : PortView). slice_get q.nets b.bit)) b.stands ∙ b.has in
    let hidden = past_is_hidden L p seen fits b.number past (slice_get_within N.ports b.number b.port b.stands) in
    let straight = fits.straight b.number b.bit b.port net hidden b.stands b.has in
    record {
      number = b.number;
      bit = b.bit;
      hidden = hidden;
      at = at;
      straight = record {
        none = λ k row there on.
            let bad : None ≡ Some _ = sym (none L p seen fits b.number b.bit net past at) ∙ found_at stands L p seen fits k row net there on in cc;
        way = λ inout. straight.side (both_ways (direction N.ports net.0) b.port.dir dir Inout b.same e inout);
        plain = λ i cell drives. straight.plain cell (found N fits.formed.one_driver i cell net.0 drives);
      };
    }

pub each_has : DirectionHasBit → DriverIsFound → RowsStandAtBits → BitsHaveRows → HiddenBitsHaveNone → NetsHaveRows
each_has law found stands has none L p seen fits net dir e =
    let N = L.arena.lists in
    let id : NetId = record { 0 = net } in
    let b = law N dir id e in
    let at : bit_net N b.number b.bit ≡ Some id = ap (option_and_then (λ (q : PortView). slice_get q.nets b.bit)) b.stands ∙ b.has in
    elim (cases_lt b.number L.straight.first) [
      | inl own ↦ (let row = has L p seen fits b.number b.bit id own at in
          inl (record { number = row.number; row = row.row; there = row.there; at = ap (option_and_then (pin_net N.ports)) row.at ∙ at }))
      | inr past ↦ inr (hidden_net found none stands L p seen fits id dir e b past)
    ]
