-- What is needed of all rows holds of each when its turn comes.
use Rattle.std.proofs.Common.{◌≡◌, ◌≢◌, ℕ, suc, zero, ◌+◌, ◌<◌, ◌≤◌, inl, inr, true, List, [], ◌∷◌, length, take, refl, Option, Some, None, slice_get, arith}
use Rattle.std.specs.Option.{MatchOption}
use Rattle.std.specs.Prelude.{option_and_then}
use Rattle.std.proofs.lemmas.Option.{slice_get_within}
use Rattle.list_laws.proofs.Tests.{never_true}
use Rattle.netlist_model.specs.declared.NetId.{NetId}
use Rattle.netlist_model.specs.declared.PinBit.{PinBit}
use Rattle.netlist_model.specs.declared.Dir.TheVariants.{Input}
use Rattle.netlist_model.specs.Lists.{CellView, NetlistView, bit_net, direction, Drives}
use Rattle.netlist_model.specs.Settled.{is_output}
use Rattle.netlist_model.proofs.Ports.{direction_has_bit}
use Rattle.netlist_arena.specs.Adds.{IsFree}
use Rattle.netlist_arena.proofs.Laid.{All-slice_get}
use Rattle.stitched_netlist.specs.plan_fitting.declared.fitted.FitRow.{FitRow}
use Rattle.stitched_netlist.specs.declared.model.Site.{Site}
use Rattle.stitched_netlist.specs.declared.model.Site.TheVariants as site
use Rattle.stitched_netlist.specs.Sites.{pin_net, row_net, site_of, row_sides, sides_of}
use Rattle.stitched_netlist.specs.Sides.{moves, side_from, drives, level_net}
use Rattle.stitched_netlist.proofs.ModelMoves.{sides_within, moves_some, side_range, side_stays, feeds_none, output_is}
use Rattle.core_sides.specs.Pins.{between}
use Rattle.core_sides.specs.Ready.{IsDrivenAt, IsControlAt, HasControl, CanStandBehind}
use Rattle.core_sides.specs.Steps.{CanStandAt, CanStandBy}
use Rattle.core_sides.proofs.MovesSides.{drives_some}
use Rattle.core_sides.proofs.Behind.{behind_rows, next_side, IsNext, was_driver, still_driven}

-- Rows before.

taken_at : (rows : List FitRow) (k j : ℕ) (row : FitRow) → slice_get (take k rows) j ≡ Some row → (slice_get rows j ≡ Some row) × (j < k)
taken_at [] zero j row at = absurd (cc)
taken_at [] (suc k) j row at = absurd (cc)
taken_at (r ∷ rs) zero j row at = absurd (cc)
taken_at (r ∷ rs) (suc k) zero row at = (at, omega arith)
taken_at (r ∷ rs) (suc k) (suc j) row at =
    let rest = taken_at rs k j row at in (rest.0, omega (arith, rest.1))

-- the bit of a row
row_bit : (N : NetlistView) (row : FitRow) (net : NetId) → row_net N.ports row ≡ Some net → (pin : PinBit) × (bit_net N pin.port.0 pin.bit ≡ Some net)
row_bit N row net e = by row.pin e
  where
    by : (pin : Option PinBit) → option_and_then (pin_net N.ports) pin ≡ Some net → (pin : PinBit) × (bit_net N pin.port.0 pin.bit ≡ Some net)
    by None e = absurd (cc)
    by (Some pin) e = (pin, e)

-- no row before stands at the net
others_apart : (N : NetlistView) (rows : List FitRow) (first : ℕ) → CanStandBehind N rows first → (k : ℕ) (row : FitRow) (net : NetId) → slice_get rows k ≡ Some row
    → row_net N.ports row ≡ Some net → (j : ℕ) (other : FitRow) → slice_get (take k rows) j ≡ Some other → is_output (row_net N.ports other) net.0 ≡ true → ⊥
others_apart N rows first ready k row net at has j other there e =
    let before = taken_at rows k j other there in
    let same = ready.apart j k other row net before.0 at (output_is (row_net N.ports other) net.0 e) has in
    absurd (omega (arith, same, before.1))

pub next : (N : NetlistView) (rows : List FitRow) (first : NetId) → CanStandBehind N rows first.0 → (k : ℕ) (row : FitRow) (net : NetId) → slice_get rows k ≡ Some row
    → row_net N.ports row ≡ Some net → IsNext (between N.ports rows first) (take k rows) net.0
next N rows first ready k row net at has =
    let bit = row_bit N row net has in
    record {
      low = ready.ports_before bit.0.port.0 bit.0.bit net bit.1;
      stays = side_stays N.ports net.0 first.0 (take k rows)
          (λ j other there. never_true (moves N.ports net.0 other) (λ e. others_apart N rows first.0 ready k row net at has j other there (moves_some N.ports net.0 other e).1));
      unfed = feeds_none (between N.ports rows first) net.0 first.0 (take k rows)
          (λ j other there. never_true (drives N.ports net.0 other) (λ e. others_apart N rows first.0 ready k row net at has j other there (drives_some N.ports net.0 other e)));
    }

-- Nets between.

side_there : (N : NetlistView) (rows : List FitRow) (first : NetId) → CanStandBehind N rows first.0 → (k : ℕ) (row : FitRow) → slice_get rows k ≡ Some row → 0 < row_sides N.ports row
    → (next_side (between N.ports rows first) (take k rows)).0 < length N.nets
side_there N rows first ready k row at some =
    let within = sides_within N.ports rows k row at in
    let fits = ready.sides in omega (arith, within, fits, some)

-- no port has it
side_outside : (N : NetlistView) (rows : List FitRow) (first : NetId) → CanStandBehind N rows first.0 → (side : NetId) → first.0 ≤ side.0 → direction N.ports side.0 ≢ Some Input
side_outside N rows first ready side past e =
    let bit = direction_has_bit N Input side e in
    let has : bit_net N bit.number bit.bit ≡ Some side = rw bit.stands bit.has in
    let low = ready.ports_before bit.number bit.bit side has in absurd (omega (arith, low, past))

side_free : (N : NetlistView) (rows : List FitRow) (first : NetId) → CanStandBehind N rows first.0 → (k : ℕ)
    → IsFree (behind_rows (between N.ports rows first) (take k rows) N) (next_side (between N.ports rows first) (take k rows)).0
side_free N rows first ready k = record {
  undriven = λ i cell here drives. undriven (was_driver (between N.ports rows first) N (take k rows) i cell (next_side (between N.ports rows first) (take k rows)).0 (record { live = here; output = drives }));
  outside = side_outside N rows first ready (next_side (between N.ports rows first) (take k rows)) (omega arith);
}
  where
    undriven : {i : ℕ} → (old : CellView) × (was : NetId) × Drives N i old was.0 × (side_from N.ports was.0 first.0 (take k rows) ≡ first.0 + sides_of N.ports (take k rows)) → ⊥
    undriven {i} was =
        let low = ready.outputs_before i was.0 was.1.0 was.2 in
        elim (side_range N.ports was.1.0 first.0 (take k rows)) [
          | inl stays ↦ absurd (omega (arith, low, stays, was.3))
          | inr past ↦ absurd (omega (arith, past.1, was.3))
        ]

-- the level of a control that is there
level_there : (N : NetlistView) (rows : List FitRow) (first : NetId) → CanStandBehind N rows first.0 → (k : ℕ) (row : FitRow) → slice_get rows k ≡ Some row → 0 < row_sides N.ports row
    → (level_net (between N.ports rows first) row).0 < length N.nets
level_there N rows first ready k row at some = by row.control refl (All-slice_get (HasControl rows) rows k row ready.controls at)
  where
    by : (control : Option ℕ) → row.control ≡ control → HasControl rows row → (level_net (between N.ports rows first) row).0 < length N.nets
    by None e has =
        let within = side_there N rows first ready k row at some in rw e (omega (arith, within))
    by (Some number) e has =
        let control : IsControlAt rows number = rw e at has in
        let one : row_sides N.ports control.row ≡ 1 = rw control.does refl in
        let within = sides_within N.ports rows number control.row control.there in
        let fits = ready.sides in rw e (omega (arith, one, within, fits))

-- Each row.

stand_at : (N : NetlistView) (rows : List FitRow) (first : NetId) → CanStandBehind N rows first.0 → (k : ℕ) (row : FitRow) (net : NetId) → slice_get rows k ≡ Some row
    → (at : Site) → site_of N.ports row ≡ at → IsDrivenAt (behind_rows (between N.ports rows first) (take k rows) N) at net.0
    → CanStandAt (behind_rows (between N.ports rows first) (take k rows) N) at (next_side (between N.ports rows first) (take k rows)) (level_net (between N.ports rows first) row) net
stand_at N rows first ready k row net there site.Observed is driven = tt
stand_at N rows first ready k row net there site.Input is driven = side_there N rows first ready k row there (rw is (omega arith))
stand_at N rows first ready k row net there site.Output is driven =
    (record { there = side_there N rows first ready k row there (rw is (omega arith)); free = side_free N rows first ready k }, driven)
stand_at N rows first ready k row net there site.AddedDriver is driven =
    (record { there = side_there N rows first ready k row there (rw is (omega arith)); free = side_free N rows first ready k }, driven)
stand_at N rows first ready k row net there site.Driver is driven =
    (side_there N rows first ready k row there (rw is (omega arith)), level_there N rows first ready k row there (rw is (omega arith)), driven)
stand_at N rows first ready k row net there site.Inout is driven =
    (side_there N rows first ready k row there (rw is (omega arith)), level_there N rows first ready k row there (rw is (omega arith)), driven)
stand_at N rows first ready k row net there site.Control is driven = tt

pub driven_next : (N : NetlistView) (rows : List FitRow) (first : NetId) → CanStandBehind N rows first.0 → (k : ℕ) (row : FitRow) → slice_get rows k ≡ Some row → (net : NetId)
    → row_net N.ports row ≡ Some net → IsDrivenAt (behind_rows (between N.ports rows first) (take k rows) N) (site_of N.ports row) net.0
driven_next N rows first ready k row there net has =
    still_driven (between N.ports rows first) N (take k rows) net.0 (site_of N.ports row) (next N rows first ready k row net there has) (ready.driven k row net there has)

pub row_ready : (N : NetlistView) (rows : List FitRow) (first : NetId) → CanStandBehind N rows first.0 → (k : ℕ) (row : FitRow) → slice_get rows k ≡ Some row
    → CanStandBy (behind_rows (between N.ports rows first) (take k rows) N) (row_net N.ports row) (site_of N.ports row) (next_side (between N.ports rows first) (take k rows))
    (level_net (between N.ports rows first) row)
row_ready N rows first ready k row there = by (row_net N.ports row) refl
  where
    by : (bit : Option NetId) → row_net N.ports row ≡ bit
        → CanStandBy (behind_rows (between N.ports rows first) (take k rows) N) bit (site_of N.ports row) (next_side (between N.ports rows first) (take k rows)) (level_net (between N.ports rows first) row)
    by None has = tt
    by (Some net) has = stand_at N rows first ready k row net there (site_of N.ports row) refl (driven_next N rows first ready k row there net has)

pub control_there : (N : NetlistView) (rows : List FitRow) (first : NetId) → CanStandBehind N rows first.0 → (k : ℕ) (row : FitRow) → slice_get rows k ≡ Some row
    → MatchOption row.control (Unit {0}) (λ number. number < length rows)
control_there N rows first ready k row there = by row.control (All-slice_get (HasControl rows) rows k row ready.controls there)
  where
    by : (control : Option ℕ) → MatchOption control (Unit {0}) (IsControlAt rows) → MatchOption control (Unit {0}) (λ number. number < length rows)
    by None has = tt
    by (Some number) has = slice_get_within rows number has.row has.there
