-- What a bit reads at rest.
use Rattle.std.proofs.Common.{◌≡◌, ◌⊎◌, ℕ, true, false, List, Option, Some, None, refl, sym, ap, ◌∙◌, inl, inr, if◌then◌else◌}
use Rattle.list_laws.proofs.Tests.{true_or_false}
use Rattle.signal_values.specs.declared.Sig.{Sig}
use Rattle.signal_values.specs.declared.Sig.TheVariants.{Unknown}
use Rattle.signal_values.specs.declared.PinSig.{PinSig}
use Rattle.signal_values.specs.Values.{pin_of}
use Rattle.cell_library.specs.declared.Kind.{Kind}
use Rattle.cell_library.specs.declared.Kind.TheVariants.{Bufif0, Bufif1}
use Rattle.cell_library.specs.Gates.{is_three_state}
use Rattle.netlist_model.specs.Lists.{CellView, NetlistView, direction}
use Rattle.netlist_model.specs.Settled.{feed_values, cell_drive, drive_by, driver_of}
use Rattle.netlist_model.specs.Readings.{reading_of}
use Rattle.netlist_model.specs.Drivers.{IsDriverOf}
use Rattle.netlist_model.proofs.Inside.{driver_drives}
use Rattle.netlist_model.proofs.Pins.{cell_drive-three_state}
use Rattle.event_laws.specs.Work.{IsAtRest, kept_drive}
use Rattle.event_laws.specs.Laws.{RestReads}

pub two_state_drive : (kind : Kind) (inputs : List Sig) (value : Sig) → is_three_state kind ≡ false → cell_drive kind inputs value ≡ pin_of value
two_state_drive Bufif0 inputs value two = absurd (let e : true ≡ false = two in cc)
two_state_drive Bufif1 inputs value two = absurd (let e : true ≡ false = two in cc)
two_state_drive kind inputs value two = refl

pub drive_kept : (N : NetlistView) (pins : ℕ → PinSig) (value state : ℕ → Sig) (drive : ℕ → PinSig) (net : ℕ) → IsAtRest N pins value state drive → (o : Option CellView) → IsDriverOf N net o
    → drive_by o value net ≡ kept_drive o value drive net
drive_kept N pins value state drive net rest None is = refl
drive_kept N pins value state drive net rest (Some cell) is =
    elim (true_or_false (is_three_state cell.kind)) [
      | inl three ↦ (let shown = (rest.done is.0 cell is.1.live).shows net is.1.output three in
          rw three (cell_drive-three_state cell.kind (feed_values value cell.feeds) (value net) Unknown three ∙ sym shown))
      | inr two ↦ rw two (two_state_drive cell.kind (feed_values value cell.feeds) (value net) two)
    ]

pub rest_reads : RestReads
rest_reads N pins value state drive net rest =
    ap (λ (p : PinSig). reading_of (direction N.ports net) p (pins net)) (drive_kept N pins value state drive net rest (driver_of N.cells net) (driver_drives N net))
