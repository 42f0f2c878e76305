-- Moments that are the same read the same, and so do those that follow by one event.
use Rattle.std.proofs.Common.{◌≡◌, ℕ, List, Option, Some, None, refl, ◌∙◌, ap}
use Rattle.signal_values.specs.declared.Sig.{Sig}
use Rattle.signal_values.specs.declared.PinSig.{PinSig}
use Rattle.signal_values.specs.Values.{pin_of, join}
use Rattle.netlist_model.specs.declared.Dir.{Dir}
use Rattle.netlist_model.specs.declared.Dir.TheVariants.{Input, Output, Inout}
use Rattle.netlist_model.specs.Lists.{CellView, NetlistView, direction}
use Rattle.netlist_model.specs.Settled.{feed_values, driver_of, drive_by, cell_drive}
use Rattle.netlist_model.specs.Readings.{reading_of}
use Rattle.netlist_model.specs.Runs.{Moment, reading_at}
use Rattle.netlist_model.specs.LawsRuns.{SameMoment}
use Rattle.netlist_model.proofs.Once.{feed_values_same}

drive_same : (driver : Option CellView) (v v' : ℕ → Sig) (net : ℕ) → ((n : ℕ) → v n ≡ v' n) → drive_by driver v net ≡ drive_by driver v' net
drive_same None v v' net same = ap pin_of (same net)
drive_same (Some cell) v v' net same =
    let inputs : feed_values v cell.feeds ≡ feed_values v' cell.feeds = feed_values_same v v' cell.feeds (λ k n at. same n) in
    ap (λ (xs : List Sig). cell_drive cell.kind xs (v net)) inputs ∙ ap (λ (x : Sig). cell_drive cell.kind (feed_values v' cell.feeds) x) (same net)

-- the reading of a net
pub reading_same : (N : NetlistView) (m m' : Moment) → SameMoment N m m' → (net : ℕ) → reading_at N m net ≡ reading_at N m' net
reading_same N m m' same net = go (direction N.ports net) refl
  where
    own : drive_by (driver_of N.cells net) m.value net ≡ drive_by (driver_of N.cells net) m'.value net
    own = drive_same (driver_of N.cells net) m.value m'.value net same.value

    go : (dir : Option Dir) → direction N.ports net ≡ dir
        → reading_of dir (drive_by (driver_of N.cells net) m.value net) (m.pins net) ≡ reading_of dir (drive_by (driver_of N.cells net) m'.value net) (m'.pins net)
    go (Some Input) is = same.pins net (rw is refl)
    go (Some Inout) is = ap (λ (x : PinSig). join x (m.pins net)) own ∙ ap (λ (x : PinSig). join (drive_by (driver_of N.cells net) m'.value net) x) (same.pins net (rw is refl))
    go (Some Output) is = own
    go None is = own
