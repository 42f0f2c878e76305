-- All of it.
use Rattle.netlist_model.specs.Lists.{NetlistView}
use Rattle.netlist_model.specs.Ports.{DirectionHasBit}
use Rattle.plan_fitting.specs.declared.fitted.Fitted.{Fitted}
use Rattle.plan_fitting.specs.Devices.{fitted_of}
use Rattle.stitched_netlist.specs.declared.model.TapNames.{TapNames}
use Rattle.stitched_netlist.specs.Stitched.{stitched}
use Rattle.stitched_netlist.specs.RanksLaws.{StitchedIsOrdered, StitchedHasCones}
use Rattle.stitched_netlist.specs.RowsLaws.{RowsStandSomewhere, RowsStandOnce, NetsHaveRows}
use Rattle.stitched_netlist.specs.FormedLaws.{HasDrivers, StitchedHasDrivers, StitchedIsFormed}
use Rattle.stitched_netlist.proofs.FormedContext.{FitsWell, fits_well}
use Rattle.stitched_netlist.proofs.FormedBits.{bits_apart}
use Rattle.stitched_netlist.proofs.OneDriver.{one_driver_of}
use Rattle.stitched_netlist.proofs.Laid.{driver_in, takes_in}
use Rattle.stitched_netlist.proofs.Bufifs.{inputs_free, inout_bufif, bufif_outside}
use Rattle.stitched_netlist.proofs.Readers.{read_driven, bufif_unread, outputs_driven, inouts_driven}

has_drivers_of : DirectionHasBit → (N : NetlistView) (names : TapNames) (f : Fitted) → FitsWell N f → HasDrivers (stitched N names f)
has_drivers_of law N names f well = record {
  counts = λ i cell live. takes_in N names f well i cell live;
  bits_apart = λ p q j k net a b. bits_apart N names f well p q j k net a b;
  inputs_free = λ i cell net d e. inputs_free law N names f well i cell net d e;
  one_driver = λ i j cell other net a b. one_driver_of N f well i j net cell other (driver_in N names f well i cell net a) (driver_in N names f well j other net b);
  outputs_driven = λ net e. outputs_driven law N names f well net e;
  inouts_driven = λ net e. inouts_driven law N names f well net e;
  read_driven = λ i cell place net r e. read_driven law N names f well i cell place net r e;
  bufif_outside = λ i cell net d three. bufif_outside law N names f well i cell net d three;
  inout_bufif = λ i cell net d e. inout_bufif law N names f well i cell net d e;
  bufif_unread = λ i j cell other place net d three r e. bufif_unread law N names f well i j cell other place net d three r e;
}

pub has_drivers : RowsStandSomewhere → RowsStandOnce → NetsHaveRows → DirectionHasBit → StitchedHasDrivers
has_drivers stand once has law L p seen names fits laid dense =
    has_drivers_of law L.arena.lists names (fitted_of L p seen) (fits_well stand once has law L p seen fits laid dense)

pub formed : StitchedHasDrivers → StitchedIsOrdered → StitchedHasCones → StitchedIsFormed
formed drivers order cones L p seen names fits laid dense =
    let d = drivers L p seen names fits laid dense in
    record {
      counts = d.counts;
      bits_apart = d.bits_apart;
      inputs_free = d.inputs_free;
      one_driver = d.one_driver;
      outputs_driven = d.outputs_driven;
      inouts_driven = d.inouts_driven;
      read_driven = d.read_driven;
      bufif_outside = d.bufif_outside;
      inout_bufif = d.inout_bufif;
      bufif_unread = d.bufif_unread;
      ordered = order L p seen names fits laid dense;
      cones = λ net control. cones L p seen names fits laid dense net control;
    }
