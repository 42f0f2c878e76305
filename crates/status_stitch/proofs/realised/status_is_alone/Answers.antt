use Rattle.plan_fitting.specs.Devices.{device_of}
use Rattle.status_gates.specs.Realises.{status_tdo}
use Rattle.status_stitch.proofs.realised.status_is_alone.Goals as goal

pub returns : goal.returns
returns c = λ L p seen names M registers fits laid dense own has.
    c.realising_is_being_alone.ensures M (device_of L p seen) L.arena.lists (status_tdo registers (device_of L p seen)) fits.formed (c.plans_suit_netlists.ensures L p seen fits)
    (c.status_realises.ensures L p seen names M registers fits laid dense own has)
