use Rattle.plan_fitting.specs.Devices.{device_of}
use Rattle.status_gates.specs.Realises.{register_lengths, status_home_tdo}
use Rattle.status_stitch.proofs.realised.status_is_alone_from_home.Goals as goal

pub returns : goal.returns
returns c = λ L p seen M registers fits.
    c.home_is_alone_by.ensures M (device_of L p seen) L.arena.lists (register_lengths registers) (status_home_tdo registers (device_of L p seen)) fits.formed
    (c.plans_suit_netlists.ensures L p seen fits)
