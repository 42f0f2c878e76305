use Rattle.plan_fitting.specs.Devices.{device_of}
use Rattle.program_runs.proofs.fitting_plans_meet_programs.Goals as goal

pub returns : goal.returns
returns c = λ M L p seen fits realises.
    c.netlist_meets_program.ensures M (device_of L p seen) L.arena.lists fits.formed (c.plans_suit_netlists.ensures L p seen fits) (c.plans_stand_around.ensures L p seen fits) realises
