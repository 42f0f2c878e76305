use Rattle.std.proofs.Common.{take, ap}
use Rattle.std.specs.List.{flat_map}
use Rattle.hier_model.specs.Walks.{texts, turn_of}
use Rattle.hier_model.specs.Entries.{turn_places}
use Rattle.hier_flatten.specs.NameChecks.{place_checks, checks_at}
use Rattle.hier_flatten.proofs.EnterLaws.{of_equal}
use Rattle.hier_flatten.proofs.FlatLaws.{opened_are}
use Rattle.hier_flatten.proofs.name_checks.enter_opened.Goals as goal

pub returns-in-Opens : goal.returns-in-Opens
returns-in-Opens c =
    let path = texts c.args.path.now in
    let turn = turn_of c.args.step.turn in
    of_equal c.args.seen.now c.enter_nets.new.seen (place_checks path c.in-Opens.child.now) (flat_map checks_at (turn_places (take c.args.step.depth path) turn)) c.enter_nets.result
    (opened_are checks_at path c.args.step.depth turn _ c.in-Opens.child.now c.requires (ap turn_of c.in-Opens.is)) c.enter_nets.ensures
