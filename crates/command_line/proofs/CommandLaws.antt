-- What comes of a command, from what came of the task that it is.
use Rattle.std.proofs.Common.{◌≡◌, Result, sym, subst}
use Rattle.command_faults.specs.declared.fault.Fault.{Fault}
use Rattle.command_faults.specs.declared.status.Status.{Status}
use Rattle.command_edges.specs.Seen.{ShelfSeen, SinkSeen}
use Rattle.command_line.specs.declared.command.Command.{Command}
use Rattle.command_line.specs.Outcomes.{CameTo}
use Rattle.command_line.specs.Parsed.{form_of}
use Rattle.command_line.specs.Tasks.{task_of}

pub came_as : (command other : Command) (shelf : ShelfSeen) (sink : SinkSeen) (r : Result Status Fault) → command ≡ other → CameTo (task_of (form_of other)) shelf sink r
    → CameTo (task_of (form_of command)) shelf sink r
came_as command other shelf sink r same came = subst (λ (c : Command). CameTo (task_of (form_of c)) shelf sink r) (sym same) came
