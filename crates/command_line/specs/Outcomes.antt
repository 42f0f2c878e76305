-- What comes of a task, whose outputs may have the name of another of its files. Own.
use Rattle.std.specs.Prelude.{◌≡◌, ℕ, ◌⊎◌, List, Result, Err, IfErr, IfOk}
use Rattle.std.specs.Borrow.{Bor}
use Rattle.command_faults.specs.declared.fault.Fault.{Fault}
use Rattle.command_faults.specs.declared.fault.Fault.TheVariants as fault
use Rattle.command_faults.specs.declared.status.Status.{Status}
use Rattle.command_faults.specs.Statuses.{status_of}
use Rattle.command_edges.specs.Ends.{IsEnd}
use Rattle.command_edges.specs.Names.{IsOneOf}
use Rattle.command_edges.specs.Seen.{ShelfSeen, SinkSeen}
use Rattle.command_edges.specs.Tasks.{Task, Completes, Finishes, Keeps, Stands}
use Rattle.command_line.specs.Names.{AreApart, IsRepeated}

-- An output has the name of another file, and is the first that has; nothing was done.
pub record SharesName (t : Task) (shelf : ShelfSeen) (sink : SinkSeen) (r : Result Status Fault) : Type 0 where
  pub name : Bor (List ℕ)
  pub is : r ≡ Err (fault.SameName name)
  pub repeated : IsRepeated name.now t.reads t.writes
  pub keeps : Keeps (λ other. ⊥) shelf sink
  pub given : sink.given_after ≡ sink.given

-- Each output has a name of its own; the task came to its end, or a fault stands in it.
pub record IsRun (t : Task) (shelf : ShelfSeen) (sink : SinkSeen) (r : Result Status Fault) : Type 0 where
  pub apart : AreApart t.reads t.writes
  pub done : IfOk r (Finishes t shelf sink)
  pub ended : IfOk r IsEnd
  pub stands : IfErr r (λ f. Stands t shelf sink f sink.given_after)
  pub complete : IfErr r (λ f. Completes t shelf sink (status_of f))
  pub keeps : Keeps (λ name. IsOneOf name t.writes) shelf sink

abbrev pub CameTo : Task → ShelfSeen → SinkSeen → Result Status Fault → Type 0
CameTo t shelf sink r = SharesName t shelf sink r ⊎ IsRun t shelf sink r
