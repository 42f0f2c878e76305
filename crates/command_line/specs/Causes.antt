-- What the words of a command come to: its end, or the fault that stands, its line and what it leaves. Own.
use Rattle.std.specs.Prelude.{◌≡◌, ℕ, ◌⊎◌, List, take, Option}
use Rattle.edge_io.specs.Shelf.{appended}
use Rattle.command_faults.specs.declared.fault.Fault.{Fault}
use Rattle.command_faults.specs.declared.fault.Fault.TheVariants as fault
use Rattle.command_faults.specs.declared.status.Status.{Status}
use Rattle.command_faults.specs.Lines.{line_of}
use Rattle.command_faults.specs.Statuses.{status_of}
use Rattle.command_edges.specs.Seen.{ShelfSeen, SinkSeen, SinkRose}
use Rattle.command_edges.specs.Tasks as tasks
use Rattle.command_line.specs.Forms.{Form, HasForm, IsNoCommand}
use Rattle.command_line.specs.Names.{Runs, IsRepeated, inputs, outputs}
use Rattle.command_line.specs.Tasks.{task_of}

-- The words are a command, which came to its end with this status.
pub record Finishes (words : List (List ℕ)) (shelf : ShelfSeen) (sink : SinkSeen) (end : Status) : Type 0 where
  pub form : Form
  pub runs : Runs words form
  pub finishes : tasks.Finishes (task_of form) shelf sink end

-- an output of the command has the name of another of its files, and it is the first that has
pub record RepeatsName (words : List (List ℕ)) (name : List ℕ) : Type 0 where
  pub form : Form
  pub has : HasForm words form
  pub repeated : IsRepeated name (inputs form) (outputs form)

-- the fault stands in the words
abbrev pub StandsInWords : List (List ℕ) → Fault → Type 0
StandsInWords words fault.Usage = IsNoCommand words
StandsInWords words (fault.SameName name) = RepeatsName words name.now
StandsInWords words f = ⊥

-- The fault stands in the command that the words are; and so much was given before it.
pub record StandsInCommand (words : List (List ℕ)) (shelf : ShelfSeen) (sink : SinkSeen) (f : Fault) (before : Option (List ℕ)) : Type 0 where
  pub form : Form
  pub runs : Runs words form
  pub stands : tasks.Stands (task_of form) shelf sink f before

-- The fault stands in the words, and nothing was done; or it stands in the command that they are.
abbrev pub Stands : List (List ℕ) → ShelfSeen → SinkSeen → Fault → Option (List ℕ) → Type 0
Stands words shelf sink f before = (StandsInWords words f × tasks.NothingDone shelf sink before) ⊎ StandsInCommand words shelf sink f before

-- What was given goes on with the line; or with its front, where the sink's count rose.
abbrev pub PutsLine : List ℕ → Option (List ℕ) → SinkSeen → Type 0
PutsLine line before sink = (sink.given_after ≡ appended line before)
    ⊎ (SinkRose sink × ((k : ℕ) × (sink.given_after ≡ appended (take k line) before)))

-- A fault with this status stands, and its line is given behind what was given before it.
pub record Fails (words : List (List ℕ)) (shelf : ShelfSeen) (sink : SinkSeen) (end : Status) : Type 0 where
  pub fault : Fault
  pub status_is : status_of fault ≡ end
  pub before : Option (List ℕ)
  pub stands : Stands words shelf sink fault before
  pub line : PutsLine (line_of fault) before sink

-- A refusal with this status, where no fault stands in the words and in what the command reads, and no count of reads
-- of its inputs, of writes of its outputs or of the sink rises, is want of memory.
abbrev pub Completes : List (List ℕ) → ShelfSeen → SinkSeen → Status → Type 0
Completes words shelf sink end = (form : Form) → Runs words form → tasks.Completes (task_of form) shelf sink end
