-- What a command is to do, as a task, and what comes of it: its end, the fault that stands, and when it comes
-- to its end. Own.
use Rattle.std.specs.Prelude.{◌≡◌, ℕ, ◌≤◌, ◌⊎◌, List, take, Bool, true, false, Option}
use Rattle.edge_io.specs.Shelf.{Access, NoneFell, SameTold, appended}
use Rattle.command_faults.specs.declared.fault.Fault.{Fault}
use Rattle.command_faults.specs.declared.status.Status.{Status}
use Rattle.command_faults.specs.declared.status.Status.TheVariants as status
use Rattle.command_edges.specs.Seen.{ShelfSeen, SinkSeen, SinkRose}
use Rattle.command_edges.specs.EdgeFaults.{StandsInPutting}
use Rattle.command_edges.specs.Texts.{AreRead, AreHeld, StandsInReadings, AreWritten, StandsInWritings, NoneRose}

-- The names of the texts that a command reads, in order, and of those that it writes, in order; whether it puts a text;
-- and of the texts that it reads: what is written and put of them and with which status it then ends, which faults
-- stand in them, and that none does.
pub record Task : Type 1 where
  pub reads : List (List ℕ)
  pub writes : List (List ℕ)
  pub puts : Bool
  pub Makes : List (List ℕ) → List (List ℕ) → List ℕ → Status → Type 0
  pub HaveFault : List (List ℕ) → Fault → Type 0
  pub AreFree : List (List ℕ) → Type 0

-- texts that were read come to these
pub record AreMade (t : Task) (shelf : ShelfSeen) (outputs : List (List ℕ)) (put : List ℕ) (end : Status) : Type 0 where
  pub texts : List (List ℕ)
  pub read : AreRead shelf.held t.reads texts
  pub made : t.Makes texts outputs put end

-- the text was given, of a command that puts one
abbrev pub IsPut : Bool → List ℕ → SinkSeen → Type 0
IsPut false text sink = sink.given_after ≡ sink.given
IsPut true text sink = sink.given_after ≡ appended text sink.given

-- The command came to its end with this status: all that comes of the texts is written and given.
pub record Finishes (t : Task) (shelf : ShelfSeen) (sink : SinkSeen) (end : Status) : Type 0 where
  pub outputs : List (List ℕ)
  pub put : List ℕ
  pub made : AreMade t shelf outputs put end
  pub written : AreWritten t.writes outputs shelf
  pub is_put : IsPut t.puts put sink

-- the fault stands in texts that were read
pub record StandsInTexts (t : Task) (shelf : ShelfSeen) (f : Fault) : Type 0 where
  pub texts : List (List ℕ)
  pub read : AreRead shelf.held t.reads texts
  pub fault_is : t.HaveFault texts f

-- nothing was written, nor given
abbrev pub NothingDone : ShelfSeen → SinkSeen → Option (List ℕ) → Type 0
NothingDone shelf sink given = SameTold shelf.written shelf.written_after × (given ≡ sink.given)

-- the text couldn't be given whole, but a front of it was, of a command that puts one
pub record StandsInPut (puts : Bool) (text : List ℕ) (sink : SinkSeen) (f : Fault) (given : Option (List ℕ)) : Type 0 where
  pub does_put : puts ≡ true
  pub fault_is : StandsInPutting sink f
  pub count : ℕ
  pub front : given ≡ appended (take count text) sink.given

-- the fault stands in writing the outputs, and nothing was given; or they are written, and it stands in putting
abbrev pub StandsInGiving : List (List ℕ) → List (List ℕ) → Bool → List ℕ → ShelfSeen → SinkSeen → Fault → Option (List ℕ) → Type 0
StandsInGiving names outputs puts text shelf sink f given = (StandsInWritings names outputs shelf f × (given ≡ sink.given))
    ⊎ (AreWritten names outputs shelf × StandsInPut puts text sink f given)

-- what comes of the texts couldn't be written or put
pub record StandsInOutput (t : Task) (shelf : ShelfSeen) (sink : SinkSeen) (f : Fault) (given : Option (List ℕ)) : Type 0 where
  pub outputs : List (List ℕ)
  pub put : List ℕ
  pub end : Status
  pub made : AreMade t shelf outputs put end
  pub stands : StandsInGiving t.writes outputs t.puts put shelf sink f given

-- The fault stands in the command: in reading the texts or in texts that were read, and nothing was done; or in writing
-- or putting what comes of them. And then so much was given.
abbrev pub Stands : Task → ShelfSeen → SinkSeen → Fault → Option (List ℕ) → Type 0
Stands t shelf sink f given =
    ((StandsInReadings t.reads shelf f ⊎ StandsInTexts t shelf f) × NothingDone shelf sink given) ⊎ StandsInOutput t shelf sink f given

-- A refusal with this status, where no fault stands in the texts and no count of reads of these, of writes of the
-- outputs or of the sink, if it puts a text, rises, is want of memory.
abbrev pub Completes : Task → ShelfSeen → SinkSeen → Status → Type 0
Completes t shelf sink end = (texts : List (List ℕ)) → AreHeld shelf.held t.reads texts → t.AreFree texts
    → NoneRose Access.reading t.reads shelf → NoneRose Access.writing t.writes shelf → (t.puts ≡ true → SinkRose sink → ⊥)
    → end ≡ status.Memory

-- Whatever comes of a command: nothing is written under other names than these, what is held stays, and no count falls.
pub record Keeps (Writes : List ℕ → Type 0) (shelf : ShelfSeen) (sink : SinkSeen) : Type 0 where
  pub others : (name : List ℕ) → (Writes name → ⊥) → shelf.written_after name ≡ shelf.written name
  pub held : SameTold shelf.held shelf.held_after
  pub later : NoneFell shelf.faults shelf.faults_after
  pub puts_later : sink.faults ≤ sink.faults_after
