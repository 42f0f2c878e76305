-- What is known of faults in writing and in putting, and of what is seen over a longer time.
use Rattle.std.proofs.Common.{◌≡◌, ℕ, List, refl}
use Rattle.command_faults.specs.declared.fault.Fault.{Fault}
use Rattle.command_faults.specs.declared.fault.Fault.TheVariants as fault
use Rattle.command_faults.specs.declared.status.Status.TheVariants as status
use Rattle.command_faults.specs.Statuses.{status_of}
use Rattle.command_edges.specs.Seen.{ShelfSeen, SinkSeen, SinkRose}
use Rattle.command_edges.specs.EdgeFaults.{StandsInWriting, StandsInPutting}

-- a put fails only where the sink's count rises
pub put_rose : (sink : SinkSeen) (f : Fault) → StandsInPutting sink f → SinkRose sink
put_rose sink (fault.WriteFault n) stands = stands.1
put_rose sink f stands = absurd stands

-- the status of both
pub is_write : (name : List ℕ) (shelf : ShelfSeen) (f : Fault) → StandsInWriting name shelf f → status_of f ≡ status.WriteFault
is_write name shelf (fault.WriteFault n) stands = refl
is_write name shelf f stands = absurd stands

pub is_put : (sink : SinkSeen) (f : Fault) → StandsInPutting sink f → status_of f ≡ status.WriteFault
is_put sink (fault.WriteFault n) stands = refl
is_put sink f stands = absurd stands

pub putting_later : (a b : SinkSeen) (f : Fault) → (SinkRose a → SinkRose b) → StandsInPutting a f → StandsInPutting b f
putting_later a b (fault.WriteFault name) later stands = (stands.0, later stands.1)
putting_later a b f later stands = absurd stands
