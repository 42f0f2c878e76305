-- What is told of texts that were read and written.
use Rattle.std.proofs.Common.{◌≡◌, ℕ, ◌≤◌, List, Option, Some, subst, refl, arith}
use Rattle.edge_io.specs.Shelf.{Rose, WhereTold}
use Rattle.command_faults.specs.declared.fault.Fault.{Fault}
use Rattle.command_faults.specs.declared.fault.Fault.TheVariants as fault
use Rattle.command_faults.specs.declared.status.Status.TheVariants as status
use Rattle.command_faults.specs.Statuses.{status_of}
use Rattle.command_edges.specs.Lengths.{IsShort, IsLong}
use Rattle.command_edges.specs.Seen.{ShelfSeen, ReadRose, WriteRose}
use Rattle.command_edges.specs.EdgeFaults.{StandsInReading, StandsInWriting}

-- a count that rose from a later value rose from an earlier one
pub rose_earlier : (a b c : ℕ) → a ≤ b → Rose b c → Rose a c
rose_earlier a b c h k = grind arith

pub rose_on : (a b c : ℕ) → Rose a b → b ≤ c → Rose a c
rose_on a b c h k = grind arith

-- a short text under a name whose count doesn't rise is read, if memory suffices
pub reading_memory : (name bytes : List ℕ) (shelf : ShelfSeen) (f : Fault) → shelf.held name ≡ Some bytes → IsShort bytes → (ReadRose shelf name → ⊥) → StandsInReading name shelf f
    → status_of f ≡ status.Memory
reading_memory name bytes shelf (fault.ReadFault n) told short calm stands = absurd (calm stands.1)
reading_memory name bytes shelf (fault.TooLong n) told short calm stands =
    let long : IsLong bytes = subst (λ (t : Option (List ℕ)). WhereTold t IsLong) told stands.1 in absurd (omega (arith, long, short))
reading_memory name bytes shelf fault.OutOfMemory told short calm stands = refl
reading_memory name bytes shelf f told short calm stands = absurd stands

-- a write fails only where the count of its name rises
pub write_rose : (name : List ℕ) (shelf : ShelfSeen) (f : Fault) → StandsInWriting name shelf f → WriteRose shelf name
write_rose name shelf (fault.WriteFault n) stands = stands.1
write_rose name shelf f stands = absurd stands
