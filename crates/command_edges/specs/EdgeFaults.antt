-- When the faults of reading, writing and putting stand, for every command. Own.
use Rattle.std.specs.Prelude.{◌≡◌, ℕ, List, codes}
use Rattle.edge_io.specs.Shelf.{WhereTold}
use Rattle.command_faults.specs.declared.fault.Fault.{Fault}
use Rattle.command_faults.specs.declared.fault.Fault.TheVariants as fault
use Rattle.command_edges.specs.Lengths.{IsLong}
use Rattle.command_edges.specs.Seen.{ShelfSeen, SinkSeen, ReadRose, WriteRose, SinkRose}

-- the fault stands in reading what lies under a name
abbrev pub StandsInReading : List ℕ → ShelfSeen → Fault → Type 0
StandsInReading name shelf (fault.ReadFault n) = (n.now ≡ name) × ReadRose shelf name
StandsInReading name shelf (fault.TooLong n) = (n.now ≡ name) × WhereTold (shelf.held name) IsLong
StandsInReading name shelf fault.OutOfMemory = Unit {0}
StandsInReading name shelf f = ⊥

-- the fault stands in writing under a name
abbrev pub StandsInWriting : List ℕ → ShelfSeen → Fault → Type 0
StandsInWriting name shelf (fault.WriteFault n) = (n.now ≡ name) × WriteRose shelf name
StandsInWriting name shelf f = ⊥

-- the name of the sink
abbrev pub standard_output : List ℕ
standard_output = codes "standard-output"

-- the fault stands in putting on the sink
abbrev pub StandsInPutting : SinkSeen → Fault → Type 0
StandsInPutting sink (fault.WriteFault n) = (n.now ≡ standard_output) × SinkRose sink
StandsInPutting sink f = ⊥
