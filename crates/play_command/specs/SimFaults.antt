-- When each fault stands in the texts of a netlist and of events. Own.
use Rattle.std.specs.Prelude.{ℕ, List}
use Rattle.box_model.specs.declared.boxes.BoxLibrary.{BoxLibrary}
use Rattle.command_faults.specs.declared.fault.Fault.{Fault}
use Rattle.command_faults.specs.declared.fault.Fault.TheVariants as fault
use Rattle.scan_vectors.specs.Faults.{IsFault}
use Rattle.play_command.specs.BoxNetlists.{at_end, SpellsBoxLinkable, StandsInBoxNetlist}
use Rattle.play_command.specs.Simulations.{HasScriptFault}

-- The fault stands in the texts of a netlist, with this library, and of events, of which the netlist is looked at
-- first. Want of memory says nothing.
abbrev pub StandsInBoth : BoxLibrary → List ℕ → List ℕ → Fault → Type 0
StandsInBoth library net events (fault.Events f) = SpellsBoxLinkable at_end library net × IsFault events f
StandsInBoth library net events (fault.Script f) = HasScriptFault library f net events
StandsInBoth library net events f = StandsInBoxNetlist at_end library net f
