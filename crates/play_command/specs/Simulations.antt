-- What `sim` makes of the bytes of a netlist and of events.
-- IEEE Std 1364-2001 for the netlist; the texts of events and what a run puts are own.
use Rattle.std.specs.Prelude.{ℕ, List}
use Rattle.verilog_tree.specs.declared.tree.Module.{Module}
use Rattle.verilog_tree.specs.Texts.{SpellsText}
use Rattle.box_model.specs.declared.boxes.BoxLibrary.{BoxLibrary}
use Rattle.box_links.specs.BoxLinks.{IsBoxLinkOf}
use Rattle.netlist_link.specs.Linked.{LinkedView}
use Rattle.scan_vectors.specs.declared.lines.Lines.{Lines}
use Rattle.scan_vectors.specs.Grammar.{SpellsLines}
use Rattle.scan_vectors.specs.declared.scripts.script.ScriptLine.{ScriptLine}
use Rattle.scan_vectors.specs.declared.scripts.fault.ScriptFault.{ScriptFault}
use Rattle.scan_vectors.specs.Rules.{AreLegal}
use Rattle.scan_vectors.specs.Scripts.{IsResolved, IsScriptFault}
use Rattle.default_starts.specs.Starts.{IsWithStarts}
use Rattle.sim_runs.specs.Outputs.{IsOutput}
use Rattle.play_command.specs.BoxNetlists.{at_end, SpellsBoxLinked, IsBoxLinkable}

-- The netlist's bytes spell one tree, which is linked with its boxes open to this netlist; the events' bytes spell lines
-- that are legal for it, with a start before them for each bit of a box's output that has none; and the text is that of
-- their run, in which so many expectations aren't met.
pub record IsSimulation (library : BoxLibrary) (net events text : List ℕ) (missed : ℕ) : Type 0 where
  pub linked : LinkedView
  pub netlist : SpellsBoxLinked at_end library net linked
  pub lines : Lines
  pub spells_lines : SpellsLines events lines
  pub started : Lines
  pub are_started : IsWithStarts linked lines started
  pub script : List ScriptLine
  pub resolved : IsResolved linked started script
  pub output : IsOutput linked started.list script text missed

-- own: the lines of the events have this fault for the netlist with this library
pub record HasScriptFault (library : BoxLibrary) (f : ScriptFault) (net events : List ℕ) : Type 0 where
  pub linked : LinkedView
  pub netlist : SpellsBoxLinked at_end library net linked
  pub lines : Lines
  pub spells_lines : SpellsLines events lines
  pub started : Lines
  pub are_started : IsWithStarts linked lines started
  pub fault : IsScriptFault linked started f

-- own: no fault stands in the bytes of the netlist and of the events
pub record IsSimulable (library : BoxLibrary) (net events : List ℕ) : Type 0 where
  pub tree : Module
  pub spells : SpellsText net tree
  pub linkable : IsBoxLinkable library (at_end tree) tree
  pub lines : Lines
  pub spells_lines : SpellsLines events lines
  pub legal : (linked : LinkedView) (started : Lines) → IsBoxLinkOf library (at_end tree) tree linked → IsWithStarts linked lines started → AreLegal linked started
