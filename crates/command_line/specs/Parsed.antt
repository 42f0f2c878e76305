-- own: the commands of the code, as forms.
use Rattle.std.specs.Prelude.{ℕ, List, Option, Some, None}
use Rattle.command_edges.specs.Libraries.{name_of}
use Rattle.command_line.specs.declared.command.Command.{Command}
use Rattle.command_line.specs.declared.command.Command.TheVariants as command
use Rattle.command_line.specs.Forms.{Form, HasWords, HasForm, IsNoCommand, IsNumeral}

abbrev pub form_of : Command → Form
form_of (command.Convert t) = Form.Converts t.conversion t.input.now t.output.now
form_of (command.StatusBsdl t) = Form.ShowsStatus t.input.now t.output.now
form_of (command.Flatten t) = Form.Flattens t.input.now t.top.now t.output.now (name_of t.library)
form_of (command.Sim netlist events library) = Form.Simulates netlist.now events.now (name_of library)
form_of (command.Insert t) = Form.Inserts t.netlist.now t.plan.now t.outnet.now t.outbsdl.now (name_of t.library)
form_of (command.InsertStatus t) = Form.InsertsStatus t.netlist.now t.plan.now t.registers.now t.outnet.now t.outbsdl.now (name_of t.library)
form_of (command.Strip t) = Form.Strips t.netlist.now t.bsdl.now t.outnet.now t.outplan.now (name_of t.library)
form_of (command.Vectors t) = Form.MakesVectors t.bsdl.now t.output.now
form_of (command.Check t) = Form.Checks t.netlist.now t.bsdl.now t.events.now (name_of t.library)
form_of (command.Demo t) = Form.Demonstrates t.number t.outnet.now t.outbsdl.now

-- the number that these digits are; none where they are no number
abbrev pub IsNumberOf : List ℕ → Option ℕ → Type 0
IsNumberOf digits None = (number : ℕ) → IsNumeral digits number → ⊥
IsNumberOf digits (Some number) = IsNumeral digits number

-- the command is the one that the words are, whatever they begin with; none where they have the words of none
abbrev pub IsPlainOf : List (List ℕ) → Option Command → Type 0
IsPlainOf words None = (form : Form) → HasWords words form → ⊥
IsPlainOf words (Some c) = HasWords words (form_of c)

-- the command is the one that the words are; none where they are no command
abbrev pub IsCommandOf : List (List ℕ) → Option Command → Type 0
IsCommandOf words None = IsNoCommand words
IsCommandOf words (Some c) = HasForm words (form_of c)
