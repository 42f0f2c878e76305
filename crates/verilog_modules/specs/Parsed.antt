-- What the parser's functions answer, against what reading gives on the same words.
use Rattle.std.specs.Prelude.{◌≡◌, List, ◌++◌, Option, Some, None, Result, Ok, Err, option_and_then}
use Rattle.std.specs.Option.{option_map}
use Rattle.verilog_lexicon.specs.declared.word.Word.{Word}
use Rattle.verilog_lexicon.specs.Words.{reserved_in}
use Rattle.verilog_tree.specs.Heads.{is_module, is_wire}
use Rattle.verilog_tree.specs.Reader.{Read}
use Rattle.verilog_modules.specs.declared.fault.ParseFault.{ParseFault}
use Rattle.verilog_modules.specs.declared.fault.ParseFault.TheVariants as fault

-- own: the key words that stand at one place only
abbrev pub module_in : Word → Option (Unit {0})
module_in w = option_and_then is_module (reserved_in w)

abbrev pub wire_in : Word → Option (Unit {0})
wire_in w = option_and_then is_wire (reserved_in w)

-- own: what was read and the words after it; at a fault the words from there on; nothing where memory was refused
abbrev pub Gives : {X : Type 0} → Result X ParseFault → List Word → Read X → Type 0
Gives (Ok x) left read = read ≡ (Some x, left)
Gives (Err fault.Syntax) left read = read ≡ (None, left)
Gives (Err fault.OutOfMemory) left read = Unit {0}

-- own: the same, of what was read as it is seen by a view
abbrev pub seen : {X Y : Type 0} → (X → Y) → Read X → Read Y
seen view read = (option_map view read.0, read.1)

-- own: what was read joins the end of a list
abbrev pub GivesMore : {X Y : Type 0} → (X → List Y) → List Y → List Y → Result (Unit {0}) ParseFault → List Word → Read X → Type 0
GivesMore view old new (Ok _) left read = seen (λ x. old ++ view x) read ≡ (Some new, left)
GivesMore view old new (Err fault.Syntax) left read = read ≡ (None, left)
GivesMore view old new (Err fault.OutOfMemory) left read = Unit {0}

-- own: what was read is what a view sees of the value
abbrev pub GivesAs : {X Y : Type 0} → (X → Y) → Result X ParseFault → List Word → Read Y → Type 0
GivesAs view (Ok x) left read = read ≡ (Some (view x), left)
GivesAs view (Err fault.Syntax) left read = read ≡ (None, left)
GivesAs view (Err fault.OutOfMemory) left read = Unit {0}

-- own: a view of what was read is the value
abbrev pub GivesSeen : {X Y : Type 0} → (X → Y) → Result Y ParseFault → List Word → Read X → Type 0
GivesSeen view (Ok y) left read = seen view read ≡ (Some y, left)
GivesSeen view (Err fault.Syntax) left read = read ≡ (None, left)
GivesSeen view (Err fault.OutOfMemory) left read = Unit {0}

-- own: a view of what was read is a view of the value
abbrev pub GivesFor : {X Y V : Type 0} → (X → V) → (Y → V) → Result Y ParseFault → List Word → Read X → Type 0
GivesFor view value (Ok y) left read = seen view read ≡ (Some (value y), left)
GivesFor view value (Err fault.Syntax) left read = read ≡ (None, left)
GivesFor view value (Err fault.OutOfMemory) left read = Unit {0}
