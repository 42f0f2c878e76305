-- own: the box of a line, where its ports can be those of one.
use Rattle.std.specs.Prelude.{ℕ, ◌+◌, false, List, [], ◌∷◌, ◌++◌, map, take, drop, position, codes, Option, Some, None, is_none, option_and_then, if◌then◌else◌}
use Rattle.std.specs.Option.{option_map}
use Rattle.cell_library.specs.declared.listed.ListedCell.{ListedCell}
use Rattle.cell_library.specs.declared.listed.Step.TheVariants as step
use Rattle.cell_library.specs.declared.listed.Body.TheVariants as body
use Rattle.texts.specs.Repeated.{repeated}
use Rattle.cell_text.specs.Words.{Words, is_colon}
use Rattle.box_model.specs.declared.boxes.BoxCell.{BoxCell}
use Rattle.box_model.specs.declared.boxes.BoxDir.{BoxDir}
use Rattle.box_model.specs.declared.boxes.BoxDir.TheVariants.{Takes, Gives}
use Rattle.box_model.specs.declared.boxes.BoxPort.{BoxPort}
use Rattle.box_texts.specs.Ports.{port_in}

abbrev pub put_before : Option BoxPort → Option (List BoxPort) → Option (List BoxPort)
put_before None ports = None
put_before (Some port) None = None
put_before (Some port) (Some ports) = Some (port ∷ ports)

-- the ports of words, if each tells one
abbrev pub ports_in : BoxDir → Words → Option (List BoxPort)
ports_in dir [] = Some []
ports_in dir (word ∷ words) = put_before (port_in dir word) (ports_in dir words)

-- ports that were read before those behind them
abbrev pub behind_those : List BoxPort → Option (List BoxPort) → Option (List BoxPort)
behind_those before None = None
behind_those before (Some ports) = Some (before ++ ports)

abbrev pub names_of : List BoxPort → Words
names_of ports = map (λ (port : BoxPort). port.name) ports

-- the ports, if no name stands twice
abbrev pub apart : List BoxPort → Option (List BoxPort)
apart ports = if is_none (repeated (names_of ports)) then Some ports else None

-- outputs, and inputs behind them
abbrev pub all_ports : Words → Words → Option (List BoxPort)
all_ports gives takes = option_and_then (λ (outputs : List BoxPort). behind_those outputs (ports_in Takes takes)) (behind_those [] (ports_in Gives gives))

abbrev pub ports_of : Words → Words → Option (List BoxPort)
ports_of gives takes = option_and_then apart (all_ports gives takes)

abbrev pub box_of : List ℕ → Words → Words → Option BoxCell
box_of name gives takes = option_map (λ (ports : List BoxPort). record { name = name; ports = ports }) (ports_of gives takes)

-- the words before the first colon are of outputs, those behind it of inputs
abbrev pub box_behind : List ℕ → Words → Option BoxCell
box_behind name words = option_and_then (λ (place : ℕ). box_of name (take place words) (drop (place + 1) words)) (position is_colon words)

-- the box of a line
abbrev pub box_in : Words → Option BoxCell
box_in (key ∷ name ∷ words) = box_behind name words
box_in _ = None

-- the listed gate in the place of a box with this name: without inputs, and of which nothing is linked
abbrev pub bare_cell : List ℕ → ListedCell
bare_cell name = record { name = name; output = codes "Y"; inputs = []; body = body.Gate (step.Const false ∷ []) }

abbrev pub bare_of : BoxCell → ListedCell
bare_of b = bare_cell b.name
