-- own: the cell of a line, where its ports and steps are those of one.
use Rattle.std.specs.Prelude.{ℕ, ◌&&◌, Bool, List, [], ◌∷◌, length, codes, Option, Some, None, is_none, if◌then◌else◌, option_and_then}
use Rattle.std.specs.List.{list_all}
use Rattle.std.specs.Str.{bytes_eq}
use Rattle.cell_library.specs.declared.FlopKind.{FlopKind}
use Rattle.cell_library.specs.declared.listed.Step.{Step}
use Rattle.cell_library.specs.declared.listed.Body.{Body}
use Rattle.cell_library.specs.declared.listed.Body.TheVariants as body
use Rattle.cell_library.specs.declared.listed.ListedCell.{ListedCell}
use Rattle.cell_library.specs.Sound.{is_port_name, leaves_one}
use Rattle.texts.specs.Repeated.{repeated}
use Rattle.cell_text.specs.Words.{Words, step_of, flop_named}
use Rattle.cell_text.specs.Lines.{parted, takes}

-- each is a port's name, and none stands twice
abbrev pub are_ports : Words → Bool
are_ports ports = list_all is_port_name ports && is_none (repeated ports)

abbrev pub put_before : Option Step → Option (List Step) → Option (List Step)
put_before None steps = None
put_before (Some step) None = None
put_before (Some step) (Some steps) = Some (step ∷ steps)

-- the steps of words, if each is one
abbrev pub steps_of : Words → Words → Option (List Step)
steps_of inputs [] = Some []
steps_of inputs (word ∷ words) = put_before (step_of inputs word) (steps_of inputs words)

-- the steps, if they leave one value
abbrev pub sound_steps : ℕ → List Step → Option (List Step)
sound_steps count steps = if leaves_one count 0 steps then Some steps else None

abbrev pub cell_of : List ℕ → List ℕ → Words → Body → ListedCell
cell_of name output inputs body = record { name = name; output = output; inputs = inputs; body = body }

-- a cell with this body, if the ports can be: the output, and the inputs
abbrev pub with_ports : List ℕ → Words → Body → Option ListedCell
with_ports name [] body = None
with_ports name (output ∷ inputs) body = if are_ports (output ∷ inputs) then Some (cell_of name output inputs body) else None

-- the inputs among the ports
abbrev pub behind : Words → Words
behind [] = []
behind (output ∷ inputs) = inputs

abbrev pub gate_of : List ℕ → Words → Words → Option ListedCell
gate_of name ports words =
    option_and_then (λ steps. with_ports name ports (body.Gate steps)) (option_and_then (sound_steps (length (behind ports))) (steps_of (behind ports) words))

abbrev pub flop_of : List ℕ → Words → FlopKind → Option ListedCell
flop_of name ports kind = if takes ports kind then with_ports name ports (body.Flop kind) else None

-- what stands behind the key `gate`
abbrev pub gate_in : Words → Option ListedCell
gate_in (name ∷ output ∷ words) = option_and_then (λ parts. gate_of name (output ∷ parts.0) parts.1) (parted [] words)
gate_in _ = None

-- what stands behind the key `flop`
abbrev pub flop_in : Words → Option ListedCell
flop_in (name ∷ kind ∷ ports) = option_and_then (flop_of name ports) (flop_named kind)
flop_in _ = None

-- the cell of a line
abbrev pub cell_in : Words → Option ListedCell
cell_in [] = None
cell_in (key ∷ words) = if bytes_eq key (codes "gate") then gate_in words else if bytes_eq key (codes "flop") then flop_in words else None
