use Rattle.std.specs.Prelude.{ℕ, ◌-◌, List, [], Option, Some, None, length, unwrap_or, option_and_then, if◌then◌else◌}
use Rattle.std.specs.Option.{option_map}
use Rattle.edge_io.specs.declared.entries.Entry.{Entry}
use Rattle.edge_io.specs.declared.outputs.Output.{Output}
use Rattle.edge_io.specs.Entries.{value_of}

-- own: what was written under a name, once it was started
abbrev pub bytes_if_started : Output → Option (List ℕ)
bytes_if_started output = if output.started then Some output.text.bytes else None

-- own: what was written under a name
abbrev pub written_in : List (Entry Output) → List ℕ → Option (List ℕ)
written_in outputs name = option_and_then bytes_if_started (value_of outputs name)

-- own: how many bytes may be written under a name that has room
abbrev pub room_in : List (Entry Output) → List ℕ → Option ℕ
room_in outputs name = option_map (λ output. output.text.room) (value_of outputs name)

-- own: how many more bytes may be written
abbrev pub spare_in : List (Entry Output) → List ℕ → ℕ
spare_in outputs name = unwrap_or (room_in outputs name) 0 - length (unwrap_or (written_in outputs name) [])
