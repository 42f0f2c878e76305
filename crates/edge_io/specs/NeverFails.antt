use Rattle.std.specs.Prelude.{ℕ, List, [], Option, Some, unwrap_or}
use Rattle.edge_io.specs.declared.entries.Entry.{Entry}
use Rattle.edge_io.specs.Entries.{value_of}

-- own: the bytes placed under a name, or none of them where nothing was placed
abbrev pub placed_or_empty : List (Entry (List ℕ)) → List ℕ → Option (List ℕ)
placed_or_empty placed name = Some (unwrap_or (value_of placed name) [])
