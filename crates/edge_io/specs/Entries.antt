use Rattle.std.specs.Prelude.{ℕ, List, Option, find}
use Rattle.std.specs.Option.{option_map}
use Rattle.std.specs.Str.{bytes_eq}
use Rattle.edge_io.specs.declared.entries.Entry.{Entry}

-- own: the value of the first entry of this name
abbrev pub value_of : {T : Type 0} → List (Entry T) → List ℕ → Option T
value_of entries name = option_map (λ e. e.value) (find (λ e. bytes_eq e.name name) entries)
