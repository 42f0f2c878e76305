-- own: the names that a task says.
use Rattle.std.specs.Prelude.{ℕ, List, take}
use Rattle.command_edges.specs.Names.{names_of}
use Rattle.command_line.specs.declared.file_names.FileNames.{FileNames}

abbrev pub names_in : FileNames → List (List ℕ)
names_in files = names_of (take files.count files.names)
