use Rattle.std.proofs.Common.{◌≡◌, ℕ, List, take, count_by}
use Rattle.std.specs.Str.{bytes_eq}
use Rattle.texts.specs.Repeated.{texts}
use Rattle.box_tables.specs.Names.{count_of}
use Rattle.box_tables.proofs.name_places.count_names.Given as goal

abbrev pub invariant-loop-name : goal.invariant-loop-name
invariant-loop-name l = (name : List ℕ) → count_of l.counts.entries name ≡ count_by (bytes_eq name) (texts (take l.name-index l.names))
