use Rattle.std.proofs.Common.{◌≡◌, drop}
use Rattle.std.specs.List.{position_from}
use Rattle.std.specs.Map.{lookup}
use Rattle.scan_programs.specs.declared.cell_table.BitKey.{BitKey}
use Rattle.scan_programs.specs.Tables.{same_key, is_key}
use Rattle.scan_programs.proofs.cell_table.first_places.Given as goal

abbrev pub invariant-loop-number : goal.invariant-loop-number
invariant-loop-number l = (key : BitKey) → lookup (same_key key) l.places.entries ≡ position_from (is_key key) l.number (drop l.number l.cells)
