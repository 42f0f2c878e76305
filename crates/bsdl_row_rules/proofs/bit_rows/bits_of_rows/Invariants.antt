use Rattle.std.proofs.Common.{◌≡◌, take}
use Rattle.std.specs.List.{filter_map}
use Rattle.bsdl_device.specs.declared.entries.RowEntry.{RowEntry}
use Rattle.bsdl_row_rules.specs.Bits.{bits_in}
use Rattle.bsdl_row_rules.proofs.bit_rows.bits_of_rows.Given as goal

abbrev pub invariant-loop-row : goal.invariant-loop-row
invariant-loop-row l = bits_in l.keys.items ≡ filter_map (λ (r : RowEntry). r.port) (take l.row-index l.rows)
