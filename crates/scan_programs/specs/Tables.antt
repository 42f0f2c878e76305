-- own: bits of ports as keys of a table of cells.
use Rattle.std.specs.Prelude.{◌≡◌, ℕ, ◌&&◌, nat_eq, Bool, false, List, position}
use Rattle.std.specs.Map.{lookup}
use Rattle.std.specs.Option.{option_eq, option_map_or}
use Rattle.bsdl_device.specs.declared.values.DevBit.{DevBit}
use Rattle.bsdl_device.specs.declared.values.CellRow.{CellRow}
use Rattle.bsdl_device.specs.IsDevice.{is_at}
use Rattle.scan_programs.specs.declared.cell_table.BitKey.{BitKey}

abbrev pub key_of : DevBit → BitKey
key_of bit = record { port = bit.port; index = bit.index }

abbrev pub same_key : BitKey → BitKey → Bool
same_key j k = nat_eq j.port k.port && option_eq nat_eq j.index k.index

-- the cell stands at the bit of this key
abbrev pub is_key : BitKey → CellRow → Bool
is_key key row = option_map_or (λ (bit : DevBit). same_key (key_of bit) key) row.pin false

-- the first cell at each bit is found under it
pub record FindsCells (cells : List CellRow) (entries : List (BitKey × ℕ)) : Type 0 where
  pub first : (bit : DevBit) → lookup (same_key (key_of bit)) entries ≡ position (is_at bit) cells
