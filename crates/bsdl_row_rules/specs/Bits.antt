-- own: bits of ports as keys, and tests along the bits of one port.
use Rattle.std.specs.Prelude.{◌≡◌, ℕ, ◌&&◌, Bool, List, map, count_by}
use Rattle.std.specs.List.{list_any}
use Rattle.std.specs.Map.{lookup}
use Rattle.bsdl_device.specs.declared.written.DeclaredPort.{DeclaredPort}
use Rattle.bsdl_device.specs.declared.entries.PortBit.{PortBit}
use Rattle.bsdl_device.specs.declared.entries.RowEntry.{RowEntry}
use Rattle.bsdl_device.specs.Ports.{indices, bit_of_port, same_bit}
use Rattle.bsdl_device.specs.RowRules.{is_row_of}
use Rattle.bsdl_port_rules.specs.declared.keys.Uses.{Uses}
use Rattle.bsdl_port_rules.specs.Keys.{uses_for}
use Rattle.bsdl_row_rules.specs.declared.bit_rows.BitKey.{BitKey}

-- a bit of the port passes the test
abbrev pub some_bit : (PortBit → Bool) → DeclaredPort → Bool
some_bit test p = list_any (λ index. test (bit_of_port p.name index)) (indices p.range)

abbrev pub bit_of_key : BitKey → PortBit
bit_of_key k = bit_of_port k.port.0.now k.index

abbrev pub bits_in : List BitKey → List PortBit
bits_in keys = map bit_of_key keys

-- how often a bit comes is noted under it
pub record CountsBits (rows : List RowEntry) (entries : List (BitKey × Uses)) : Type 0 where
  pub uses : (b : PortBit) → lookup (λ (k : BitKey). same_bit b (bit_of_key k)) entries ≡ uses_for (count_by (is_row_of b) rows)
