-- Bits of ports as keys.
use Rattle.std.proofs.Common.{◌≡◌, ℕ, Bool, false, ◌&&◌, ◌==◌, List, position, Option, Some, None, refl, ap, ◌∙◌}
use Rattle.std.specs.Prelude.{nat_eq}
use Rattle.std.specs.Map.{lookup}
use Rattle.std.specs.Option.{option_eq, option_map_or}
use Rattle.list_laws.proofs.Numbers.{eqb-sym}
use Rattle.bsdl_device.specs.declared.values.DevBit.{DevBit}
use Rattle.bsdl_device.specs.declared.values.CellRow.{CellRow}
use Rattle.bsdl_device.specs.Ports.{same_index}
use Rattle.bsdl_device.specs.IsDevice.{is_at}
use Rattle.scan_programs.specs.declared.cell_table.BitKey.{BitKey}
use Rattle.scan_programs.specs.Tables.{key_of, same_key, is_key, FindsCells}

index_alike : (i j : Option ℕ) → option_eq nat_eq i j ≡ same_index j i
index_alike None None = refl
index_alike None (Some j) = refl
index_alike (Some i) None = refl
index_alike (Some i) (Some j) = eqb-sym i j

key_alike : (bit b : DevBit) → same_key (key_of b) (key_of bit) ≡ (bit.port == b.port && same_index bit.index b.index)
key_alike bit b = ap (λ (t : Bool). t && option_eq nat_eq b.index bit.index) (eqb-sym b.port bit.port) ∙ ap (λ (t : Bool). bit.port == b.port && t) (index_alike b.index bit.index)

row_alike : (bit : DevBit) (row : CellRow) → is_key (key_of bit) row ≡ is_at bit row
row_alike bit row = by row.pin
  where
    by : (o : Option DevBit) → option_map_or (λ (b : DevBit). same_key (key_of b) (key_of bit)) o false ≡ option_map_or (λ (b : DevBit). bit.port == b.port && same_index bit.index b.index) o false
    by None = refl
    by (Some b) = key_alike bit b

pub finds_cells : (cells : List CellRow) (entries : List (BitKey × ℕ)) → ((key : BitKey) → lookup (same_key key) entries ≡ position (is_key key) cells) → FindsCells cells entries
finds_cells cells entries finds = record {
  first = λ bit. finds (key_of bit) ∙ ap (λ (test : CellRow → Bool). position test cells) (λ i row. row_alike bit row i);
}
