-- own: entries of a pin map by their ports, and rows by their numbers.
use Rattle.std.specs.Prelude.{◌≡◌, ℕ, List, nat_eq, position}
use Rattle.std.specs.Map.{lookup}
use Rattle.bsdl_lexicon.specs.Names.{is_same_name}
use Rattle.bsdl_device.specs.declared.entries.PinEntry.{PinEntry}
use Rattle.bsdl_device.specs.declared.entries.RowEntry.{RowEntry}
use Rattle.bsdl_device.specs.Checks.{is_numbered}
use Rattle.bsdl_lexicon.specs.declared.name_key.NameKey.{NameKey}
use Rattle.bsdl_port_rules.specs.NameTables.{under_name}

-- the first entry of each port stands under it, by its place
pub record FindsEntries (list : List PinEntry) (entries : List (NameKey × ℕ)) : Type 0 where
  pub places : (name : List ℕ) → under_name entries name ≡ position (λ (e : PinEntry). is_same_name e.port name) list

-- the first row of each number stands under it, by its place
pub record FindsRows (rows : List RowEntry) (entries : List (ℕ × ℕ)) : Type 0 where
  pub places : (number : ℕ) → lookup (nat_eq number) entries ≡ position (is_numbered number) rows
