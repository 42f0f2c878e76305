-- own: names of instructions in a table.
use Rattle.std.specs.Prelude.{◌≡◌, ℕ, List, position}
use Rattle.std.specs.Map.{lookup}
use Rattle.bsdl_lexicon.specs.Names.{is_same_name}
use Rattle.bsdl_lexicon.specs.declared.name_key.NameKey.{NameKey}
use Rattle.bsdl_device.specs.declared.registers.values.RegisterEntry.{RegisterEntry}

-- the first entry of each instruction stands under its name, by its place
pub record FindsNames (entries : List RegisterEntry) (table : List (NameKey × ℕ)) : Type 0 where
  pub places : (name : List ℕ) → lookup (λ (k : NameKey). is_same_name name k.0.now) table ≡ position (λ (e : RegisterEntry). is_same_name name e.instruction) entries
