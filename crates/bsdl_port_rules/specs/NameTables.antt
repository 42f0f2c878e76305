-- own: names as keys, and what tables find under them.
use Rattle.std.specs.Prelude.{◌≡◌, ℕ, List, Option}
use Rattle.std.specs.Map.{lookup}
use Rattle.bsdl_lexicon.specs.Names.{is_same_name}
use Rattle.bsdl_device.specs.declared.written.DeclaredPort.{DeclaredPort}
use Rattle.bsdl_device.specs.Ports.{place_named}
use Rattle.bsdl_lexicon.specs.declared.name_key.NameKey.{NameKey}

-- what stands under a name
abbrev pub under_name : {X : Type 0} → List (NameKey × X) → List ℕ → Option X
under_name entries name = lookup (λ (k : NameKey). is_same_name name k.0.now) entries

-- the first port of each name stands under it, by its place
pub record FindsPorts (ports : List DeclaredPort) (entries : List (NameKey × ℕ)) : Type 0 where
  pub places : (name : List ℕ) → under_name entries name ≡ place_named ports name
