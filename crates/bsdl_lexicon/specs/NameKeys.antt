use Rattle.std.specs.Prelude.{ℕ, List, map}
use Rattle.bsdl_lexicon.specs.declared.name_key.NameKey.{NameKey}

-- the names of keys
abbrev pub names_in : List NameKey → List (List ℕ)
names_in keys = map (λ (k : NameKey). k.0.now) keys
