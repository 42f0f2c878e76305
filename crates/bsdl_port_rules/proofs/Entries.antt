-- Tests of the instructions of entries, entry by entry, and of the entities of attributes.
use Rattle.std.proofs.Common.{◌≡◌, ℕ, Bool, true, false, ◌||◌, List, [], ◌∷◌, ◌++◌, Option, Some, None, refl, ap, ◌∙◌}
use Rattle.std.specs.List.{list_any}
use Rattle.std.specs.Option.{option_map_or}
use Rattle.std.proofs.lemmas.List.Folds.{list_any-append}
use Rattle.bsdl_device.specs.declared.entries.AccessEntry.{AccessEntry}
use Rattle.bsdl_device.specs.declared.written.StringAttribute.{StringAttribute}
use Rattle.bsdl_device.specs.Checks.{instructions_of}

pub along_entries : (test : List ℕ → Bool) → (access : List AccessEntry) → list_any test (instructions_of access) ≡ list_any (λ (a : AccessEntry). list_any test a.instructions) access
along_entries test [] = refl
along_entries test (a ∷ rest) = list_any-append test a.instructions (instructions_of rest) ∙ ap (λ b. list_any test a.instructions || b) (along_entries test rest)

-- the entities of attributes that may be left out
abbrev entities : Option StringAttribute → List (List ℕ)
entities code = option_map_or (λ (a : StringAttribute). a.entity ∷ []) code []

pub along_codes : (test : List ℕ → Bool) (code user : Option StringAttribute)
    → list_any test (entities code ++ entities user) ≡ (option_map_or (λ (a : StringAttribute). test a.entity) code false || option_map_or (λ (a : StringAttribute). test a.entity) user false)
along_codes test None None = refl
along_codes test None (Some b) = last (test b.entity)
  where
    last : (t : Bool) → (t || false) ≡ t
    last true = refl
    last false = refl
along_codes test (Some a) None = refl
along_codes test (Some a) (Some b) = last (test a.entity) (test b.entity)
  where
    last : (s t : Bool) → (s || (t || false)) ≡ (s || t)
    last true t = refl
    last false true = refl
    last false false = refl
