-- own: nets between the core and its boundary cells, found by their names; and lists of which a front was found.
use Rattle.std.specs.Prelude.{◌≡◌, ℕ, Bool, true, false, List, ◌++◌, position, Option, Some, None}
use Rattle.std.specs.Borrow.{Bor}
use Rattle.std.specs.Map.{lookup}
use Rattle.std.specs.Option.{option_map}
use Rattle.std.specs.Str.{bytes_eq}
use Rattle.strip_model.specs.declared.Side.{Side}

-- the first side of each name stands under it, by its place
pub record FindsSides (sides : List Side) (entries : List (Bor (List ℕ) × ℕ)) : Type 0 where
  pub places : (name : List ℕ) → lookup (λ (key : Bor (List ℕ)). bytes_eq name key.now) entries ≡ position (λ (side : Side). bytes_eq name side.net) sides

-- those that were found, before more, if there are any
abbrev pub found_with : {X : Type 0} → List X → Option (List X) → Option (List X)
found_with found more = option_map (λ (rest : List _). found ++ rest) more

-- these were added behind the old ones, if they are found
abbrev pub AreFound : {X : Type 0} → Bool → List X → List X → Option (List X) → Type 0
AreFound true old new found = Some new ≡ found_with old found
AreFound false old new found = found ≡ None
