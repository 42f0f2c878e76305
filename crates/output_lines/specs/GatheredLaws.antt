-- What a sink is given over time. Own.
use Rattle.std.specs.Prelude.{◌≡◌, ℕ, List, [], length, take, Option, unwrap_or}
use Rattle.std.specs.Option.{option_map}

-- own: what was given at first is a front of what was given, where that is told
abbrev pub HasGrown : Option (List ℕ) → Option (List ℕ) → Type 0
HasGrown first now = option_map (λ (bytes : List ℕ). take (length (unwrap_or first [])) bytes) now ≡ first
