-- A key or none as one number.
use Rattle.std.specs.Prelude.{◌≡◌, ℕ, ◌==◌, ◌^◌, ◌-◌, Bool, true, false, Option, Some, None, if◌then◌else◌, refl}
use Rattle.std.proofs.Common.{sym, ap, eqb-true}
use Rattle.linked_cells.specs.declared.places.key.Key.TheInside.{Inside}

-- own: the greatest number of 64 bits is no key
abbrev pub no_key : ℕ
no_key = 2 ^ 64 - 1

-- own: the key that a number is, if it is one
abbrev pub key_view : ℕ → Option ℕ
key_view number = if number == no_key then None else Some number

-- own: the number of a key, or of none
abbrev pub key_number : Option ℕ → ℕ
key_number None = no_key
key_number (Some key) = key

-- own: the number comes back from the key
pub number_back : (a : Inside) → ◌≡◌ {A = Inside} (record { number = key_number (key_view a.number) }) a
number_back a = go (a.number == no_key) refl
  where
    wrap : ℕ → Inside
    wrap number = record { number = number }

    go : (b : Bool) → (a.number == no_key) ≡ b → ◌≡◌ {A = Inside} (record { number = key_number (if b then None else Some a.number) }) a
    go true test = ap wrap (sym (eqb-true a.number no_key test))
    go false test = refl
