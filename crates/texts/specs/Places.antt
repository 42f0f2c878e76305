use Rattle.std.specs.Prelude.{ℕ, List}
use Rattle.texts.specs.declared.text.Place.{Place}
use Rattle.texts.specs.declared.text.Place.TheVariants.{Short, Long}

-- the bytes of a text, wherever they lie
abbrev pub bytes_of : Place → List ℕ
bytes_of (Short short) = short
bytes_of (Long long) = long.value.items
