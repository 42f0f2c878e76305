-- own: the rules on the cells of a library's lines, and the first that is broken.
use Rattle.std.specs.Prelude.{ℕ, ◌||◌, not, nat_lt, Bool, List, [], ◌∷◌, ◌++◌, length, map, slice_index_or, Option, Some, None, is_some, is_none, if◌then◌else◌}
use Rattle.std.specs.Option.{option_map}
use Rattle.cell_library.specs.Library.{own_kind_named}
use Rattle.cell_library.specs.Sound.{is_cell_name}
use Rattle.texts.specs.First.{or_else, first_in}
use Rattle.texts.specs.Repeated.{has_name}
use Rattle.cell_text.specs.declared.fault.LibFault.{LibFault}
use Rattle.cell_text.specs.declared.fault.LibFault.TheVariants as fault
use Rattle.cell_text.specs.Words.{Words}
use Rattle.cell_text.specs.Cells.{cell_in}

-- a cell's name: the second word of its line
abbrev pub name_in : Words → List ℕ
name_in words = slice_index_or words 1 []

-- more than 4,096 cells
abbrev pub too_many : List Words → Option LibFault
too_many rows = if nat_lt 4096 (length rows) then Some (fault.TooMany (length rows)) else None

-- the name can't be a cell's, or is one of the seven
abbrev pub is_unfit : List ℕ → Bool
is_unfit name = not (is_cell_name name) || is_some (own_kind_named name)

-- so it is, or one of these
abbrev pub is_barred : Words → List ℕ → Bool
is_barred before name = is_unfit name || has_name before name

-- the first name that is barred, where the others came before
abbrev pub barred_after : Words → Words → Option (List ℕ)
barred_after before [] = None
barred_after before (name ∷ names) = if is_barred before name then Some name else barred_after (before ++ name ∷ []) names

abbrev pub name_fault : List Words → Option LibFault
name_fault rows = option_map fault.LibName (barred_after [] (map name_in rows))

-- the line has no cell
abbrev pub body_fault : Words → Option LibFault
body_fault words = if is_none (cell_in words) then Some (fault.LibBody (name_in words)) else None

-- the first rule that is broken: the count, then names, then bodies
abbrev pub rule_fault : List Words → Option LibFault
rule_fault rows = or_else (too_many rows) (or_else (name_fault rows) (first_in body_fault rows))
