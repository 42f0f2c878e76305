-- own: the rules on the lines of a library that may have boxes, and the first that is broken.
use Rattle.std.specs.Prelude.{ℕ, ◌||◌, ◌&&◌, not, nat_le, Bool, List, [], ◌∷◌, ◌++◌, length, map, filter, Option, Some, None, is_none, if◌then◌else◌}
use Rattle.std.specs.List.{list_all}
use Rattle.std.specs.Option.{option_map}
use Rattle.verilog_lexicon.specs.Bytes.{is_escaped_byte}
use Rattle.texts.specs.First.{or_else, first_in}
use Rattle.texts.specs.Repeated.{has_name}
use Rattle.cell_text.specs.declared.fault.LibFault.{LibFault}
use Rattle.cell_text.specs.declared.fault.LibFault.TheVariants as fault
use Rattle.cell_text.specs.Words.{Words}
use Rattle.cell_text.specs.Lines.{is_cell_line}
use Rattle.cell_text.specs.Rules.{name_in, barred_after, too_many, body_fault}
use Rattle.box_texts.specs.Forms.{is_box_line, is_cut_line}
use Rattle.box_texts.specs.Boxes.{box_in}

-- the lines of each form
abbrev pub cells_of : List Words → List Words
cells_of rows = filter is_cell_line rows

abbrev pub boxes_of : List Words → List Words
boxes_of rows = filter is_box_line rows

abbrev pub cuts_of : List Words → List Words
cuts_of rows = filter is_cut_line rows

-- an instance's name: 1 to 255 bytes, each of which prints and is no blank
abbrev pub is_instance_name : List ℕ → Bool
is_instance_name name = nat_le 1 (length name) && (nat_le (length name) 255 && list_all is_escaped_byte name)

-- no instance has the name, or it is one of these
abbrev pub is_barred_cut : Words → List ℕ → Bool
is_barred_cut before name = not (is_instance_name name) || has_name before name

-- the first name that is barred, where the others came before
abbrev pub barred_cut : Words → Words → Option (List ℕ)
barred_cut before [] = None
barred_cut before (name ∷ names) = if is_barred_cut before name then Some name else barred_cut (before ++ name ∷ []) names

-- the first name that is barred: of cells and boxes together, and of cuts behind them
abbrev pub barred_name : Words → Words → Option (List ℕ)
barred_name named cuts = or_else (barred_after [] named) (barred_cut [] cuts)

abbrev pub name_fault : List Words → Option LibFault
name_fault rows = option_map fault.LibName (barred_name (map name_in (cells_of rows ++ boxes_of rows)) (map name_in (cuts_of rows)))

-- the line has no box
abbrev pub box_fault : Words → Option LibFault
box_fault words = if is_none (box_in words) then Some (fault.LibBody (name_in words)) else None

-- the first cell or box with a wrong word behind its name
abbrev pub bodies_fault : List Words → List Words → Option LibFault
bodies_fault cells boxes = or_else (first_in body_fault cells) (first_in box_fault boxes)

-- the first rule that is broken: the count, then names, then what stands behind them
abbrev pub rule_fault : List Words → Option LibFault
rule_fault rows = or_else (too_many rows) (or_else (name_fault rows) (bodies_fault (cells_of rows) (boxes_of rows)))
