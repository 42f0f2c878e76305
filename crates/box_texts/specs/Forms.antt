-- own: the forms of a library's lines, where it may have boxes.
use Rattle.std.specs.Prelude.{◌&&◌, nat_le, Bool, true, false, [], ◌∷◌, length, codes, Option, Some, None, option_and_then, if◌then◌else◌}
use Rattle.std.specs.List.{list_any}
use Rattle.std.specs.Str.{bytes_eq}
use Rattle.cell_text.specs.Words.{Words, is_colon}
use Rattle.cell_text.specs.Lines.{is_cell_line}
use Rattle.box_texts.specs.declared.forms.LineForm.{LineForm}
use Rattle.box_texts.specs.declared.forms.LineForm.TheVariants.{Cell, Box, Cut}

-- `boxes 1`
abbrev pub is_version : Words → Bool
is_version (a ∷ b ∷ []) = bytes_eq a (codes "boxes") && bytes_eq b (codes "1")
is_version _ = false

-- `NAME {OUT} : {IN}`, with at most 1,024 of both
abbrev pub is_box : Words → Bool
is_box [] = false
is_box (name ∷ ports) = nat_le (length ports) 1025 && list_any is_colon ports

-- a line `box`
abbrev pub is_box_line : Words → Bool
is_box_line [] = false
is_box_line (key ∷ words) = bytes_eq key (codes "box") && is_box words

-- `cut INSTANCE`
abbrev pub is_cut_line : Words → Bool
is_cut_line (key ∷ instance ∷ []) = bytes_eq key (codes "cut")
is_cut_line _ = false

abbrev pub form_if : LineForm → Bool → Option LineForm
form_if form has = if has then Some form else None

-- the form of a line behind the first
abbrev pub form_of : Words → Option LineForm
form_of words = if is_box_line words then Some Box else if is_cut_line words then Some Cut else form_if Cell (is_cell_line words)

-- cells stand before boxes, and boxes before cuts
abbrev pub may_follow : LineForm → LineForm → Bool
may_follow Cell Cell = true
may_follow Cell Box = false
may_follow Cell Cut = false
may_follow Box Cell = true
may_follow Box Box = true
may_follow Box Cut = false
may_follow Cut before = true

-- the form of a line, if it may stand behind one of the form before
abbrev pub form_behind : LineForm → Words → Option LineForm
form_behind before words = option_and_then (λ (form : LineForm). form_if form (may_follow form before)) (form_of words)
