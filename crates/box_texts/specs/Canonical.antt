-- own: the canonical text of a library with boxes.
use Rattle.std.specs.Prelude.{ℕ, ◌-◌, List, [], ◌∷◌, ◌++◌, map, take, length, codes, Option, Some, None}
use Rattle.std.specs.Fmt.{decimal}
use Rattle.verilog_tree.specs.declared.tree.Range.{Range}
use Rattle.cell_library.specs.declared.listed.ListedCell.{ListedCell}
use Rattle.word_cutter.specs.Rows.{rows_text}
use Rattle.cell_text.specs.Words.{Words}
use Rattle.cell_text.specs.Grammar.{cell_words}
use Rattle.box_model.specs.declared.boxes.BoxCell.{BoxCell}
use Rattle.box_model.specs.declared.boxes.BoxDir.{BoxDir}
use Rattle.box_model.specs.declared.boxes.BoxDir.TheVariants.{Takes, Gives}
use Rattle.box_model.specs.declared.boxes.BoxLibrary.{BoxLibrary}
use Rattle.box_model.specs.declared.boxes.BoxPort.{BoxPort}
use Rattle.box_texts.specs.Sound.{ports_to}
use Rattle.box_texts.specs.Grammar.{version_words, cut_words}

abbrev pub bounds_text : Range → List ℕ
bounds_text range = codes "[" ++ decimal range.left ++ codes ":" ++ decimal range.right ++ codes "]"

abbrev pub range_text : Option Range → List ℕ
range_text None = []
range_text (Some range) = bounds_text range

abbrev pub port_text : BoxPort → List ℕ
port_text port = port.name ++ range_text port.range

-- the words of the ports of one direction
abbrev pub port_words : BoxDir → List BoxPort → Words
port_words dir ports = map port_text (ports_to dir ports)

abbrev pub box_words : BoxCell → Words
box_words cell = codes "box" ∷ cell.name ∷ port_words Gives cell.ports ++ codes ":" ∷ port_words Takes cell.ports

-- the cells before the bare ones of boxes
abbrev pub own_cells : BoxLibrary → List ListedCell
own_cells library = take (length library.cells - length library.boxes) library.cells

-- all lines in their order
abbrev pub boxes_rows : BoxLibrary → List Words
boxes_rows library = version_words ∷ (map cell_words (own_cells library) ++ map box_words library.boxes ++ map cut_words library.cuts)

-- one blank between words, and LF behind each line
abbrev pub canonical_boxes : BoxLibrary → List ℕ
canonical_boxes library = rows_text (boxes_rows library)
