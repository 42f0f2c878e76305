-- The lines of a library that may have boxes, and the library that bytes spell. Own.
use Rattle.std.specs.Prelude.{◌≡◌, ℕ, List, [], ◌∷◌, ◌++◌, map, codes, Option, Some, None, ◌⊎◌}
use Rattle.list_laws.specs.Lists.{AreAll}
use Rattle.verilog_lexicon.specs.Pieces.{IsNumber, value_from}
use Rattle.verilog_tree.specs.declared.tree.Range.{Range}
use Rattle.cell_library.specs.declared.listed.ListedCell.{ListedCell}
use Rattle.word_cutter.specs.LinesWords.{kept_lines}
use Rattle.cell_text.specs.Words.{Words}
use Rattle.cell_text.specs.Faults.{words_in}
use Rattle.cell_text.specs.Grammar.{cell_words, SpellsLibrary}
use Rattle.box_model.specs.declared.boxes.BoxCell.{BoxCell}
use Rattle.box_model.specs.declared.boxes.BoxDir.{BoxDir}
use Rattle.box_model.specs.declared.boxes.BoxDir.TheVariants.{Takes, Gives}
use Rattle.box_model.specs.declared.boxes.BoxLibrary.{BoxLibrary}
use Rattle.box_model.specs.declared.boxes.BoxPort.{BoxPort}
use Rattle.box_texts.specs.Boxes.{bare_of}
use Rattle.box_texts.specs.Sound.{IsBoxLibrary}

-- 1 to 9 digits, which may begin with zeros
pub record SpellsNumber (digits : List ℕ) (number : ℕ) : Type 0 where
  pub is : IsNumber digits
  pub value : value_from 0 digits ≡ number

-- `[L:R]`
pub record SpellsBounds (bytes : List ℕ) (range : Range) : Type 0 where
  pub left : List ℕ
  pub right : List ℕ
  pub bytes_are : bytes ≡ codes "[" ++ left ++ codes ":" ++ right ++ codes "]"
  pub is_left : SpellsNumber left range.left
  pub is_right : SpellsNumber right range.right

-- a scalar has no range
abbrev pub SpellsRange : List ℕ → Option Range → Type 0
SpellsRange bytes None = bytes ≡ []
SpellsRange bytes (Some range) = SpellsBounds bytes range

-- `NAME` or `NAME[L:R]`
pub record SpellsPort (dir : BoxDir) (word : List ℕ) (port : BoxPort) : Type 0 where
  pub behind : List ℕ
  pub word_is : word ≡ port.name ++ behind
  pub range : SpellsRange behind port.range
  pub dir_is : port.dir ≡ dir

-- `box NAME {OUT} : {IN}`
pub record SpellsBox (words : Words) (cell : BoxCell) : Type 0 where
  pub gives : Words
  pub takes : Words
  pub words_are : words ≡ codes "box" ∷ cell.name ∷ gives ++ codes ":" ∷ takes
  pub outputs : List BoxPort
  pub inputs : List BoxPort
  pub ports_are : cell.ports ≡ outputs ++ inputs
  pub each_gives : AreAll (SpellsPort Gives) gives outputs
  pub each_takes : AreAll (SpellsPort Takes) takes inputs

-- `boxes 1`
abbrev pub version_words : Words
version_words = codes "boxes" ∷ codes "1" ∷ []

-- `cut INSTANCE`
abbrev pub cut_words : List ℕ → Words
cut_words instance = codes "cut" ∷ instance ∷ []

-- a text that begins with `boxes 1`: its lines are those that are kept
pub record SpellsBoxed (bytes : List ℕ) (library : BoxLibrary) : Type 0 where
  pub own : List ListedCell
  pub boxes : List Words
  pub lines_are : map words_in (kept_lines bytes) ≡ version_words ∷ (map cell_words own ++ boxes ++ map cut_words library.cuts)
  pub cells_are : library.cells ≡ own ++ map bare_of library.boxes
  pub boxes_are : AreAll SpellsBox boxes library.boxes
  pub can_be : IsBoxLibrary library

-- a text of a library without boxes
pub record SpellsPlain (bytes : List ℕ) (library : BoxLibrary) : Type 0 where
  pub cells : SpellsLibrary bytes library.cells
  pub no_boxes : library.boxes ≡ []
  pub no_cuts : library.cuts ≡ []

-- the bytes spell the library
abbrev pub SpellsBoxes : List ℕ → BoxLibrary → Type 0
SpellsBoxes bytes library = SpellsPlain bytes library ⊎ SpellsBoxed bytes library
