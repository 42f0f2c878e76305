-- own: the libraries with boxes that some text spells, by conditions on the library alone.
use Rattle.std.specs.Prelude.{◌≡◌, ◌+◌, ◌≤◌, Bool, true, false, List, ◌++◌, All, IsTrue, length, map, filter, None}
use Rattle.std.specs.List.{list_all}
use Rattle.cell_library.specs.declared.listed.ListedCell.{ListedCell}
use Rattle.cell_library.specs.Sound.{IsLibrary}
use Rattle.texts.specs.Repeated.{repeated}
use Rattle.box_model.specs.declared.boxes.BoxCell.{BoxCell}
use Rattle.box_model.specs.declared.boxes.BoxDir.{BoxDir}
use Rattle.box_model.specs.declared.boxes.BoxDir.TheVariants.{Takes, Gives}
use Rattle.box_model.specs.declared.boxes.BoxLibrary.{BoxLibrary}
use Rattle.box_model.specs.declared.boxes.BoxPort.{BoxPort}
use Rattle.box_model.specs.Sound.{IsSoundBox}
use Rattle.box_texts.specs.Boxes.{names_of, bare_of}
use Rattle.box_texts.specs.Rules.{is_instance_name}

abbrev pub is_dir : BoxDir → BoxDir → Bool
is_dir Takes Takes = true
is_dir Takes Gives = false
is_dir Gives Takes = false
is_dir Gives Gives = true

-- the ports of one direction
abbrev pub ports_to : BoxDir → List BoxPort → List BoxPort
ports_to dir ports = filter (λ (port : BoxPort). is_dir port.dir dir) ports

-- at most 1,024 ports, outputs first, of which no two have one name
pub record IsTextBox (cell : BoxCell) : Type 0 where
  pub ports : IsSoundBox cell
  pub order : ports_to Gives cell.ports ++ ports_to Takes cell.ports ≡ cell.ports
  pub apart : repeated (names_of cell.ports) ≡ None
  pub few : length cell.ports ≤ 1024

-- Cells with a bare one for each box behind the others; at most 4,096 lines; instances of which each is named once.
pub record IsBoxLibrary (library : BoxLibrary) : Type 0 where
  pub own : List ListedCell
  pub cells_are : library.cells ≡ own ++ map bare_of library.boxes
  pub cells : IsLibrary library.cells
  pub boxes : All IsTextBox library.boxes
  pub few : length library.cells + length library.cuts ≤ 4096
  pub cuts : IsTrue (list_all is_instance_name library.cuts)
  pub once : repeated library.cuts ≡ None
