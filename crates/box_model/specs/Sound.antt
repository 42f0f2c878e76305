-- Libraries with boxes as a text lists them: the names and ranges of ports. Own, but for names.
-- IEEE Std 1364-2001: lexical conventions (identifiers, key words).
use Rattle.std.specs.Prelude.{IfSome}
use Rattle.std.specs.List.{AllByRecursion}
use Rattle.verilog_tree.specs.IsTree.{IsTreeRange}
use Rattle.cell_library.specs.Sound.{IsPort, IsLibrary}
use Rattle.box_model.specs.declared.boxes.BoxCell.{BoxCell}
use Rattle.box_model.specs.declared.boxes.BoxLibrary.{BoxLibrary}
use Rattle.box_model.specs.declared.boxes.BoxPort.{BoxPort}

-- a simple name that is no key word, and bounds of at most nine digits
pub record IsSoundPort (p : BoxPort) : Type 0 where
  pub name : IsPort p.name
  pub range : IfSome p.range IsTreeRange

abbrev pub IsSoundBox : BoxCell → Type 0
IsSoundBox b = AllByRecursion IsSoundPort b.ports

pub record IsSoundLibrary (B : BoxLibrary) : Type 0 where
  pub cells : IsLibrary B.cells
  pub boxes : AllByRecursion IsSoundBox B.boxes
