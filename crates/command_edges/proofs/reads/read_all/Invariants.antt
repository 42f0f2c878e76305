use Rattle.std.proofs.Common.{take}
use Rattle.edge_io.specs.Shelf.{NoneFell, SameTold}
use Rattle.command_edges.specs.Names.{names_of}
use Rattle.command_edges.specs.Texts.{AreRead}
use Rattle.command_edges.proofs.reads.read_all.Given as goal

abbrev pub invariant-loop-name : goal.invariant-loop-name
invariant-loop-name g l = record {
  read : AreRead (g.S.Shelf.held l.fn.shelf) (take l.name-index (names_of l.names)) l.texts;
  held : SameTold (g.S.Shelf.held l.fn.shelf) (g.S.Shelf.held l.shelf);
  written : SameTold (g.S.Shelf.written l.fn.shelf) (g.S.Shelf.written l.shelf);
  later : NoneFell (g.S.Shelf.faults l.fn.shelf) (g.S.Shelf.faults l.shelf);
}
