use Rattle.std.proofs.Common.{◌≡◌, ◌≤◌, length, ◌-◌, take}
use Rattle.edge_io.specs.Shelf.{NoneFell, SameTold, ChangesOne, told_if}
use Rattle.edge_io.proofs.whole.write_whole.Given as goal

abbrev pub invariant-loop-at : goal.invariant-loop-at
invariant-loop-at g l = record {
  within : l.at ≤ length l.text;
  written : ChangesOne (g.S.Shelf.written l.fn.shelf) (g.S.Shelf.written l.shelf) l.name (λ before after. after ≡ told_if g.S.Shelf.tells (take l.at l.text));
  later : NoneFell (g.S.Shelf.faults l.fn.shelf) (g.S.Shelf.faults l.shelf);
  held : SameTold (g.S.Shelf.held l.fn.shelf) (g.S.Shelf.held l.shelf);
}

abbrev pub decreases-loop-at : goal.decreases-loop-at
decreases-loop-at g l = length l.text - l.at
