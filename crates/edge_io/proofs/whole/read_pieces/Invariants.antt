use Rattle.std.proofs.Common.{◌≡◌, ◌≤◌, ◌<◌, length, ◌-◌, take}
use Rattle.edge_io.specs.Shelf.{NoneFell, SameTold, WhereTold}
use Rattle.edge_io.proofs.whole.read_pieces.Given as goal

abbrev pub invariant-loop-n : goal.invariant-loop-n
invariant-loop-n g l = record {
  told : WhereTold (g.S.Shelf.held l.fn.shelf l.name) (λ bytes. (l.text ≡ take (length l.text) bytes) × (length l.text ≤ length bytes));
  within : length l.text ≤ l.limit;
  room : 0 < length l.buffer;
  later : NoneFell (g.S.Shelf.faults l.fn.shelf) (g.S.Shelf.faults l.shelf);
  held : SameTold (g.S.Shelf.held l.fn.shelf) (g.S.Shelf.held l.shelf);
  written : SameTold (g.S.Shelf.written l.fn.shelf) (g.S.Shelf.written l.shelf);
}

abbrev pub decreases-loop-n : goal.decreases-loop-n
decreases-loop-n g l = l.limit - length l.text
