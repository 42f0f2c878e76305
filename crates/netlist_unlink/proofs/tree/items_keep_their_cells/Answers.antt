use Rattle.std.proofs.Common.{refl}
use Rattle.netlist_unlink.specs.Trees.{naming_of}
use Rattle.netlist_unlink.proofs.Kept.{are_kept}
use Rattle.netlist_unlink.proofs.tree.items_keep_their_cells.Goals as goal

pub returns : goal.returns
returns c = are_kept c.args.linked.now.arena.lists (naming_of c.args.linked.now c.args.prefix.now) refl c.is_linked.ensures.linked.named c.is_linked.ensures.linked.formed
