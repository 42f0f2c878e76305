use Rattle.netlist_unlink.proofs.Again.{denotes_same}
use Rattle.netlist_unlink.proofs.tree.unlink_undoes_link.Goals as goal

pub returns : goal.returns
returns c =
    denotes_same c.args.tree.now c.args.linked.now c.args.prefix.now c.requires.linked.linkable.early
    (record {
      are = record { formed = c.is_linked.ensures.linked.formed; named = c.is_linked.ensures.linked.named; laid = c.is_linked.ensures.laid_out };
      is = c.requires.linked.denoted;
    })
    c.requires.free c.is_linked.ensures.few
