use Rattle.std.proofs.Common.{sym, subst}
use Rattle.verilog_tree.specs.IsTree.{IsTree}
use Rattle.netlist_unlink.specs.Renumbered.{IsWrittenAs}
use Rattle.netlist_unlink.proofs.Law.{is_written}
use Rattle.netlist_unlink.proofs.Written.{is_tree}
use Rattle.netlist_unlink.proofs.tree.unlink.Goals as goal

pub returns-clause-tree : goal.returns-clause-tree
returns-clause-tree c =
    subst IsTree (sym c.in_ok-tree.ensures.written)
    (is_tree c.args.linked.now c.args.prefix.now c.is_linked.ensures.linked c.is_linked.ensures.laid_out c.is_linked.ensures.few c.is_linked.ensures.title c.requires c.in_ok-tree.ensures.numbers)

pub returns-clause-denotes : goal.returns-clause-denotes
returns-clause-denotes c =
    subst (IsWrittenAs c.args.linked.now c.args.prefix.now) (sym c.in_ok-tree.ensures.written)
    (is_written c.args.linked.now c.args.prefix.now (record {
      are = record { formed = c.is_linked.ensures.linked.formed; named = c.is_linked.ensures.linked.named; laid = c.is_linked.ensures.laid_out };
      free = c.requires;
      few = c.is_linked.ensures.few;
      numbers = c.in_ok-tree.ensures.numbers;
    }))
