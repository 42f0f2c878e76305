-- The law of the written tree.
use Rattle.std.proofs.Common.{List, ℕ}
use Rattle.netlist_link.specs.Linked.{LinkedView}
use Rattle.netlist_unlink.specs.Trees.{tree_of}
use Rattle.netlist_unlink.specs.Renumbered.{IsWrittenAs}
use Rattle.netlist_unlink.proofs.Bits.{each_once}
use Rattle.netlist_unlink.proofs.Denotes.{denotes, text_is}
use Rattle.netlist_unlink.proofs.Keys.{CanName}
use Rattle.netlist_unlink.proofs.Linkable.{links_again}

pub is_written : (linked : LinkedView) (prefix : List ℕ) → CanName linked prefix → IsWrittenAs linked prefix (tree_of linked prefix)
is_written linked prefix w = record { fault = text_is linked prefix w; links = links_again linked prefix w; denotes = denotes linked prefix w; nets = each_once linked prefix w }
