use Rattle.std.proofs.Common.{◌≡◌, ◌++◌, take}
use Rattle.std.specs.Prelude.{codes}
use Rattle.verilog_tree.specs.Canonical.{each_after, link_text}
use Rattle.verilog_texts.proofs.printing.items.put_more_links.Given as goal

abbrev pub invariant-loop-link : goal.invariant-loop-link
invariant-loop-link l = l.text ≡ l.fn.text ++ each_after (codes ", ") link_text (take l.link-index l.links)
