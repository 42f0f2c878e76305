use Rattle.std.proofs.Common.{sym}
use Rattle.link_names.specs.Views.{entries_of}
use Rattle.link_names.proofs.Clear.{clear_width}
use Rattle.link_names.proofs.widths.check_width.Goals as goal

pub returns-then-clear : goal.returns-then-clear
returns-then-clear c = sym (clear_width c.args.library.now (entries_of c.args.table.now) c.args.item.now c.in_default.not-Instance (c.requires.clear c.if-clear.true))
