use Rattle.std.proofs.Common.{sym}
use Rattle.bsdl_contents.proofs.entries.parted.held_entries.Goals as goal

pub returns-in-Err-Wrong : goal.returns-in-Err-Wrong
returns-in-Err-Wrong c = sym (rw c.in-Err-Wrong.field-0-is at c.in-Err-Wrong.ensures)
