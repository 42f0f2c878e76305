use Rattle.std.proofs.Common.{◌≡◌, ◌++◌, take}
use Rattle.std.specs.List.{enumerate_from}
use Rattle.bsdl_device.specs.Canonical.{each_after, next_string, row_text}
use Rattle.bsdl_printing.proofs.boundary.put_more_rows.Given as goal

abbrev pub invariant-loop-place : goal.invariant-loop-place
invariant-loop-place l = l.text ≡ l.fn.text ++ each_after next_string (λ row. row_text l.ports row.0 row.1) (enumerate_from 1 (take l.place l.rows))
