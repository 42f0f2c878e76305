use Rattle.std.proofs.Common.{◌≡◌, ◌-◌, ◌++◌, ℕ, drop, map}
use Rattle.std.specs.List.{enumerate_from}
use Rattle.scan_vectors.specs.declared.lines.Line.{Line}
use Rattle.scan_programs.proofs.program_lines.numbered.Given as goal

abbrev pub invariant-loop-number : goal.invariant-loop-number
invariant-loop-number l = l.numbers ++ map (λ (row : ℕ × Line). row.0) (enumerate_from l.number (drop (l.number - 2) l.fn.list)) ≡ map (λ (row : ℕ × Line). row.0) (enumerate_from 2 l.fn.list)
