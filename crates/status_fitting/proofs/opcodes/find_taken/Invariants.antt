use Rattle.std.proofs.Common.{◌≡◌, [], take, drop}
use Rattle.status_fitting.specs.Keys.{patterns_in}
use Rattle.status_fitting.specs.Opcodes.{is_taken, opcodes_of}
use Rattle.status_fitting.specs.Steps.{fault_behind, opcode_fault}
use Rattle.status_fitting.proofs.opcodes.find_taken.Given as goal

abbrev pub invariant-loop-row : goal.invariant-loop-row
invariant-loop-row l = record {
  before : patterns_in l.before.keys ≡ opcodes_of (take l.row-index l.rows);
  walked : fault_behind (is_taken l.base) opcode_fault (take l.row-index l.rows) (drop l.row-index l.rows) ≡ fault_behind (is_taken l.base) opcode_fault [] l.rows;
}
