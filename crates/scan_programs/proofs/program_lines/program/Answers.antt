use Rattle.scan_programs.proofs.Words.{printable}
use Rattle.scan_programs.proofs.program_lines.program.Goals as goal

pub returns-clause-printable : goal.returns-clause-printable
returns-clause-printable c = printable c.args.device.now c.in_ok-list.list c.numbered.result c.requires c.in_ok-list.ensures c.numbered.ensures
