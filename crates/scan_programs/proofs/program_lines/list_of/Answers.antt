use Rattle.scan_programs.proofs.Chain.{closed_list}
use Rattle.scan_programs.proofs.program_lines.list_of.Goals as goal

pub returns : goal.returns
returns c =
    rw (
      c.into_list.ensures,
      c.in_ok-look-3.ensures,
      c.in_ok-reset.ensures,
      c.in_ok-run.ensures,
      c.in_ok-look-2.ensures,
      c.in_ok-end_reset.ensures,
      c.in_ok-look.ensures,
      c.in_ok-start.ensures,
      c.in_ok-bench.ensures,
      c.as_slice.ensures.value,
      c.in_ok-clocks.ensures,
    ) (closed_list c.args.device.now)
