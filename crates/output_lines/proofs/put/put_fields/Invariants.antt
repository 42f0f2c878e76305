use Rattle.std.proofs.Common.{◌≡◌, ◌≤◌, take}
use Rattle.std.specs.List.{flat_map}
use Rattle.edge_io.specs.Shelf.{appended}
use Rattle.output_lines.specs.Lines.{blank_field}
use Rattle.output_lines.proofs.put.put_fields.Given as goal

abbrev pub invariant-loop-field : goal.invariant-loop-field
invariant-loop-field g l = record {
  given : g.O.Sink.given l.out ≡ appended (flat_map blank_field (take l.field-index l.fields)) (g.O.Sink.given l.fn.out);
  later : g.O.Sink.faults l.fn.out ≤ g.O.Sink.faults l.out;
}
