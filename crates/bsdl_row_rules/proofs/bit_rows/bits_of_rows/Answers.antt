use Rattle.std.proofs.Common.{List, [], ◌++◌, ◌∙◌, ap, sym}
use Rattle.std.specs.List.{cons_option}
use Rattle.bsdl_device.specs.declared.entries.PortBit.{PortBit}
use Rattle.bsdl_device.specs.declared.entries.RowEntry.{RowEntry}
use Rattle.bsdl_row_rules.proofs.Bits.{filter_map-next}
use Rattle.bsdl_row_rules.proofs.bit_rows.bits_of_rows.Goals as goal

pub loop-row-preserved : goal.loop-row-preserved
loop-row-preserved c =
    c.in_ok-push_bit.ensures
    ∙ ap (λ (bits : List PortBit). bits ++ cons_option c.row-item.result.port []) c.loop-row.invariant
    ∙ sym (filter_map-next (λ (r : RowEntry). r.port) c.args.rows.now c.loop-row.row-index c.row-item.result c.loop-row-test.true c.row-item.is)
