use Rattle.std.proofs.Common.{ℕ, List, ◌++◌, ap, ◌∙◌, flat_map}
use Rattle.netlist_arena.specs.Arena.{bit_count}
use Rattle.bsdl_device.specs.declared.registers.values.TestRegister.{TestRegister}
use Rattle.insertion_report.specs.Reports.{report_of}
use Rattle.insertion_report.proofs.OwnBits.{all_bits}
use Rattle.status_insertions.specs.Reports.{register_line}
use Rattle.status_insertions.proofs.lines.report_all.Goals as goal

pub returns : goal.returns
returns c =
    let L = c.args.linked.now in
    let kept = c.args.fitted.now.kept in
    let device = c.args.extended.now.device in
    c.in_ok-add_registers.ensures
    ∙ ap (λ (front : List ℕ). front ++ flat_map register_line c.as_slice.result.now) (c.in_ok-text.ensures ∙ ap (λ (bits : ℕ). report_of bits kept device) (all_bits L c.requires))
    ∙ ap (λ (registers : List TestRegister). report_of (bit_count L.arena.lists.ports) kept device ++ flat_map register_line registers) c.as_slice.ensures
