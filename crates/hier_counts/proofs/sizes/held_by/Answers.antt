use Rattle.std.proofs.Common.{◌∙◌, [], List, ap, sym}
use Rattle.verilog_tree.specs.declared.tree.Link.{Link}
use Rattle.hier_model.specs.WalkNames.{module_place}
use Rattle.hier_model.specs.Faults.{cell_limit}
use Rattle.hier_counts.specs.Widths.{capped, joined_bits}
use Rattle.hier_counts.specs.Levels.{held_by}
use Rattle.hier_counts.proofs.SizeLaws.{held_some}
use Rattle.hier_counts.proofs.sizes.held_by.Goals as goal

pub returns : goal.returns
returns c =
    let table = c.args.table.now in
    let i = c.in-Instance.instance in
    let ports = c.index-widths-place.result in
    held_some table c.args.widths.now i c.in-Some.place ports c.in_ok-joined.joined c.requires (c.in-Some.ensures ∙ ap (module_place table) c.as_bytes.ensures) c.index-widths-place.is
    (c.in_ok-joined.ensures ∙ ap (λ (links : List Link). capped cell_limit (joined_bits [] links ports)) c.as_slice.ensures)
    ∙ ap (held_by table) (sym c.in-Instance.is)
