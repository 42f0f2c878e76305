use Rattle.std.proofs.Common.{ℕ, List, ◌+◌, ◌<◌, ◌++◌, take, length, get_or, sym, ap, ◌∙◌, None, append_assoc, rules, arith}
use Rattle.std.specs.List.{enumerate_from}
use Rattle.cell_library.specs.declared.codes.BoundaryKind.TheVariants.{Bc1}
use Rattle.cell_library.specs.declared.codes.Function.TheVariants.{Input}
use Rattle.bsdl_device.specs.declared.values.Safe.TheVariants.{Zero}
use Rattle.bsdl_device.specs.declared.values.CellRow.{CellRow}
use Rattle.bsdl_device.specs.Canonical.{each_after, next_string, row_text}
use Rattle.bsdl_printing.proofs.Rows.{each_after_more}
use Rattle.bsdl_printing.proofs.boundary.put_more_rows.Goals as goal

pub loop-place-preserved : goal.loop-place-preserved
loop-place-preserved c =
    let ports = c.args.ports.now in
    let rows = c.args.rows.now in
    let i : ℕ = c.loop-place.place in
    let d : CellRow = record { cell = Bc1; pin = None; function = Input; safe = Zero; disable = None } in
    let text : ℕ × CellRow → List ℕ = λ row. row_text ports row.0 row.1 in
    let before : List ℕ = each_after next_string text (enumerate_from 1 (take i rows)) in
    let row : List ℕ = row_text ports (i + 1) (get_or rows i d) in
    let within : i < length rows = search (rules, arith) in
    c.in_ok-put_row.ensures
    ∙ ap (λ (l : List ℕ). l ++ row) (c.in_ok-put_all.ensures ∙ ap (λ (l : List ℕ). l ++ next_string) c.loop-place.invariant)
    ∙ append_assoc (c.args.text.now ++ before) next_string row
    ∙ append_assoc c.args.text.now before (next_string ++ row)
    ∙ ap (λ (l : List ℕ). c.args.text.now ++ l) (sym (each_after_more next_string text rows i d within))
