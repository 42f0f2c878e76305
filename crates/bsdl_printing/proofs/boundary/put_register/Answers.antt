use Rattle.std.proofs.Common.{◌≡◌, ℕ, List, ◌++◌, OnOk, ap, subst, ◌∙◌, append_assoc}
use Rattle.std.specs.Prelude.{codes}
use Rattle.bsdl_device.specs.Canonical.{attribute_text, rows_text, boundary_rows_text}
use Rattle.bsdl_printing.proofs.boundary.put_register.Goals as goal

pub returns : goal.returns
unfolding boundary_rows_text
returns c =
    let attribute : List ℕ = attribute_text (codes ";\n") (codes "BOUNDARY_REGISTER") c.args.entity.now (codes "\n    \"") in
    let rows : List ℕ = rows_text c.args.ports.now c.args.cells.now in
    let P : List ℕ → Type 0 = λ text. OnOk c.put_rows.result (c.put_rows.new.text ≡ text) in
    subst P (ap (λ (text : List ℕ). text ++ rows) c.in_ok-put_attribute.ensures ∙ append_assoc c.args.text.now attribute rows) c.put_rows.ensures
