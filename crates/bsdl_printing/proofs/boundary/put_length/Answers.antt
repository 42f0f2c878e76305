use Rattle.std.proofs.Common.{◌≡◌, ℕ, List, ◌++◌, OnOk, ap, subst, ◌∙◌, append_assoc}
use Rattle.std.specs.Prelude.{codes}
use Rattle.std.specs.Fmt.{decimal}
use Rattle.bsdl_device.specs.Canonical.{attribute_text, boundary_length_text}
use Rattle.bsdl_printing.proofs.boundary.put_length.Goals as goal

pub returns : goal.returns
unfolding boundary_length_text
returns c =
    let attribute : List ℕ = attribute_text (codes ")\";\n") (codes "BOUNDARY_LENGTH") c.args.entity.now (codes " ") in
    let P : List ℕ → Type 0 = λ text. OnOk c.put_number.result (c.put_number.new.text ≡ text) in
    subst P (ap (λ (text : List ℕ). text ++ decimal c.args.count) c.in_ok-put_attribute.ensures ∙ append_assoc c.args.text.now attribute (decimal c.args.count)) c.put_number.ensures
