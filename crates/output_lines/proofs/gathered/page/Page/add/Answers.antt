use Rattle.std.proofs.Common.{◌≡◌, ℕ, arith, length, drop, length-drop, ◌∙◌}
use Rattle.std.specs.Prelude.{vec_len}
use Rattle.output_lines.proofs.gathered.page.Page.add.Goals as goal

pub returns-clause-some : goal.returns-clause-some
returns-clause-some c = λ empty some.
    let shorter = length-drop c.self.inside.gone c.self.inside.bytes.items in
    let none : length (drop c.self.inside.gone c.self.inside.bytes.items) ≡ 0 = grind (arith, c.self.view_is, empty) in
    let no : vec_len c.self.inside.bytes ≡ 0 = c.self.invariant.emptied (omega (arith, shorter, none)) in
    omega (arith, no, some, c.len.ensures, c.min-count.ensures)
