use Rattle.std.proofs.Common.{◌≡◌, ℕ, ◌∙◌, drop, ap, sym, arith}
use Rattle.std.specs.List.{position_from}
use Rattle.std.proofs.lemmas.Iterator.Adapters.{position_from-zero}
use Rattle.scan_programs.specs.Tables.{is_key}
use Rattle.scan_programs.proofs.cell_table.first_places.Goals as goal

pub returns : goal.returns
returns c = λ key.
    let all : c.loop-number.number ≡ 0 = omega arith in
    c.loop-number.invariant key
    ∙ ap (λ (n : ℕ). position_from (is_key key) n (drop n c.args.cells.now)) all
    ∙ sym (position_from-zero (is_key key) c.args.cells.now)
