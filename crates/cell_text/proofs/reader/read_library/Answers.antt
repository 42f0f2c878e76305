use Rattle.std.proofs.Common.{ℕ, List, [], map, Some, Bor, sym, ap, ◌∙◌, arith}
use Rattle.texts.specs.Repeated.{bytes_of}
use Rattle.cell_text.specs.Rules.{barred_after, name_in}
use Rattle.cell_text.specs.Reader.{rows_of}
use Rattle.cell_text.proofs.ReadBack.{name_told}
use Rattle.cell_text.proofs.reader.read_library.Goals as goal

pub returns-in-Some-clause-fault : goal.returns-in-Some-clause-fault
returns-in-Some-clause-fault c =
    name_told c.args.bytes.now c.in_ok-kept.kept c.in_ok-from_bytes-in-Some.field-0 c.in_ok-kept.ensures.kept (let few = c.if-kept.false in omega arith)
    (ap (λ (n : List ℕ). Some n) c.in_ok-from_bytes-in-Some.ensures ∙ ap bytes_of (sym c.in-Some.is) ∙ c.in_ok-name.ensures
    ∙ ap (λ (l : List (Bor (List ℕ))). barred_after [] (map name_in (rows_of l))) c.as_slice.ensures.value)
