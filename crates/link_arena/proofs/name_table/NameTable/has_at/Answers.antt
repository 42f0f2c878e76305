use Rattle.std.proofs.Common.{◌∙◌, ◌≡◌, ap, sym, Some, List, ℕ}
use Rattle.std.proofs.lemmas.Slice.Eq.{bytes_eq-Decides}
use Rattle.link_arena.proofs.Numbers.{number_of-at, number_where}
use Rattle.link_arena.proofs.name_table.NameTable.has_at.Goals as goal

pub returns : goal.returns
returns c =
    let decides = bytes_eq-Decides c.text.result.now c.args.name.now in (
      λ same. number_where c.args.name.now c.args.self.now c.args.number c.len.ensures.once (c.text.ensures ∙ ap (λ (n : List ℕ). Some n) (decides.0 (sym c.eq.ensures ∙ same))),
      λ named.
          let there : Some c.text.result.now ≡ Some c.args.name.now = sym c.text.ensures ∙ number_of-at c.args.name.now c.args.self.now c.args.number named in
          let same : c.text.result.now ≡ c.args.name.now = cc in
          c.eq.ensures ∙ decides.1 same,
    )
