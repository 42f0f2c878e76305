use Rattle.std.proofs.Common.{◌≡◌, ℕ, [], ◌∷◌, ◌++◌, not, if◌then◌else◌, Bool, true, false, List, refl, sym, ap, ◌∙◌}
use Rattle.texts.specs.Repeated.{has_name, seen, texts}
use Rattle.texts.proofs.Tables.{list_any-texts, texts-insert_key}
use Rattle.box_trees.proofs.link_faults.note.Goals as goal

flipped : (b : Bool) (xs ys : List (List ℕ)) → (if b then xs else ys) ≡ (if not b then ys else xs)
flipped true xs ys = refl
flipped false xs ys = refl

pub returns : goal.returns
returns c =
    let fresh = c.in_ok-insert.ensures.added ∙ ap not (list_any-texts c.args.name.now c.args.table.now.keys) in
    let names = seen c.args.table.now in
    let name = c.args.name.now in (
      fresh,
      ap texts c.in_ok-insert.ensures.keys ∙ texts-insert_key c.args.table.now.keys c.args.name ∙ flipped (has_name names name) names (names ++ name ∷ [])
          ∙ ap (λ b. if b then names ++ name ∷ [] else names) (sym fresh),
    )
