use Rattle.std.proofs.Common.{◌≡◌, ◌++◌, ℕ, List, OnOk, subst, Bor}
use Rattle.bsdl_printing.proofs.Pieces.{flat_map_is_pieces}
use Rattle.bsdl_printing.proofs.text.put_all.Goals as goal

pub returns : goal.returns
returns c = subst (λ (added : List ℕ). OnOk c.put_each.result (c.put_each.new.text ≡ c.args.text.now ++ added)) (flat_map_is_pieces (λ (piece : Bor (List ℕ)). piece.now) c.args.pieces.now) c.put_each.ensures
