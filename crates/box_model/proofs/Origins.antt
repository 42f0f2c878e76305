-- Each item of an opened module has an origin.
use Rattle.std.proofs.Common.{◌≡◌, ℕ, suc, ◌+◌, List, [], ◌∷◌, map, length, refl, sym, ap, ◌∙◌, length-append}
use Rattle.std.specs.List.{flat_map}
use Rattle.std.proofs.lemmas.List.{length-map}
use Rattle.verilog_tree.specs.declared.tree.Item.{Item}
use Rattle.verilog_tree.specs.declared.tree.Module.{Module}
use Rattle.box_model.specs.declared.boxes.BoxLibrary.{BoxLibrary}
use Rattle.box_model.specs.Opened.{opened_item, origins_from}
use Rattle.box_model.specs.Laws.{OriginsAreAsMany}

from : (B : BoxLibrary) (m : Module) (number : ℕ) (items : List Item) → length (origins_from B m number items) ≡ length (flat_map (opened_item B m) items)
from B m number [] = refl
from B m number (x ∷ items) =
    length-append (map (λ (made : Item). number) (opened_item B m x)) (origins_from B m (suc number) items)
    ∙ ap (λ (n : ℕ). n + length (origins_from B m (suc number) items)) (length-map (opened_item B m x) (λ (made : Item). number))
    ∙ ap (λ (n : ℕ). length (opened_item B m x) + n) (from B m (suc number) items)
    ∙ sym (length-append (opened_item B m x) (flat_map (opened_item B m) items))

pub origins_are_as_many : OriginsAreAsMany
origins_are_as_many B k m = from B m 0 m.items
