-- What a table of cells finds under names.
use Rattle.std.proofs.Common.{◌≡◌, ℕ, ◌+◌, List, [], ◌∷◌, ◌++◌, take, position, Option, Some, None, is_some, Bor, refl, ap, sym, ◌∙◌}
use Rattle.std.specs.Prelude.{slice_get}
use Rattle.std.specs.Map.{lookup}
use Rattle.std.specs.Str.{bytes_eq}
use Rattle.list_laws.proofs.Lists.{taken_more, map_push}
use Rattle.cell_library.specs.declared.listed.ListedCell.{ListedCell}
use Rattle.cell_library.specs.Library.{own_or_listed}
use Rattle.hier_model.specs.WalkNames.{texts}
use Rattle.hier_model.proofs.Tables.{lent, position-map}
use Rattle.hier_counts.specs.Cells.{cell_names, FindsCells}

-- the names of one cell more
pub names_more : (library : List ListedCell) (n : ℕ) (cell : ListedCell) (name : Bor (List ℕ)) (names new : List (Bor (List ℕ))) → slice_get library n ≡ Some cell → name.now ≡ cell.name → texts names ≡ cell_names (take n library)
    → new ≡ names ++ name ∷ [] → texts new ≡ cell_names (take (n + 1) library)
names_more library n cell name names new at same front is =
    ap texts is ∙ map_push (λ (k : Bor (List ℕ)). k.now) names name
    ∙ ap (λ (l : List (List ℕ)). l ++ name.now ∷ []) front
    ∙ ap (λ (x : List ℕ). cell_names (take n library) ++ x ∷ []) same
    ∙ sym (map_push (λ (k : ListedCell). k.name) (take n library) cell)
    ∙ ap cell_names (taken_more library n cell (take n library) (take n library ++ cell ∷ []) at refl refl)

-- a table of first places finds cells
pub finds_cells : (library : List ListedCell) (names : List (Bor (List ℕ))) (entries : List (Bor (List ℕ) × ℕ)) → texts names ≡ cell_names library
    → ((k : Bor (List ℕ)) → lookup (λ (j : Bor (List ℕ)). bytes_eq k.now j.now) entries ≡ position (λ (j : Bor (List ℕ)). bytes_eq k.now j.now) names) → FindsCells library entries
finds_cells library names entries same finds = record {
  places = λ name.
      finds (lent name)
      ∙ sym (position-map (bytes_eq name) (λ (k : Bor (List ℕ)). k.now) names)
      ∙ ap (position (bytes_eq name)) same
      ∙ position-map (bytes_eq name) (λ (cell : ListedCell). cell.name) library;
}

-- a name that none of the seven has is that of a listed cell
pub listed_alone : (place : Option ℕ) → is_some place ≡ is_some (own_or_listed None place)
listed_alone None = refl
listed_alone (Some number) = refl
