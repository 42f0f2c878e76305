-- Rows in the order of their numbers, one by one.
use Rattle.std.proofs.Common.{◌≡◌, ℕ, ◌+◌, ◌<◌, List, [], ◌∷◌, ◌++◌, map, ap, ◌∙◌, add-one, arith}
use Rattle.std.specs.List.{filter_map, cons_option}
use Rattle.std.specs.Prelude.{find}
use Rattle.std.proofs.lemmas.List.Elements.{filter_map-append}
use Rattle.std.proofs.lemmas.List.{map-append}
use Rattle.list_laws.proofs.Lists.{counted-last}
use Rattle.bsdl_device.specs.declared.entries.RowEntry.{RowEntry}
use Rattle.bsdl_device.specs.declared.written.DeclaredPort.{DeclaredPort}
use Rattle.bsdl_device.specs.Ports.{counted_from}
use Rattle.bsdl_device.specs.Checks.{is_numbered}
use Rattle.bsdl_device.specs.Denoted.{ordered_rows, cell_of}

-- one number more
pub ordered_next : (rows : List RowEntry) (n : ℕ) → ordered_rows (n + 1) rows ≡ ordered_rows n rows ++ cons_option (find (is_numbered n) rows) []
ordered_next rows n =
    let e : 0 + n ≡ n = omega arith in
    ap (λ (k : ℕ). ordered_rows k rows) (add-one n)
    ∙ ap (filter_map (λ (number : ℕ). find (is_numbered number) rows)) (counted-last 0 n ∙ ap (λ (k : ℕ). counted_from 0 n ++ k ∷ []) e)
    ∙ filter_map-append (λ (number : ℕ). find (is_numbered number) rows) (counted_from 0 n) (n ∷ [])

pub cells_next : (ports : List DeclaredPort) (rows : List RowEntry) (n : ℕ) → map (cell_of ports) (ordered_rows (n + 1) rows) ≡ map (cell_of ports) (ordered_rows n rows) ++ map (cell_of ports) (cons_option (find (is_numbered n) rows) [])
cells_next ports rows n = ap (map (cell_of ports)) (ordered_next rows n) ∙ map-append (cell_of ports) (ordered_rows n rows) (cons_option (find (is_numbered n) rows) [])
