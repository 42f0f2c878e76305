use Rattle.std.proofs.Common.{ℕ, List, Bor, ◌++◌, map, sym, ap, subst, ◌∙◌}
use Rattle.cell_library.specs.Sound.{IsLibrary}
use Rattle.cell_text.specs.Cells.{cell_in}
use Rattle.cell_text.specs.Reader.{rows_of}
use Rattle.box_model.specs.declared.boxes.BoxCell.{BoxCell}
use Rattle.box_texts.specs.Boxes.{box_in, bare_of}
use Rattle.box_texts.proofs.KeptRows.{library_can}
use Rattle.box_texts.proofs.reader.library_of.Goals as goal

pub with_bare_cells-requires : goal.with_bare_cells-requires
with_bare_cells-requires c =
    let cells = c.in_ok-cells.cells in
    subst (λ (l : List BoxCell). IsLibrary (cells ++ map bare_of l)) (sym c.as_slice-3.ensures)
    (library_can c.own_names_are_exact.ensures c.args.kept.now cells c.in_ok-boxes.boxes c.requires
    (ap (λ (l : List (Bor (List ℕ))). map cell_in (rows_of l)) (sym c.as_slice.ensures.value) ∙ c.in_ok-cells.ensures.cells)
    (ap (λ (l : List (Bor (List ℕ))). map box_in (rows_of l)) (sym c.as_slice-2.ensures.value) ∙ c.in_ok-boxes.ensures.boxes))
