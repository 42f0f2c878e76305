-- The written netlist has the cells of the netlist without the test logic, under their numbers and names.
use Rattle.std.proofs.Common.{◌≡◌, ℕ, zero, suc, ◌+◌, List, [], ◌∷◌, refl, sym, ◌∙◌, ap, subst, Option, Some, None, arith}
use Rattle.std.specs.Prelude.{slice_get, unwrap_or}
use Rattle.std.specs.Option.{option_map}
use Rattle.std.proofs.lemmas.Option.{same_Some}
use Rattle.list_laws.proofs.Options.{is_there}
use Rattle.cell_library.specs.declared.Kind.{Kind}
use Rattle.link_model.specs.Cells.{NamedCell}
use Rattle.link_model.specs.Denoted.{IsName, IsLive, AreCells}
use Rattle.netlist_model.specs.declared.Name.{Name}
use Rattle.netlist_model.specs.declared.Name.TheVariants.{Original, Added}
use Rattle.netlist_model.specs.Lists.{CellView, NetlistView, live_cell, cell_at}
use Rattle.netlist_model.specs.Contained.{IsDense}
use Rattle.core_sides.specs.netlist_unlink.Trees.{Naming, cell_text}
use Rattle.core_sides.specs.netlist_unlink.Renumbered.{cells_from, new_cell}
use Rattle.core_sides.specs.netlist_unlink.ImagesLaws.{new_place, DenseKeepsPlaces}
use Rattle.wrapped_chip.specs.Realises.{IsCalled}
use Rattle.written_netlists.specs.Written.{spelt}

-- The cells of the tree.

new_there : (naming : Naming) (order : List ℕ) (number : ℕ) (places : List (Option CellView)) (k : ℕ) (cell : CellView) → live_cell (slice_get places k) ≡ Some cell
    → slice_get (cells_from naming order number places) (new_place places k) ≡ Some (new_cell naming order (number + k) cell)
new_there naming order number [] k cell e = absurd (let no : None ≡ Some cell = e in cc)
new_there naming order number (None ∷ places) zero cell e = absurd (let no : None ≡ Some cell = e in cc)
new_there naming order number (Some c ∷ places) zero cell e =
    let same : c ≡ cell = same_Some c cell e in
    let at : number ≡ number + 0 = omega arith in
    ap (λ (x : CellView). Some (new_cell naming order number x)) same ∙ ap (λ (n : ℕ). Some (new_cell naming order n cell)) at
new_there naming order number (None ∷ places) (suc k) cell e =
    let at : number + 1 + k ≡ number + suc k = omega arith in
    new_there naming order (number + 1) places k cell e ∙ ap (λ (n : ℕ). Some (new_cell naming order n cell)) at
new_there naming order number (Some c ∷ places) (suc k) cell e =
    let at : number + 1 + k ≡ number + suc k = omega arith in
    new_there naming order (number + 1) places k cell e ∙ ap (λ (n : ℕ). Some (new_cell naming order n cell)) at

-- without gaps each stands under its number
pub cell_there : DenseKeepsPlaces → (naming : Naming) (order : List ℕ) (N : NetlistView) → IsDense N → (i : ℕ) (cell : CellView) → cell_at N i ≡ Some cell
    → slice_get (cells_from naming order 0 N.cells) i ≡ Some (new_cell naming order i cell)
cell_there law naming order N dense i cell live =
    let place : new_place N.cells i ≡ i = law N dense i (is_there (cell_at N i) cell live) in
    let zero_more : 0 + i ≡ i = omega arith in
    ap (slice_get (cells_from naming order 0 N.cells)) (sym place) ∙ new_there naming order 0 N.cells i cell live ∙ ap (λ (n : ℕ). Some (new_cell naming order n cell)) zero_more

-- Names.

-- the name of a cell that a text tells is original
original_there : (table : List (List ℕ)) (name : Name) (named : Option (List ℕ)) → IsName table (Some name) named → (number : ℕ) × (bytes : List ℕ) × (name ≡ Original number) × (slice_get table number ≡ Some bytes)
original_there table name None is = absurd is
original_there table (Original number) (Some bytes) is = (number, bytes, refl, is)
original_there table (Added number) (Some bytes) is = absurd (let no : None ≡ Some bytes = is in cc)

-- what is read of a cell's name
read_name : (table : List (List ℕ)) (name : Option Name) (named : Option (List ℕ)) → IsName table name named → option_map (spelt table) name ≡ named
read_name table None None is = refl
read_name table None (Some bytes) is = absurd is
read_name table (Some name) None is = absurd is
read_name table (Some name) (Some bytes) is = ap (λ (o : Option (List ℕ)). Some (unwrap_or o [])) is

-- a name of the old table is written as before
same_name : (old : List (List ℕ)) (naming : Naming) (number : ℕ) → ((k : ℕ) (bytes : List ℕ) → slice_get old k ≡ Some bytes → slice_get naming.table k ≡ Some bytes)
    → (name : Option Name) (named : Option (List ℕ)) → IsName old name named → option_map (cell_text naming number) name ≡ option_map (spelt old) name
same_name old naming number kept None named is = refl
same_name old naming number kept (Some name) named is =
    let own = original_there old name named is in
    let here : cell_text naming number (Original own.0) ≡ own.1 = text_at naming number own.0 own.1 (kept own.0 own.1 own.3) in
    let there : spelt old (Original own.0) ≡ own.1 = ap (λ (o : Option (List ℕ)). unwrap_or o []) own.3 in
    subst (λ (n : Name). option_map (cell_text naming number) (Some n) ≡ option_map (spelt old) (Some n)) (sym own.2) (ap (λ (bytes : List ℕ). Some bytes) (here ∙ sym there))
  where
    text_at : (naming : Naming) (number k : ℕ) (bytes : List ℕ) → slice_get naming.table k ≡ Some bytes → cell_text naming number (Original k) ≡ bytes
    text_at naming number k bytes e = rw e refl

-- One cell.

called : (M : NetlistView) (table : List (List ℕ)) (i : ℕ) (named : NamedCell) (found : Option CellView) → cell_at M i ≡ found → IsLive table found named
    → IsCalled M (spelt table) i named.kind named.name
called M table i named None at live = absurd live
called M table i named (Some cell) at live = record { cell = cell; live = at; kinds = live.kind; names = read_name table cell.name named.name live.name }

called_as : (M : NetlistView) (spelt : Name → List ℕ) (i : ℕ) (kind kind' : Kind) (name name' : Option (List ℕ)) → kind ≡ kind' → name ≡ name' → IsCalled M spelt i kind name → IsCalled M spelt i kind' name'
called_as M spelt i kind kind' name name' k n is = record { cell = is.cell; live = is.live; kinds = is.kinds ∙ k; names = is.names ∙ n }

-- a cell that stands in the stitched netlist with the kind and name that it had is told so
pub cell_called : DenseKeepsPlaces → (S M : NetlistView) (old written : List (List ℕ)) (naming : Naming) (order : List ℕ) → IsDense S
    → ((k : ℕ) (bytes : List ℕ) → slice_get old k ≡ Some bytes → slice_get naming.table k ≡ Some bytes) → AreCells written M (cells_from naming order 0 S.cells)
    → (i : ℕ) (cell found : CellView) (named : Option (List ℕ)) → IsName old cell.name named → cell_at S i ≡ Some found → found.kind ≡ cell.kind → found.name ≡ cell.name
    → IsCalled M (spelt written) i cell.kind (option_map (spelt old) cell.name)
cell_called law S M old written naming order dense kept are i cell found named is at kind name =
    let new : NamedCell = new_cell naming order i found in
    let there = cell_there law naming order S dense i found at in
    called_as M (spelt written) i new.kind cell.kind new.name (option_map (spelt old) cell.name) kind
    (ap (option_map (cell_text naming i)) name ∙ same_name old naming i kept cell.name named is)
    (called M written i new (cell_at M i) refl (are.each i new there))
