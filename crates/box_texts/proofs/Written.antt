-- The canonical text, piece by piece.
use Rattle.std.proofs.Common.{◌≡◌, ◌≤◌, ℕ, ◌+◌, ◌-◌, true, false, List, [], ◌∷◌, ◌++◌, map, take, length, codes, slice_get, flat_map, Option, Some, None, refl, sym, ap, ◌∙◌, append_assoc, append-nil}
use Rattle.std.specs.Fmt.{decimal}
use Rattle.std.proofs.lemmas.Grind.{flat_map-append}
use Rattle.list_laws.proofs.Lists.{taken_more, front_all, map_push}
use Rattle.verilog_tree.specs.declared.tree.Range.{Range}
use Rattle.word_cutter.specs.Rows.{behind_blank, row_text, rows_text}
use Rattle.cell_library.specs.declared.listed.ListedCell.{ListedCell}
use Rattle.cell_text.specs.Words.{Words}
use Rattle.cell_text.specs.Grammar.{cell_words}
use Rattle.cell_text.proofs.Rows.{rows_push}
use Rattle.box_model.specs.declared.boxes.BoxCell.{BoxCell}
use Rattle.box_model.specs.declared.boxes.BoxDir.{BoxDir}
use Rattle.box_model.specs.declared.boxes.BoxDir.TheVariants.{Takes, Gives}
use Rattle.box_model.specs.declared.boxes.BoxLibrary.{BoxLibrary}
use Rattle.box_model.specs.declared.boxes.BoxPort.{BoxPort}
use Rattle.box_texts.specs.Sound.{is_dir, ports_to}
use Rattle.box_texts.specs.Grammar.{version_words, cut_words}
use Rattle.box_texts.specs.Canonical.{bounds_text, range_text, port_text, port_words, box_words, own_cells, canonical_boxes}
use Rattle.box_texts.proofs.Sorting.{passes_last, fails_last}

-- Ports.

pub bounds_put : (t one two three four last : List ℕ) (range : Range) → one ≡ t ++ codes "[" → two ≡ one ++ decimal range.left → three ≡ two ++ codes ":" → four ≡ three ++ decimal range.right
    → last ≡ four ++ codes "]" → last ≡ t ++ bounds_text range
bounds_put t one two three four last range a b c d e = e ∙ rw (d, c, b, a) (simp append_assoc)

pub scalar_put : (t new : List ℕ) (p : BoxPort) → new ≡ t ++ behind_blank p.name → p.range ≡ None → new ≡ t ++ behind_blank (port_text p)
scalar_put t new p a none =
    a ∙ ap (λ (l : List ℕ). t ++ behind_blank l) (sym (ap (λ (r : Option Range). p.name ++ range_text r) none ∙ append-nil p.name))

pub vector_put : (t one new : List ℕ) (p : BoxPort) (range : Range) → one ≡ t ++ behind_blank p.name → new ≡ one ++ bounds_text range → p.range ≡ Some range → new ≡ t ++ behind_blank (port_text p)
vector_put t one new p range a b some =
    b ∙ ap (λ (l : List ℕ). l ++ bounds_text range) a
    ∙ append_assoc t (behind_blank p.name) (bounds_text range)
    ∙ ap (λ (r : Option Range). t ++ behind_blank (p.name ++ range_text r)) (sym some)

-- the ports so far
abbrev pub PortsPut : List ℕ → BoxDir → List BoxPort → List ℕ → Type 0
PortsPut t dir ports text = text ≡ t ++ flat_map behind_blank (port_words dir ports)

taken : (ports : List BoxPort) (k : ℕ) (p : BoxPort) → slice_get ports k ≡ Some p → take (k + 1) ports ≡ take k ports ++ p ∷ []
taken ports k p at = sym (taken_more ports k p (take k ports) (take k ports ++ p ∷ []) at refl refl)

pub port_there : (t text new : List ℕ) (dir : BoxDir) (ports : List BoxPort) (k : ℕ) (p : BoxPort) → slice_get ports k ≡ Some p → is_dir p.dir dir ≡ true → new ≡ text ++ behind_blank (port_text p)
    → PortsPut t dir (take k ports) text → PortsPut t dir (take (k + 1) ports) new
port_there t text new dir ports k p at is grown so_far =
    let front = ports_to dir (take k ports) in
    let more : ports_to dir (take (k + 1) ports) ≡ front ++ p ∷ [] = ap (ports_to dir) (taken ports k p at) ∙ passes_last (λ (q : BoxPort). is_dir q.dir dir) (take k ports) p is in
    let words : port_words dir (take (k + 1) ports) ≡ map port_text front ++ port_text p ∷ [] = ap (map port_text) more ∙ map_push port_text front p in
    grown ∙ ap (λ (l : List ℕ). l ++ behind_blank (port_text p)) so_far
    ∙ append_assoc t (flat_map behind_blank (map port_text front)) (behind_blank (port_text p))
    ∙ ap (λ (l : List ℕ). t ++ l) (ap (λ (l : List ℕ). flat_map behind_blank (map port_text front) ++ l) (sym (append-nil (behind_blank (port_text p))))
    ∙ sym (flat_map-append behind_blank (map port_text front) (port_text p ∷ [])) ∙ ap (flat_map behind_blank) (sym words))

pub port_passed : (t text : List ℕ) (dir : BoxDir) (ports : List BoxPort) (k : ℕ) (p : BoxPort) → slice_get ports k ≡ Some p → is_dir p.dir dir ≡ false → PortsPut t dir (take k ports) text
    → PortsPut t dir (take (k + 1) ports) text
port_passed t text dir ports k p at other so_far =
    so_far ∙ ap (λ (l : List BoxPort). t ++ flat_map behind_blank (map port_text l))
    (sym (ap (ports_to dir) (taken ports k p at) ∙ fails_last (λ (q : BoxPort). is_dir q.dir dir) (take k ports) p other))

pub ports_put : (t text : List ℕ) (dir : BoxDir) (ports : List BoxPort) (k : ℕ) → length ports ≤ k → PortsPut t dir (take k ports) text → PortsPut t dir ports text
ports_put t text dir ports k all so_far = so_far ∙ ap (λ (l : List BoxPort). t ++ flat_map behind_blank (port_words dir l)) (front_all ports k all)

pub box_put : (t one two three four last : List ℕ) (cell : BoxCell) → one ≡ t ++ codes "box" ++ behind_blank cell.name → two ≡ one ++ flat_map behind_blank (port_words Gives cell.ports)
    → three ≡ two ++ behind_blank (codes ":") → four ≡ three ++ flat_map behind_blank (port_words Takes cell.ports) → last ≡ four ++ codes "\n" → last ≡ t ++ row_text (box_words cell)
box_put t one two three four last cell a b c d e =
    let gives = port_words Gives cell.ports in
    let takes = port_words Takes cell.ports in
    e ∙ rw (d, c, b, a) (joined t (behind_blank cell.name) (flat_map behind_blank gives) (behind_blank (codes ":")) (flat_map behind_blank takes))
    ∙ ap (λ (l : List ℕ). t ++ ((codes "box" ++ (behind_blank cell.name ++ l)) ++ codes "\n")) (sym (flat_map-append behind_blank gives (codes ":" ∷ takes)))
  where
    joined : (t n g c i : List ℕ) → ((((t ++ codes "box" ++ n) ++ g) ++ c) ++ i) ++ codes "\n" ≡ t ++ ((codes "box" ++ (n ++ (g ++ (c ++ i)))) ++ codes "\n")
    joined t n g c i = simp append_assoc

-- Rows.

abbrev pub RowsPut : {X : Type 0} → (X → Words) → List ℕ → List X → List ℕ → Type 0
RowsPut words t xs text = text ≡ t ++ rows_text (map words xs)

row_put : {X : Type 0} (words : X → Words) (t text new : List ℕ) (xs : List X) (k : ℕ) (x : X) → slice_get xs k ≡ Some x → new ≡ text ++ row_text (words x) → RowsPut words t (take k xs) text
    → RowsPut words t (take (k + 1) xs) new
row_put {X = X} words t text new xs k x at grown so_far =
    let front = map words (take k xs) in
    let taken : take k xs ++ x ∷ [] ≡ take (k + 1) xs = taken_more xs k x (take k xs) (take k xs ++ x ∷ []) at refl refl in
    let rows : rows_text (map words (take (k + 1) xs)) ≡ rows_text front ++ row_text (words x) = ap rows_text (ap (map words) (sym taken) ∙ map_push words (take k xs) x) ∙ rows_push front (words x) in
    grown ∙ ap (λ (l : List ℕ). l ++ row_text (words x)) so_far ∙ append_assoc t (rows_text front) (row_text (words x)) ∙ ap (λ (l : List ℕ). t ++ l) (sym rows)

rows_put : {X : Type 0} (words : X → Words) (t text : List ℕ) (xs : List X) (k : ℕ) → length xs ≤ k → RowsPut words t (take k xs) text → RowsPut words t xs text
rows_put {X = X} words t text xs k all so_far = so_far ∙ ap (λ (l : List X). t ++ rows_text (map words l)) (front_all xs k all)

pub box_row_put : (t text new : List ℕ) (boxes : List BoxCell) (k : ℕ) (b : BoxCell) → slice_get boxes k ≡ Some b → new ≡ text ++ row_text (box_words b) → RowsPut box_words t (take k boxes) text
    → RowsPut box_words t (take (k + 1) boxes) new
box_row_put t text new boxes k b at grown so_far = row_put box_words t text new boxes k b at grown so_far

pub box_rows_put : (t text : List ℕ) (boxes : List BoxCell) (k : ℕ) → length boxes ≤ k → RowsPut box_words t (take k boxes) text → RowsPut box_words t boxes text
box_rows_put t text boxes k all so_far = rows_put box_words t text boxes k all so_far

pub cut_row_put : (t text new : List ℕ) (cuts : Words) (k : ℕ) (n : List ℕ) → slice_get cuts k ≡ Some n → new ≡ text ++ row_text (cut_words n) → RowsPut cut_words t (take k cuts) text
    → RowsPut cut_words t (take (k + 1) cuts) new
cut_row_put t text new cuts k n at grown so_far = row_put cut_words t text new cuts k n at grown so_far

pub cut_rows_put : (t text : List ℕ) (cuts : Words) (k : ℕ) → length cuts ≤ k → RowsPut cut_words t (take k cuts) text → RowsPut cut_words t cuts text
cut_rows_put t text cuts k all so_far = rows_put cut_words t text cuts k all so_far

pub cell_row_put : (t text new : List ℕ) (cells : List ListedCell) (k : ℕ) (c : ListedCell) → slice_get cells k ≡ Some c → new ≡ text ++ row_text (cell_words c) → RowsPut cell_words t (take k cells) text
    → RowsPut cell_words t (take (k + 1) cells) new
cell_row_put t text new cells k c at grown so_far = row_put cell_words t text new cells k c at grown so_far

pub all_put : (library : BoxLibrary) (count : ℕ) (none one two three four : List ℕ) → count ≡ length library.cells - length library.boxes → none ≡ [] → one ≡ none ++ row_text version_words
    → two ≡ one ++ rows_text (map cell_words (take count library.cells)) → three ≡ two ++ rows_text (map box_words library.boxes) → four ≡ three ++ rows_text (map cut_words library.cuts)
    → four ≡ canonical_boxes library
all_put library count none one two three four is z a b c d =
    let cells = map cell_words (own_cells library) in
    let boxes = map box_words library.boxes in
    let cuts = map cut_words library.cuts in
    let own : two ≡ one ++ rows_text cells = b ∙ ap (λ (n : ℕ). one ++ rows_text (map cell_words (take n library.cells))) is in
    d ∙ ap (λ (l : List ℕ). l ++ rows_text cuts) (c ∙ ap (λ (l : List ℕ). l ++ rows_text boxes) (own ∙ ap (λ (l : List ℕ). l ++ rows_text cells) (a ∙ ap (λ (l : List ℕ). l ++ row_text version_words) z)))
    ∙ joined (row_text version_words) (rows_text cells) (rows_text boxes) (rows_text cuts)
    ∙ ap (λ (l : List ℕ). row_text version_words ++ l) (sym (flat_map-append row_text (cells ++ boxes) cuts ∙ ap (λ (l : List ℕ). l ++ rows_text cuts) (flat_map-append row_text cells boxes)))
  where
    joined : (v a b c : List ℕ) → ((v ++ a) ++ b) ++ c ≡ v ++ ((a ++ b) ++ c)
    joined v a b c = simp append_assoc
