-- Cells of lines make a library.
use Rattle.std.proofs.Common.{◌≡◌, ◌≢◌, ◌≤◌, ◌<◌, ℕ, zero, suc, ◌+◌, false, not, List, [], ◌∷◌, ◌++◌, map, take, length, slice_get, is_some, is_none, Option, Some, None, All, refl, sym, ap, ◌∙◌, inl, inr, arith}
use Rattle.std.specs.List.{list_all}
use Rattle.std.proofs.lemmas.Bool.Decides.{leb_tells}
use Rattle.std.proofs.lemmas.List.{length-map}
use Rattle.std.proofs.lemmas.List.Elements.{All-nil, All-cons}
use Rattle.list_laws.proofs.Tests.{and_left, both_false, not_false}
use Rattle.texts.specs.Repeated.{repeated}
use Rattle.cell_library.specs.declared.listed.ListedCell.{ListedCell}
use Rattle.cell_library.specs.Laws.{OwnNamesAreExact}
use Rattle.cell_library.specs.Library.{own_kind_named}
use Rattle.cell_library.specs.Sound.{is_cell_name, is_port_name, IsSoundCell, IsLibrary, IsNewTo}
use Rattle.cell_text.specs.Words.{Words}
use Rattle.cell_text.specs.Cells.{cell_in}
use Rattle.cell_text.specs.Rules.{name_in, is_unfit, barred_after}
use Rattle.cell_text.specs.Reader.{CanBeCells}
use Rattle.cell_text.proofs.Barred.{IsFree, free_at}
use Rattle.cell_text.proofs.Written.{IsCellOf, cell_of_line, name_is}
use Rattle.cell_text.proofs.Again.{passed_ports, ports_apart}

none_there : {X : Type 0} (o : Option X) → is_some o ≡ false → o ≡ None
none_there None e = refl
none_there (Some x) e = absurd (cc)

pub sound_cell : (words : Words) (cell : ListedCell) → IsCellOf words cell → is_unfit cell.name ≡ false → IsSoundCell cell
sound_cell words cell is fit =
    let both = both_false (not (is_cell_name cell.name)) (is_some (own_kind_named cell.name)) fit in
    record {
      name = not_false (is_cell_name cell.name) both.0;
      ports = passed_ports (cell.output ∷ cell.inputs) (and_left (list_all is_port_name (cell.output ∷ cell.inputs)) (is_none (repeated (cell.output ∷ cell.inputs))) is.ports);
      apart = ports_apart (cell.output ∷ cell.inputs) is.ports;
      body = is.body;
    }

mapped_at : {X Y : Type 0} (f : X → Y) (xs : List X) (k : ℕ) (y : Y) → slice_get (map f xs) k ≡ Some y → (x : X) × (slice_get xs k ≡ Some x) × (f x ≡ y)
mapped_at f [] k y at = absurd (let none : None ≡ Some y = at in cc)
mapped_at f (x ∷ xs) zero y at = (x, refl, (let same : f x ≡ y = cc in same))
mapped_at f (x ∷ xs) (suc k) y at = mapped_at f xs k y at

taken_at : {X : Type 0} (n : ℕ) (xs : List X) (k : ℕ) (x : X) → slice_get (take n xs) k ≡ Some x → (k < n) × (slice_get xs k ≡ Some x)
taken_at zero xs k x at = absurd (let none : None ≡ Some x = at in cc)
taken_at (suc n) [] k x at = absurd (let none : None ≡ Some x = at in cc)
taken_at (suc n) (y ∷ xs) zero x at = (omega arith, at)
taken_at (suc n) (y ∷ xs) (suc k) x at = let more = taken_at n xs k x at in (omega arith, more.1)

-- what is known of the cell at a place
pub record Placed (rows : List Words) (k : ℕ) (cell : ListedCell) : Type 0 where
  pub words : Words
  pub there : slice_get rows k ≡ Some words
  pub is : IsCellOf words cell

slice_get-mapped : {X Y : Type 0} (f : X → Y) (xs : List X) (k : ℕ) (x : X) → slice_get xs k ≡ Some x → slice_get (map f xs) k ≡ Some (f x)
slice_get-mapped f [] k x at = absurd (let none : None ≡ Some x = at in cc)
slice_get-mapped {X = X} f (y ∷ xs) zero x at = let same : y ≡ x = cc in ap (λ (z : X). Some (f z)) same
slice_get-mapped f (y ∷ xs) (suc k) x at = slice_get-mapped f xs k x at

placed : OwnNamesAreExact → (rows : List Words) (library : List ListedCell) (k : ℕ) (cell : ListedCell) → map cell_in rows ≡ map (λ (c : ListedCell). Some c) library → slice_get library k ≡ Some cell → Placed rows k cell
placed exact rows library k cell same at =
    let there : slice_get (map (λ (c : ListedCell). Some c) library) k ≡ Some (Some cell) = slice_get-mapped (λ (c : ListedCell). Some c) library k cell at in
    let found = mapped_at cell_in rows k (Some cell) (ap (λ (l : List (Option ListedCell)). slice_get l k) same ∙ there) in
    record { words = found.0; there = found.1; is = cell_of_line exact found.0 cell found.2 }

name_at : (rows : List Words) (k : ℕ) (words : Words) → slice_get rows k ≡ Some words → slice_get (map name_in rows) k ≡ Some (name_in words)
name_at [] k words at = absurd (let none : None ≡ Some words = at in cc)
name_at (y ∷ rows) zero words at = let same : y ≡ words = cc in ap (λ (z : Words). Some (name_in z)) same
name_at (y ∷ rows) (suc k) words at = name_at rows k words at

-- the name of the cell at a place is free there
free_cell : (rows : List Words) (k : ℕ) (words : Words) (cell : ListedCell) → barred_after [] (map name_in rows) ≡ None → slice_get rows k ≡ Some words → IsCellOf words cell → IsFree (map name_in rows) k cell.name
free_cell rows k words cell none at is = free_at (map name_in rows) k cell.name none (name_at rows k words at ∙ ap (λ (n : List ℕ). Some n) (name_is words cell is))

pub kind_free : (name : List ℕ) → is_unfit name ≡ false → own_kind_named name ≡ None
kind_free name fit = none_there (own_kind_named name) (both_false (not (is_cell_name name)) (is_some (own_kind_named name)) fit).1

within : {X : Type 0} (xs : List X) (k : ℕ) (x : X) → slice_get xs k ≡ Some x → k < length xs
within [] k x at = absurd (let none : None ≡ Some x = at in cc)
within (y ∷ xs) zero x at = omega arith
within (y ∷ xs) (suc k) x at = let more = within xs k x at in omega arith

taken_few : {X : Type 0} (n : ℕ) (xs : List X) → length (take n xs) ≤ n
taken_few zero xs = omega arith
taken_few (suc n) [] = omega arith
taken_few (suc n) (x ∷ xs) = let more = taken_few n xs in omega arith

-- what `add` asks of the next cell
pub record CanAdd (library : List ListedCell) (cell : ListedCell) : Type 0 where
  pub room : length library < 4096
  pub sound : IsSoundCell cell
  pub name : IsNewTo library cell.name

pub can_add : OwnNamesAreExact → (rows : List Words) (k : ℕ) (words : Words) (library : List ListedCell) (cell : ListedCell) → CanBeCells rows → slice_get rows k ≡ Some words
    → map cell_in (take k rows) ≡ map (λ (c : ListedCell). Some c) library → cell_in words ≡ Some cell → CanAdd library cell
can_add exact rows k words library cell can at same e =
    let is = cell_of_line exact words cell e in
    let free = free_cell rows k words cell can.names at is in
    let low = within rows k words at in
    let a : length (map cell_in (take k rows)) ≡ length (map (λ (c : ListedCell). Some c) library) = ap length same in
    let b : length (map cell_in (take k rows)) ≡ length (take k rows) = length-map (take k rows) cell_in in
    let c : length (map (λ (c : ListedCell). Some c) library) ≡ length library = length-map library (λ (c : ListedCell). Some c) in
    let d : length (take k rows) ≤ k = taken_few k rows in
    let few = can.few in
    record {
      room = omega arith;
      sound = sound_cell words cell is free.fit;
      name = record {
        free = kind_free cell.name free.fit;
        new = λ number other there.
            let before = placed exact (take k rows) library number other same there in
            let there_too = taken_at k rows number before.words before.there in
            free.new number other.name there_too.0 (name_at rows number before.words there_too.1 ∙ ap (λ (n : List ℕ). Some n) (name_is before.words other before.is));
      };
    }

-- the cells of all lines are a library
pub all_each : {X : Type 0} (P : X → Type 0) (xs : List X) → ((k : ℕ) (x : X) → slice_get xs k ≡ Some x → P x) → All P xs
all_each P [] each = All-nil P
all_each P (x ∷ xs) each = All-cons P x xs (each 0 x refl) (all_each P xs (λ k y at. each (suc k) y at))

pub are_library : OwnNamesAreExact → (rows : List Words) (library : List ListedCell) → CanBeCells rows → map cell_in rows ≡ map (λ (c : ListedCell). Some c) library → IsLibrary library
are_library exact rows library can same = record {
  few =
      let a : length (map cell_in rows) ≡ length (map (λ (c : ListedCell). Some c) library) = ap length same in
      let b : length (map cell_in rows) ≡ length rows = length-map rows cell_in in
      let c : length (map (λ (c : ListedCell). Some c) library) ≡ length library = length-map library (λ (c : ListedCell). Some c) in
      let few = can.few in
      omega arith;
  sound = all_each IsSoundCell library (λ k cell at. let p = placed exact rows library k cell same at in sound_cell p.words cell p.is (free_cell rows k p.words cell can.names p.there p.is).fit);
  named = λ k cell at. let p = placed exact rows library k cell same at in kind_free cell.name (free_cell rows k p.words cell can.names p.there p.is).fit;
  once = λ i j cell other at there alike. elim (leb_tells i j) [
    | inl h ↦ elim (leb_tells j i) [
      | inl k ↦ omega arith
      | inr k ↦ absurd (apart i j cell other k.1 at there alike)
    ]
    | inr h ↦ absurd (apart j i other cell h.1 there at (sym alike))
  ];
}
  where
    apart : (i j : ℕ) (cell other : ListedCell) → i < j → slice_get library i ≡ Some cell → slice_get library j ≡ Some other → cell.name ≡ other.name → ⊥
    apart i j cell other low at there alike =
        let p = placed exact rows library i cell same at in
        let q = placed exact rows library j other same there in
        let free = free_cell rows j q.words other can.names q.there q.is in
        free.new i cell.name low (name_at rows i p.words p.there ∙ ap (λ (n : List ℕ). Some n) (name_is p.words cell p.is)) alike
